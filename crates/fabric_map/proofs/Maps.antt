-- One fabric has one map.
use Rattle.fabric_map.proofs.Prelude.{◌≡◌, ℕ, ◌<◌, List, [], ◌∷◌, ◌++◌, Option, Some, None, ◌⊎◌, inl, inr, subst, sym, refl, ap, ◌∙◌, cases_order, PortRef, Kind, Endpoint, Switch, Device, Entry, Topology, entered, after_all_paths, paths_of, IsLeastFree, IsIdOf, IsKindAt, IsDescribed, AreDescribed, entries_of, IsMap}
use Rattle.fabric_map.proofs.Walks.{one_walk}

least_one : (before : List Device) (a b : ℕ) → IsLeastFree before a → IsLeastFree before b → a ≡ b
least_one before a b one two = go (cases_order a b)
  where
    go : (a ≡ b) ⊎ ((a < b) ⊎ (b < a)) → a ≡ b
    go (inl same) = same
    go (inr (inl less)) = let given = two.least a less in let free = one.free in absurd (cc)
    go (inr (inr more)) = let given = one.least b more in let free = two.free in absurd (cc)

id_one : (host_id : ℕ) (before : List Device) (a b : ℕ) → IsIdOf host_id before a
    → IsIdOf host_id before b → a ≡ b
id_one host_id [] a b one two = one ∙ sym two
id_one host_id (first ∷ rest) a b one two = least_one (first ∷ rest) a b one two

kind_one : (host_id : ℕ) (before : List Device) (at : PortRef) (ports : Option ℕ) (a b : Kind)
    → IsKindAt host_id before at ports a → IsKindAt host_id before at ports b → a ≡ b
kind_one host_id before at None (Endpoint id) (Endpoint other) one two =
    ap (λ n. Endpoint n) (id_one host_id before id other one two)
kind_one host_id before at None (Endpoint id) (Switch ports entry) one two = absurd two
kind_one host_id before at None (Switch ports entry) other one two = absurd one
kind_one host_id before at (Some ports) (Endpoint id) other one two = absurd one
kind_one host_id before at (Some ports) (Switch shown entry) (Endpoint id) one two = absurd two
kind_one host_id before at (Some ports) (Switch shown entry) (Switch shown2 entry2) one two =
    let ports_same = one.0 ∙ sym two.0 in
    let entry_same = one.1 ∙ sym two.1 in
    cc

same_parts : (x y : Device) → x.tag ≡ y.tag → x.kind ≡ y.kind → x.path ≡ y.path → x ≡ y
same_parts x y tag kind path =
    ap (λ n. record { tag = n; kind = x.kind; path = x.path }) tag
    ∙ (ap (λ k. record { tag = y.tag; kind = k; path = x.path }) kind
    ∙ ap (λ p. record { tag = y.tag; kind = y.kind; path = p }) path)

device_one : (topology : Topology) (host_id : ℕ) (before : List Device) (x y : Device)
    → IsDescribed topology host_id before x → IsDescribed topology host_id before y
    → x.path ≡ y.path → x ≡ y
device_one topology host_id before x y one two path =
    let tag : x.tag ≡ y.tag = one.tag ∙ sym two.tag in
    let some_at : Some one.at ≡ Some two.at = sym one.path ∙ (ap
    (λ p. entered topology p) path ∙ two.path) in
    let at : one.at ≡ two.at = cc in
    let kind : x.kind ≡ y.kind =
    kind_one host_id before two.at (topology.switch_ports two.at.node) x.kind y.kind
    (subst (λ p. IsKindAt host_id before p
    (topology.switch_ports p.node) x.kind) at one.kind) two.kind in
    same_parts x y tag kind path

devices_one : (topology : Topology) (host_id : ℕ) (before xs ys : List Device)
    → paths_of xs ≡ paths_of ys → AreDescribed topology host_id before xs
    → AreDescribed topology host_id before ys → xs ≡ ys
devices_one topology host_id before [] [] paths one two = refl
devices_one topology host_id before [] (y ∷ ys) paths one two = absurd (cc)
devices_one topology host_id before (x ∷ xs) [] paths one two = absurd (cc)
devices_one topology host_id before (x ∷ xs) (y ∷ ys) paths one two =
    let path : x.path ≡ y.path = cc in
    let rest : paths_of xs ≡ paths_of ys = cc in
    let first = device_one topology host_id before x y one.0 two.0 path in
    let others = devices_one topology host_id (before ++ y ∷ []) xs ys rest
    (subst (λ d. AreDescribed topology host_id (before ++ d ∷ []) xs) first one.1) two.1 in
    cc

pub one_map : (topology : Topology) (host_id : ℕ) (devices others : List Device)
    (entries other_entries : List Entry) → IsMap topology host_id devices entries
    → IsMap topology host_id others other_entries → (devices ≡ others) × (entries ≡ other_entries)
one_map topology host_id devices others entries other_entries one two =
    let paths = one_walk topology after_all_paths (paths_of devices)
    (paths_of others) one.walked two.walked in
    let same = devices_one topology host_id [] devices others paths one.described two.described in
    (same, one.listed ∙ (ap (λ l. entries_of l) same ∙ sym two.listed))
