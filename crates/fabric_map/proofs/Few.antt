-- A walk meets no more devices than there are.
use Rattle.fabric_map.proofs.Prelude.{◌≡◌, ◌≢◌, ℕ, ◌<◌, ◌≤◌, ◌||◌, Bool, true, false, eqb, List, [], ◌∷◌, length, map, Option, Some, None, IsSome, option_map, unwrap_or, AllPairs, Contains, arith, subst, sym, refl, ap, ◌∙◌, ne_eqb, list_any, IsDistinct, AllByRecursion, option_and_then, eqb-true, All-contains, same_Some, PortRef, port_at, Topology, IsTopology, IsPortIn, device_ports, behind_port, along, entered, node_at, Before, Walked}
use Rattle.std.proofs.lemmas.List.{length-map}
use Rattle.std.proofs.lemmas.Map.Steps.{length-le_from_distinct_below}
use Rattle.std.proofs.lemmas.Map.Keys.{IsDistinct-cons}
use Rattle.fabric_map.proofs.Order.{Before-irreflexive}
use Rattle.fabric_map.proofs.Lists.{Contains-first, Contains-rest, AllPairs-first, AllPairs-rest}
use Rattle.fabric_map.proofs.Ways.{behind-link}

along-port : (topology : Topology) (at last : PortRef) (path : List ℕ)
    → IsTopology topology → IsPortIn topology at → along topology at path ≡ Some last
    → IsPortIn topology last
along-port topology at last [] proper is leads =
    subst (λ p. IsPortIn topology p) (same_Some at last leads) is
along-port topology at last (port ∷ path) proper is leads =
    go (behind_port topology at.node port) refl leads
    (λ next there on. along-port topology next last path proper there on)
  where
    go : (o : Option PortRef) → behind_port topology at.node port ≡ o
        → option_and_then (λ next. along topology next path) o ≡ Some last
        → ((next : PortRef) → IsPortIn topology next → along topology next path ≡ Some last
        → IsPortIn topology last)
        → IsPortIn topology last
    go None is_next leads on = absurd (cc)
    go (Some next) is_next leads on =
        let link = behind-link topology at.node port next is_next in
        on next (proper.ports next (port_at at.node port)
        (proper.both_ways (port_at at.node port) next link.0)) leads

-- a path enters its device by one of its ports
pub entered-port : (topology : Topology) (path : List ℕ) (at : PortRef)
    → IsTopology topology → entered topology path ≡ Some at → IsPortIn topology at
entered-port topology path at proper leads =
    along-port topology (port_at topology.host 0) at path proper
    (record { node = proper.host; port = subst (λ n. 0 < n) (sym one) (omega arith) }) leads
  where
    one : device_ports topology topology.host ≡ 1
    one = ap (λ o. unwrap_or o 1) proper.host_is_endpoint

-- and this is one of the devices
pub entered-inside : (topology : Topology) (path : List ℕ) (at : PortRef)
    → IsTopology topology → entered topology path ≡ Some at → at.node < topology.nodes
entered-inside topology path at proper leads = (entered-port topology path at proper leads).node

abbrev number_of : Topology → List ℕ → ℕ
number_of topology path = unwrap_or (node_at topology path) 0

pub same_number : (o p : Option ℕ) → IsSome o → IsSome p → unwrap_or o 0 ≡ unwrap_or p 0 → o ≡ p
same_number None p one two same = absurd (cc)
same_number (Some x) None one two same = absurd (cc)
same_number (Some x) (Some y) one two same = ap (λ n. Some n) same

apart : (f : List ℕ → ℕ) (n : ℕ) (paths : List (List ℕ))
    → ((p : List ℕ) → Contains paths p → n ≢ f p)
    → IsDistinct eqb (map f paths) → IsDistinct eqb (n ∷ map f paths)
apart f n paths other distinct = IsDistinct-cons eqb n (map f paths) (go paths other) distinct
  where
    go : (paths : List (List ℕ)) → ((p : List ℕ) → Contains paths p → n ≢ f p)
        → AllByRecursion (λ y. eqb n y ≡ false) (map f paths)
    go [] other = tt
    go (p ∷ paths) other = (
      ne_eqb n (f p) (other p (Contains-first p paths)),
      go paths (λ q listed. other q (Contains-rest p paths q listed)),
    )

distinct : (f : List ℕ → ℕ) (paths : List (List ℕ)) → AllPairs Before paths
    → ((p q : List ℕ) → Contains paths p → Contains paths q → f p ≡ f q → p ≡ q)
    → IsDistinct eqb (map f paths)
unfolding IsDistinct
distinct f [] ordered once = tt
distinct f (p ∷ paths) ordered once =
    apart f (f p) paths (λ q listed same.
    let equal = once p q (Contains-first p paths) (Contains-rest p paths q listed) same in
    Before-irreflexive p (subst (Before p) (sym equal)
    (All-contains (Before p) paths q (AllPairs-first Before p paths ordered) listed)))
    (distinct f paths (AllPairs-rest Before p paths ordered)
    (λ q r one two same. once q r (Contains-rest p paths q one) (Contains-rest p paths r two)
    same))

within : (f : List ℕ → ℕ) (n : ℕ) (paths : List (List ℕ))
    → ((p : List ℕ) → Contains paths p → f p < n)
    → (q : ℕ) → list_any (eqb q) (map f paths) ≡ true → q < n
within f n [] below q found = absurd (cc)
within f n (p ∷ paths) below q found =
    go (eqb q (f p)) refl found
    (within f n paths (λ r listed. below r (Contains-rest p paths r listed)) q)
  where
    go : (b : Bool) → eqb q (f p) ≡ b → (b || list_any (eqb q) (map f paths)) ≡ true
        → (list_any (eqb q) (map f paths) ≡ true → q < n) → q < n
    go true is found on =
        subst (λ k. k < n) (sym (eqb-true q (f p) is)) (below p (Contains-first p paths))
    go false is found on = on found

-- the numbers of the devices of a walk are different, and below the number of devices
numbered : (topology : Topology) (paths : List (List ℕ)) (bound : List ℕ)
    → IsTopology topology → Walked topology paths bound
    → IsDistinct eqb (map (number_of topology) paths)
    × ((q : ℕ) → list_any (eqb q) (map (number_of topology) paths) ≡ true → q < topology.nodes)
numbered topology paths bound proper walked = (
  distinct (number_of topology) paths walked.ordered
      (λ p q one two same. walked.once p q one two
      (same_number (node_at topology p) (node_at topology q) (leads p one) (leads q two) same)),
  within (number_of topology) topology.nodes paths (λ p listed. inside p (leads p listed)),
)
  where
    leads : (p : List ℕ) → Contains paths p → IsSome (node_at topology p)
    leads p listed =
        All-contains (λ path. IsSome (node_at topology path)) paths p walked.leading listed

    inside : (p : List ℕ) → IsSome (node_at topology p) → number_of topology p < topology.nodes
    inside p some = go (entered topology p) refl some
      where
        go : (o : Option PortRef) → entered topology p ≡ o
            → IsSome (option_map (λ (at : PortRef). at.node) o)
            → unwrap_or (option_map (λ (at : PortRef). at.node) o) 0 < topology.nodes
        go None is some = absurd (cc)
        go (Some at) is some = entered-inside topology p at proper is

pub walked-few : (topology : Topology) (paths : List (List ℕ)) (bound : List ℕ)
    → IsTopology topology → Walked topology paths bound → length paths ≤ topology.nodes
walked-few topology paths bound proper walked =
    let all = numbered topology paths bound proper walked in
    subst (λ n. n ≤ topology.nodes) (length-map paths (number_of topology))
    (length-le_from_distinct_below (map (number_of topology) paths) topology.nodes all.0 all.1)

-- and fewer while a device is not met
pub walked-fewer : (topology : Topology) (paths : List (List ℕ)) (bound : List ℕ) (node : ℕ)
    → IsTopology topology → Walked topology paths bound → node < topology.nodes
    → ((path : List ℕ) → Contains paths path → node_at topology path ≢ Some node)
    → length paths < topology.nodes
walked-fewer topology paths bound node proper walked inside unmet =
    let all = numbered topology paths bound proper walked in
    subst (λ n. n < topology.nodes) (length-map paths (number_of topology))
    (length-le_from_distinct_below (node ∷ map (number_of topology) paths) topology.nodes
    (apart (number_of topology) node paths other all.0)
    (λ q found. below q (eqb q node) refl found all.1))
  where
    other : (p : List ℕ) → Contains paths p → node ≢ number_of topology p
    other p listed same = go (node_at topology p) refl
        (All-contains (λ path. IsSome (node_at topology path)) paths p walked.leading listed) same
      where
        go : (o : Option ℕ) → node_at topology p ≡ o → IsSome o → node ≢ unwrap_or o 0
        go None is some same = absurd (cc)
        go (Some n) is some same = unmet p listed (is ∙ ap (λ m. Some m) (sym same))

    below : (q : ℕ) (b : Bool) → eqb q node ≡ b
        → (b || list_any (eqb q) (map (number_of topology) paths)) ≡ true
        → ((r : ℕ) → list_any (eqb r) (map (number_of topology) paths) ≡ true
        → r < topology.nodes)
        → q < topology.nodes
    below q true is found on = subst (λ n. n < topology.nodes) (sym (eqb-true q node is)) inside
    below q false is found on = on q found
