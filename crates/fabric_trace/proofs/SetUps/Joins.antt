-- The links of a script that passes join ports of nodes, and each endpoint has its port.
use Rattle.fabric_trace.proofs.Prelude.{◌≡◌, ℕ, zero, suc, ◌<◌, Bool, true, false, List, [], ◌∷◌, ◌++◌, map, Some, option_map, slice_get, get_or, if◌then◌else◌, refl, sym, ap, ◌∙◌, subst, arith, append-nil, AllByRecursion, map-append, Registers, is_switch, PortRef, Line, Endpoint, Switch, Link, Numbered, Known, nothing, known_after, nodes_after, links_after, node_ports, ports_of, new_name, MayBe, PassesFrom, ScriptPasses, Network, bare, same_port, peer_in, HasPort, IsPortOf, JoinsNodes, all-append, all_weaker, count_ports, port_is, set_up, set_up_all}
use Rattle.fabric_trace.proofs.SetUps.Happening.{count_at}
use Rattle.fabric_trace.proofs.SetUps.SettingUp.{made_by, set_up-links, set_up-map}

-- ---- ports by counts

has_count : (devices : List Registers) (n k : ℕ) → HasPort (slice_get devices n) k
    → k < get_or (map count_ports devices) n 0
has_count [] n k has = absurd has
has_count (device ∷ devices) zero k has = has
has_count (device ∷ devices) (suc n) k has = has_count devices n k has

count_has : (devices : List Registers) (n k : ℕ) → k < get_or (map count_ports devices) n 0
    → HasPort (slice_get devices n) k
count_has [] n k low = absurd (omega (arith, low))
count_has (device ∷ devices) zero k low = low
count_has (device ∷ devices) (suc n) k low = count_has devices n k low

count_more : (xs ys : List ℕ) (n k : ℕ) → k < get_or xs n 0 → k < get_or (xs ++ ys) n 0
count_more [] ys n k low = absurd (omega (arith, low))
count_more (x ∷ xs) ys zero k low = low
count_more (x ∷ xs) ys (suc n) k low = count_more xs ys n k low

-- ---- what lines of set-up make of it

-- which devices are switches, and how many ports each has
abbrev kind_and_ports : Registers → Bool × ℕ
kind_and_ports device = (is_switch device, device.ports)

-- an endpoint has a port
abbrev HasOwn : Bool × ℕ → Type 0
HasOwn device = device.0 ≡ false → 0 < device.1

abbrev JoinsPorts : List Registers → PortRef × PortRef → Type 0
JoinsPorts devices link = IsPortOf devices link.0 × IsPortOf devices link.1

record Joined (known : Known) (net : Network) : Type 0 where
  counted : map count_ports net.registers ≡ map (λ node. node_ports (Some node)) known.nodes
  own : AllByRecursion HasOwn (map kind_and_ports net.registers)
  ends : AllByRecursion (JoinsPorts net.registers) net.links

counts_made : (known : Known) (line : Line)
    → map (λ node. node_ports (Some node)) known.nodes ++ map count_ports (made_by line)
    ≡ map (λ node. node_ports (Some node)) (nodes_after known.nodes line)
counts_made known (Endpoint name id) =
    sym (map-append (λ node. node_ports (Some node)) known.nodes _)
counts_made known (Switch name ports) =
    sym (map-append (λ node. node_ports (Some node)) known.nodes _)
counts_made known _ = append-nil _

own_made : (line : Line) → AllByRecursion HasOwn (map kind_and_ports (made_by line))
own_made (Endpoint name id) = (λ endpoint. omega arith, tt)
own_made (Switch name ports) = (λ endpoint. absurd (cc endpoint), tt)
own_made _ = tt

port_grows : (net : Network) (line : Line) (p : PortRef) → IsPortOf net.registers p
    → IsPortOf (set_up net line).registers p
port_grows net line p is =
    count_has (set_up net line).registers p.node p.port
    (subst (λ xs. p.port < get_or xs p.node 0)
    (sym (set_up-map count_ports (λ device linked routes port lock large. refl) net line))
    (count_more (map count_ports net.registers) (map count_ports (made_by line)) p.node p.port
    (has_count net.registers p.node p.port is)))

-- a port that is known is one of a node
known_port : (known : Known) (net : Network) (p : PortRef) → Joined known net
    → p.port < ports_of known.nodes p.node → IsPortOf net.registers p
known_port known net p joined within =
    count_has net.registers p.node p.port
    (subst (λ n. p.port < n)
    (count_at node_ports known.nodes p.node refl
    ∙ ap (λ xs. get_or xs p.node 0) (sym joined.counted)) within)

links_made : (known : Known) (new : List ℕ) (net : Network) (line : Line) → Joined known net
    → MayBe known new line
    → AllByRecursion (JoinsPorts (set_up net line).registers) (links_after net.links line)
links_made known new net line joined may = by_line line may
  where
    grows : (line : Line) → AllByRecursion (JoinsPorts (set_up net line).registers) net.links
    grows line = all_weaker (JoinsPorts net.registers) (JoinsPorts (set_up net line).registers)
        (λ link own. (port_grows net line link.0 own.0, port_grows net line link.1 own.1)) net.links
        joined.ends

    by_line : (line : Line) → MayBe known new line
        → AllByRecursion (JoinsPorts (set_up net line).registers) (links_after net.links line)
    by_line (Link a b) may =
        all-append (JoinsPorts (set_up net (Link a b)).registers) net.links ((a, b) ∷ [])
        (grows (Link a b)) (
          (
            port_grows net (Link a b) a (known_port known net a joined may.fit.0.2),
            port_grows net (Link a b) b (known_port known net b joined may.fit.1.0.2),
          ),
          tt,
        )
    by_line line may = grows line

joined_after : (known : Known) (new : List ℕ) (net : Network) (line : Line) → Joined known net
    → MayBe known new line → Joined (known_after known new line) (set_up net line)
joined_after known new net line joined may = record {
  counted = set_up-map count_ports (λ device linked routes port lock large. refl) net line
      ∙ ap (λ xs. xs ++ map count_ports (made_by line)) joined.counted ∙ counts_made known line;
  own =
      subst (AllByRecursion HasOwn)
      (sym (set_up-map kind_and_ports (λ device linked routes port lock large. refl) net line))
      (all-append HasOwn (map kind_and_ports net.registers) (map kind_and_ports (made_by line))
      joined.own (own_made line));
  ends =
      subst (AllByRecursion (JoinsPorts (set_up net line).registers)) (sym (set_up-links net line))
      (links_made known new net line joined may);
}

-- ---- whole scripts

-- the endpoints and links of the network
own_port : (devices : List Registers) (n : ℕ) → AllByRecursion HasOwn (map kind_and_ports devices)
    → option_map is_switch (slice_get devices n) ≡ Some false → HasPort (slice_get devices n) 0
own_port [] n own endpoint = absurd cc
own_port (device ∷ devices) zero own endpoint =
    (let kind : is_switch device ≡ false = cc in own.0 kind)
own_port (device ∷ devices) (suc n) own endpoint = own_port devices n own.1 endpoint

peer_ports : (devices : List Registers) (links : List (PortRef × PortRef)) (p q : PortRef)
    → AllByRecursion (JoinsPorts devices) links → peer_in links p ≡ Some q
    → IsPortOf devices p × IsPortOf devices q
peer_ports devices [] p q ends peer = absurd cc
peer_ports devices (link ∷ links) p q ends peer =
    by_tests (peer_ports devices links p q ends.1) (same_port link.0 p)
    (same_port link.1 p) refl refl peer
  where
    by_tests : (peer_in links p ≡ Some q → IsPortOf devices p × IsPortOf devices q) → (s t : Bool)
        → same_port link.0 p ≡ s → same_port link.1 p ≡ t
        → (if s then Some link.1 else (if t then Some link.0 else peer_in links p)) ≡ Some q
        → IsPortOf devices p × IsPortOf devices q
    by_tests later true t a b is =
        let here : link.0 ≡ p = port_is link.0 p a in
        let there : link.1 ≡ q = cc in
        (subst (IsPortOf devices) here ends.0.0, subst (IsPortOf devices) there ends.0.1)
    by_tests later false true a b is =
        let here : link.1 ≡ p = port_is link.1 p b in
        let there : link.0 ≡ q = cc in
        (subst (IsPortOf devices) here ends.0.1, subst (IsPortOf devices) there ends.0.0)
    by_tests later false false a b is = later is

joins_of : (known : Known) (net : Network) → Joined known net → JoinsNodes net
joins_of known net joined = record {
  endpoints = λ n is. own_port net.registers n joined.own is;
  links = λ p q peer. peer_ports net.registers net.links p q joined.ends peer;
}

joins_from : (known : Known) (names : List (List ℕ)) (net : Network) (lines : List Numbered)
    → Joined known net → PassesFrom known names lines → JoinsNodes (set_up_all net lines)
joins_from known names net [] joined passes = joins_of known net joined
joins_from known names net (line ∷ lines) joined passes =
    let new = new_name names line.line in
    joins_from (known_after known new line.line) names (set_up net line.line) lines
    (joined_after known new net line.line joined passes.0) passes.2

pub scripts_join : (names : List (List ℕ)) (lines : List Numbered) → ScriptPasses names lines
    → JoinsNodes (set_up_all bare lines)
scripts_join names lines passes =
    joins_from nothing names bare lines (record { counted = refl; own = tt; ends = tt }) passes
