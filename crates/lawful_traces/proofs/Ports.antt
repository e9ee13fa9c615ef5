-- What is known of a script is so of the network that it sets up: nodes, ports and links.
use Rattle.lawful_traces.proofs.Prelude.{◌≡◌, ℕ, zero, suc, ◌<◌, Bool, true, false, List, [], ◌∷◌, ◌++◌, map, length, Some, option_map, slice_get, get_or, if◌then◌else◌, refl, sym, ap, ◌∙◌, subst, arith, append-nil, AllByRecursion, Registers, is_switch, Node, PortRef, Line, Endpoint, Switch, Numbered, Known, nothing, known_after, nodes_after, node_ports, is_linked, new_name, PassesFrom, ScriptPasses, count-after, Network, bare, same_port, peer_in, IsEndpoint, Step, after, HasPort, IsPortOf, count_ports, port_before, set_up, set_up_all, count_at, may_set_up, scripts_join, made_by, set_up-links, set_up-map, set_up_bare, IsScriptPort, IsEnd, nodes_all, links_all, KnowsScript}
use Rattle.std.proofs.lemmas.List.{map-append, length-map}
use Rattle.maint_registers.specs.Within.{IsWithin}
use Rattle.fabric_model.proofs.Flows.{switches_stay}
use Rattle.fabric_model.proofs.Joining.{links_stay}

-- what a check knows of the network that lines of a trace lead to
pub record KnowsNet (known : Known) (net : Network) : Type 0 where
  pub ports : (p : PortRef) → IsPortOf net.registers p → IsScriptPort known p
  pub nodes : (n : ℕ) → IsEndpoint net n → n < length known.names
  pub ends : (p q : PortRef) → peer_in net.links p ≡ Some q → IsEnd known p

-- no step changes it
pub knows_on : (known : Known) (net : Network) (step : Step) → KnowsNet known net
    → KnowsNet known (after net step)
knows_on known net step knows = record {
  ports = λ p is. knows.ports p (port_before net step p is);
  nodes = λ n is. knows.nodes n (sym (switches_stay net step n) ∙ is);
  ends = λ p q peer. knows.ends p q
      (ap (λ (links : List (PortRef × PortRef)). peer_in links p) (sym (links_stay net step))
      ∙ peer);
}

-- ---- counts of ports

abbrev counts_of : List Node → List ℕ
counts_of nodes = map (λ node. node_ports (Some node)) nodes

counts_made : (nodes : List Node) (line : Line)
    → counts_of nodes ++ map count_ports (made_by line) ≡ counts_of (nodes_after nodes line)
counts_made nodes (Endpoint name id) = sym (map-append (λ node. node_ports (Some node)) nodes _)
counts_made nodes (Switch name ports) = sym (map-append (λ node. node_ports (Some node)) nodes _)
counts_made nodes _ = append-nil _

counted_all : (script : List Numbered) (nodes : List Node) (net : Network)
    → map count_ports net.registers ≡ counts_of nodes
    → map count_ports (set_up_all net script).registers ≡ counts_of (nodes_all nodes script)
counted_all [] nodes net same = same
counted_all (line ∷ script) nodes net same =
    counted_all script (nodes_after nodes line.line) (set_up net line.line)
    (set_up-map count_ports (λ device linked routes port lock large. refl) net line.line
    ∙ (ap (λ xs. xs ++ map count_ports (made_by line.line)) same ∙ counts_made nodes line.line))

linked_all : (script : List Numbered) (net : Network)
    → (set_up_all net script).links ≡ links_all net.links script
linked_all [] net = refl
linked_all (line ∷ script) net =
    linked_all script (set_up net line.line)
    ∙ ap (λ (links : List (PortRef × PortRef)). links_all links script)
    (set_up-links net line.line)

names_count : (script : List Numbered) (known : Known) (names : List (List ℕ))
    → length known.nodes ≡ length known.names → PassesFrom known names script
    → length (nodes_all known.nodes script) ≡ length names
names_count [] known names same passes = same ∙ ap length passes
names_count (line ∷ script) known names same passes =
    names_count script (known_after known (new_name names line.line) line.line) names
    (count-after known (new_name names line.line) line.line same) passes.2

has_count : (devices : List Registers) (n k : ℕ) → HasPort (slice_get devices n) k
    → k < get_or (map count_ports devices) n 0
has_count [] n k has = absurd has
has_count (device ∷ devices) zero k has = has
has_count (device ∷ devices) (suc n) k has = has_count devices n k has

has_node : (devices : List Registers) (n k : ℕ) → HasPort (slice_get devices n) k
    → n < length devices
has_node [] n k has = absurd has
has_node (device ∷ devices) zero k has = omega arith
has_node (device ∷ devices) (suc n) k has =
    let rest = has_node devices n k has in omega (arith, rest)

has_few : (devices : List Registers) (n k : ℕ) → AllByRecursion IsWithin devices
    → HasPort (slice_get devices n) k → k < 16
has_few [] n k within has = absurd has
has_few (device ∷ devices) zero k within has =
    let most = within.0.ports in
    let low : k < device.ports = has in
    omega (arith, most, low)
has_few (device ∷ devices) (suc n) k within has = has_few devices n k within.1 has

endpoint_within : (devices : List Registers) (n : ℕ)
    → option_map is_switch (slice_get devices n) ≡ Some false → n < length devices
endpoint_within [] n is = absurd cc
endpoint_within (device ∷ devices) zero is = omega arith
endpoint_within (device ∷ devices) (suc n) is =
    let rest = endpoint_within devices n is in omega (arith, rest)

linked_by : (links : List (PortRef × PortRef)) (p q : PortRef) → peer_in links p ≡ Some q
    → is_linked links p ≡ true
linked_by [] p q peer = absurd cc
linked_by (link ∷ links) p q peer =
    by_tests (same_port link.0 p) (same_port link.1 p) refl refl (linked_by links p q) peer
  where
    by_tests : (s t : Bool) → same_port link.0 p ≡ s → same_port link.1 p ≡ t
        → (peer_in links p ≡ Some q → is_linked links p ≡ true)
        → (if s then Some link.1 else (if t then Some link.0 else peer_in links p)) ≡ Some q
        → is_linked (link ∷ links) p ≡ true
    by_tests true t a b later is = rw a refl
    by_tests false true a b later is = rw (a, b) refl
    by_tests false false a b later is = rw (a, b) (later is)

-- ---- of a script

module _ (names : List (List ℕ)) (script : List Numbered) (known : Known)
    (passes : ScriptPasses names script) (knows : KnowsScript names script known) where
  abbrev net : Network
  net = set_up_all bare script

  counts : map count_ports net.registers ≡ counts_of known.nodes
  counts = counted_all script [] bare refl ∙ ap counts_of (sym knows.nodes_are)

  long : length net.registers ≡ length known.names
  long = sym (length-map net.registers count_ports)
      ∙ (ap length counts
      ∙ (length-map known.nodes (λ node. node_ports (Some node))
      ∙ (ap length knows.nodes_are
      ∙ (names_count script nothing names refl passes ∙ sym (ap length knows.names_are)))))

  port_known : (p : PortRef) → IsPortOf net.registers p → IsScriptPort known p
  port_known p is = (
    subst (λ n. p.node < n) long (has_node net.registers p.node p.port is),
    has_few net.registers p.node p.port (set_up_bare script (may_set_up names script passes)).within
        is,
    subst (λ n. p.port < n) (ap (λ xs. get_or xs p.node 0) counts
        ∙ sym (count_at node_ports known.nodes p.node refl))
        (has_count net.registers p.node p.port is),
  )

  pub knows_net : KnowsNet known net
  knows_net = record {
    ports = port_known;
    nodes = λ n is. subst (λ m. n < m) long (endpoint_within net.registers n is);
    ends = λ p q peer. (
      port_known p ((scripts_join names script passes).links p q peer).0,
      subst (λ (links : List (PortRef × PortRef)). is_linked links p ≡ true)
          (linked_all script bare ∙ sym knows.links_are) (linked_by net.links p q peer),
    );
  }
