-- Where the walk of a packet goes, and how many hops it has left then.
use Rattle.fabric_ask.proofs.Prelude.{◌≡◌, ℕ, zero, suc, ◌==◌, ◌&&◌, not, true, false, List, Option, Some, None, refl, sym, ap, ◌∙◌, subst, arith, if◌then◌else◌, MatchBool, option_and_then, ne_eqb, and_right, ftype_of, is_maintenance, is_request, Lowered, dest_of, Registers, next_port, Nowhere, RegisterUnit, is_foreign, is_at_end, to_port, next_of, moved, is_spent, PortRef, port_at, Topology, AllRegisters, walk, peer_in, MovesTo, moves_on, peer_back, AreProper, topology_of, registers_of, hops_left, IsOn}
use Rattle.fabric_ask.proofs.Lowering.{dest_same, hop_less}

-- ---- the packet

not_foreign : (packet : List ℕ) → is_maintenance packet ≡ true → is_foreign packet ≡ false
not_foreign packet is = ap (λ b. (ftype_of packet == 8) && not b) is
    ∙ and_right (ftype_of packet == 8) false refl

-- where a switch sends it, with no hop left, and with one
pub next_ends : (device : Registers) (packet : List ℕ) (dest : ℕ) → IsOn packet dest 0
    → next_of device packet ≡ (if is_request packet then RegisterUnit else Nowhere)
next_ends device packet dest on =
    let foreign = not_foreign packet on.maintenance in
    let hop = on.hop in
    λ i. if foreign i then Nowhere
    else (if is_spent (hop i) then (if is_request packet then RegisterUnit else Nowhere)
    else to_port (option_and_then (next_port device) (dest_of packet)))

pub next_goes : (device : Registers) (packet : List ℕ) (dest h : ℕ) → IsOn packet dest (suc h)
    → next_of device packet ≡ to_port (next_port device dest)
next_goes device packet dest h on =
    let foreign = not_foreign packet on.maintenance in
    let hop = on.hop in
    let goal = on.goal in
    (λ i. if foreign i then Nowhere
    else (if is_spent (hop i) then (if is_request packet then RegisterUnit else Nowhere)
    else to_port (option_and_then (next_port device) (goal i))))
    ∙ ap (λ b. if b then (if is_request packet then RegisterUnit else Nowhere)
    else to_port (next_port device dest)) (ne_eqb (suc h) 0 (λ same. omega arith))

-- it moves on
pub on_moves : (packet : List ℕ) (dest h : ℕ) → IsOn packet dest (suc h)
    → IsOn (moved packet) dest h
on_moves packet dest h on =
    let goes : is_at_end packet ≡ false =
    ap is_spent on.hop ∙ ne_eqb (suc h) 0 (λ same. omega arith) in
    let moves = moves_on packet on.passes goes in
    let low : MovesTo packet (moved packet) = moves.once in
    let lower : Lowered packet (moved packet) =
    subst (λ b. MatchBool b (Lowered packet (moved packet)) (moved packet ≡ packet))
    on.maintenance low in
    record {
      passes = moves.passes;
      maintenance = lower.is;
      goal = dest_same packet (moved packet) lower ∙ on.goal;
      hop = hop_less packet (moved packet) lower h on.hop;
    }

-- ---- the walk

module _ (topology : Topology) (registers : AllRegisters) (dest : ℕ) where
  -- over a link to an endpoint
  pub walk_endpoint : (n : ℕ) (p q : PortRef) → topology.peer p ≡ Some q
      → topology.switch_ports q.node ≡ None → walk topology registers dest n p ≡ Some q
  walk_endpoint zero p q peer kind = peer
  walk_endpoint (suc n) p q peer kind = rw peer (rw kind refl)

  walk_ends : (p q : PortRef) → topology.peer p ≡ Some q → walk topology registers dest 0 p ≡ Some q
  walk_ends p q peer = peer

  pub walk_switch : (n ports : ℕ) (p q : PortRef) → topology.peer p ≡ Some q
      → topology.switch_ports q.node ≡ Some ports
      → walk topology registers dest (suc n) p ≡ option_and_then
      (λ port. walk topology registers dest n (port_at q.node port))
      (next_port (registers q.node) dest)
  walk_switch n ports p q peer kind = rw peer (rw kind refl)

  pub walk_none : (n : ℕ) (p : PortRef) → topology.peer p ≡ None
      → walk topology registers dest n p ≡ None
  walk_none zero p none = none
  walk_none (suc n) p none = rw none refl

module _ (topology : Topology) (registers : AllRegisters) (dest : ℕ) where
  pub left_endpoint : (n : ℕ) (p q : PortRef) → topology.peer p ≡ Some q
      → topology.switch_ports q.node ≡ None → hops_left topology registers dest n p ≡ n
  left_endpoint zero p q peer kind = refl
  left_endpoint (suc n) p q peer kind = rw peer (rw kind refl)

  pub left_switch : (n ports to : ℕ) (p q : PortRef) → topology.peer p ≡ Some q
      → topology.switch_ports q.node ≡ Some ports → next_port (registers q.node) dest ≡ Some to
      → hops_left topology registers dest (suc n) p
      ≡ hops_left topology registers dest n (port_at q.node to)
  left_switch n ports to p q peer kind port = rw peer (rw kind (rw port refl))

-- A walk ends at the end of a link.
module _ (regs : List Registers) (links : List (PortRef × PortRef)) (host dest : ℕ)
    (proper : AreProper links) where
  abbrev way_topology : Topology
  way_topology = topology_of regs links host

  abbrev way_table : AllRegisters
  way_table = registers_of regs

  pub walk_peer : (n : ℕ) (p at : PortRef)
      → walk (topology_of regs links host) (registers_of regs) dest n p ≡ Some at
      → (q : PortRef) × (peer_in links at ≡ Some q)
  walk_peer zero p at ends = (p, peer_back links at p proper ends)
  walk_peer (suc n) p at ends =
      by_peer (peer_in links p) refl ends (λ q rest. walk_peer n q at rest)
    where
      by_port : (node : ℕ) (o : Option ℕ)
          → option_and_then (λ port. walk way_topology way_table dest n (port_at node port))
          o ≡ Some at
          → ((q : PortRef) → walk way_topology way_table dest n q ≡ Some at
          → (q : PortRef) × (peer_in links at ≡ Some q))
          → (q : PortRef) × (peer_in links at ≡ Some q)
      by_port node None is again = absurd cc
      by_port node (Some port) is again = again (port_at node port) is

      by_kind : (next : PortRef) (kind : Option ℕ) → way_topology.switch_ports next.node ≡ kind
          → peer_in links p ≡ Some next → walk way_topology way_table dest (suc n) p ≡ Some at
          → ((q : PortRef) → walk way_topology way_table dest n q ≡ Some at
          → (q : PortRef) × (peer_in links at ≡ Some q))
          → (q : PortRef) × (peer_in links at ≡ Some q)
      by_kind next None kind is end again =
          let here : Some next ≡ Some at =
          sym (walk_endpoint way_topology way_table dest (suc n) p next is kind)
          ∙ end in
          (p, peer_back links at p proper (is ∙ here))
      by_kind next (Some ports) kind is end again =
          by_port next.node (next_port (way_table next.node) dest)
          (sym (walk_switch way_topology way_table dest n ports p next is kind) ∙ end) again

      by_peer : (o : Option PortRef) → peer_in links p ≡ o
          → walk way_topology way_table dest (suc n) p ≡ Some at
          → ((q : PortRef) → walk way_topology way_table dest n q ≡ Some at
          → (q : PortRef) × (peer_in links at ≡ Some q))
          → (q : PortRef) × (peer_in links at ≡ Some q)
      by_peer None is end again =
          let bad : None ≡ Some at = sym (walk_none way_topology way_table dest (suc n) p is)
          ∙ end in absurd cc
      by_peer (Some next) is end again =
          by_kind next (way_topology.switch_ports next.node) refl is end again
