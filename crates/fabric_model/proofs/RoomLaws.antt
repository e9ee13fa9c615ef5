-- Room at a port, and that no request leaves.
use Rattle.fabric_model.proofs.Prelude.{◌≡◌, ◌↔◌, ℕ, ◌+◌, ◌-◌, ◌<◌, true, false, List, [], ◌∷◌, arith, AllByRecursion, ltb-true, lt-ltb, is_request, PortRef, Network, held, room_in, places, to_send, room_out, Take, Leave, Step, Linked, AtNode, ByDevice, after, LegalFrom, packets_left}

pub hold_room : (net : Network) (p : PortRef) (r free : ℕ) → held net p + free ≡ net.buffers p
    → (room_in net p r ≡ true) ↔ (3 - r < free)
hold_room net p r free all = (
  λ room. (let low = ltb-true (held net p + (3 - r)) (net.buffers p) room in
      omega (arith, low, all)),
  λ low. lt-ltb (held net p + (3 - r)) (net.buffers p) (omega (arith, low, all)),
)

pub send_room : (net : Network) (p : PortRef) (r : ℕ)
    → (room_out net p r ≡ true) ↔ (to_send net p r < 16)
send_room net p r = (ltb-true (to_send net p r) places, lt-ltb (to_send net p r) places)

pub none_leaves : (start : Network) (steps : List Step) (end : Network) → LegalFrom start steps end
    → AllByRecursion (λ packet. is_request packet ≡ false) (packets_left steps)
none_leaves start [] end legal = tt
none_leaves start (Linked step ∷ steps) end legal =
    none_leaves (after start (Linked step)) steps end legal.1
none_leaves start (AtNode (Take n packet) ∷ steps) end legal =
    none_leaves (after start (AtNode (Take n packet))) steps end legal.1
none_leaves start (AtNode (Leave n packet) ∷ steps) end legal =
    (legal.0.2, none_leaves (after start (AtNode (Leave n packet))) steps end legal.1)
none_leaves start (ByDevice step ∷ steps) end legal =
    none_leaves (after start (ByDevice step)) steps end legal.1
