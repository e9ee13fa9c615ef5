-- A step has what it needs, or has not.
use Rattle.judged_inputs.proofs.Prelude.{◌≡◌, ℕ, false, List, Option, Some, None, refl, ap, subst, inl, inr, prio_of, is_request, PortRef, Network, port_of, peer_in, first_packet, room_in, room_out, IsEndpoint, switch_at, Hold, Free, Take, Leave, Move, Drop, Answer, Step, Linked, AtNode, ByDevice, IsFirst, Needs, Decided, both_or_not, same_or_not}
use Rattle.maint_packets.specs.declared.next_hop.Next.{Next}
use Rattle.maint_packets.specs.declared.next_hop.Next.TheVariants.{Nowhere, RegisterUnit, Port}
use Rattle.fabric_model.specs.Serving.{next_at, response_at}
use Rattle.judged_inputs.proofs.Choices.{as_well, one_or_not, true_or_not, false_or_not, bool_or_not, number_or_not, is_or_not}
use Rattle.judged_inputs.proofs.WordChoice.{passes_or_not}

next_or_not : (a b : Next) → Decided (a ≡ b)
next_or_not Nowhere Nowhere = inl refl
next_or_not RegisterUnit RegisterUnit = inl refl
next_or_not (Port p) (Port q) = elim (number_or_not p q) [
  | inl same ↦ inl (ap (λ n. Port n) same)
  | inr other ↦ inr (λ e. other cc)
]
next_or_not Nowhere RegisterUnit = inr (λ e. cc)
next_or_not Nowhere (Port q) = inr (λ e. cc)
next_or_not RegisterUnit Nowhere = inr (λ e. cc)
next_or_not RegisterUnit (Port q) = inr (λ e. cc)
next_or_not (Port p) Nowhere = inr (λ e. cc)
next_or_not (Port p) RegisterUnit = inr (λ e. cc)

packet_or_not : (o : Option (List ℕ)) (packet : List ℕ) → Decided (o ≡ Some packet)
packet_or_not o packet = is_or_not same_or_not o packet

endpoint_or_not : (net : Network) (n : ℕ) → Decided (IsEndpoint net n)
endpoint_or_not net n = is_or_not bool_or_not (switch_at net n) false

first_or_not : (net : Network) (p : PortRef) (packet : List ℕ) → Decided (IsFirst net p packet)
first_or_not net p packet = packet_or_not (first_packet (net.received p (prio_of packet))) packet

goes_or_not : (net : Network) (n : ℕ) (packet : List ℕ) (next : Next)
    → Decided (next_at net n packet ≡ Some next)
goes_or_not net n packet next = is_or_not next_or_not (next_at net n packet) next

hold_or_not : (net : Network) (q : PortRef) (packet : List ℕ)
    → Decided (Needs net (Linked (Hold q packet)))
hold_or_not net q packet = by_peer (peer_in net.links q) refl
  where
    by_peer : (o : Option PortRef) → peer_in net.links q ≡ o
        → Decided (Needs net (Linked (Hold q packet)))
    by_peer None e = inr (λ needs.
        let peer = needs.1 in
        cc)
    by_peer (Some p) e = elim (both_or_not
        (packet_or_not (first_packet (net.waiting p (prio_of packet))) packet)
        (true_or_not (room_in net q (prio_of packet)))) [
          | inl has ↦ inl (p, e, has.0, has.1)
          | inr none ↦ inr (λ needs.
              let peer = needs.1 in
              let same : needs.0 ≡ p = cc in
              none (
                subst (λ (x : PortRef).
                    first_packet (net.waiting x (prio_of packet)) ≡ Some packet) same needs.2,
                needs.3,
              ))
        ]

-- ---- three, four and five

three_or_not : {A B C : Type 0} → Decided A → Decided B → Decided C → Decided (A × B × C)
three_or_not {A} {B} {C} a b c = as_well (λ (x : A × (B × C)). (x.0, x.1.0, x.1.1))
    (λ (y : A × B × C). (y.0, (y.1, y.2))) (both_or_not a (both_or_not b c))

four_or_not : {A B C D : Type 0} → Decided A → Decided B → Decided C → Decided D
    → Decided (A × B × C × D)
four_or_not {A} {B} {C} {D} a b c d =
    as_well (λ (x : A × (B × C × D)). (x.0, x.1.0, x.1.1, x.1.2))
    (λ (y : A × B × C × D). (y.0, (y.1, y.2, y.3))) (both_or_not a (three_or_not b c d))

five_or_not : {A B C D E : Type 0} → Decided A → Decided B → Decided C → Decided D → Decided E
    → Decided (A × B × C × D × E)
five_or_not {A} {B} {C} {D} {E} a b c d e =
    as_well (λ (x : A × (B × C × D × E)). (x.0, x.1.0, x.1.1, x.1.2, x.1.3))
    (λ (y : A × B × C × D × E). (y.0, (y.1, y.2, y.3, y.4))) (both_or_not a (four_or_not b c d e))

-- ---- a step

pub needs_or_not : (net : Network) (step : Step) → Decided (Needs net step)
needs_or_not net (Linked (Hold q packet)) = hold_or_not net q packet
needs_or_not net (Linked (Free p packet)) = packet_or_not (first_packet (net.lent p)) packet
needs_or_not net (AtNode (Take n packet)) =
    three_or_not (endpoint_or_not net n) (passes_or_not packet)
    (true_or_not (room_out net (port_of n) (prio_of packet)))
needs_or_not net (AtNode (Leave n packet)) =
    three_or_not (endpoint_or_not net n) (first_or_not net (port_of n) packet)
    (false_or_not (is_request packet))
needs_or_not net (ByDevice (Move p q packet)) =
    four_or_not (number_or_not q.node p.node) (first_or_not net p packet)
    (goes_or_not net p.node packet (Port q.port))
    (true_or_not (room_out net q (prio_of packet)))
needs_or_not net (ByDevice (Drop p packet)) =
    both_or_not (first_or_not net p packet) (goes_or_not net p.node packet Nowhere)
needs_or_not net (ByDevice (Answer p packet response)) =
    five_or_not (first_or_not net p packet)
    (one_or_not (endpoint_or_not net p.node) (goes_or_not net p.node packet RegisterUnit))
    (packet_or_not (response_at net p packet) response) (passes_or_not response)
    (true_or_not (room_out net p (prio_of response)))
