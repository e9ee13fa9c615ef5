-- Each part of a trace sends what was due, and what is kept of each port stays what the port is.
use Rattle.answered_traces.proofs.Prelude.{◌≡◌, ℕ, suc, ◌<◌, Bool, true, false, List, [], length, drop, slice_set, Option, Some, None, refl, sym, ap, ◌∙◌, subst, arith, prio_of, list_at, packet_count, popped, packet_count-popped, PortRef, Item, Network, same_port, port_of, with_lane, port_is, TraceLine, Stepped, edit_of, edited_by, seen_line, Seen, port_seen, packets_in, lists_in, edited_found, IsGood, few_prio, passes_first, part_keeps, after_line, after_lines, ReactionsKept, with_port_kept, gives}
use Rattle.rio_chars.specs.declared.edit.Edit.{Edit}
use Rattle.fabric_model.specs.Steps.{Take, Leave, NodeStep, Move, Drop, Answer, DeviceStep, AtNode, ByDevice, Needs, IsFirst, behind_first, without_first}
use Rattle.fabric_model.proofs.Boards.{first_item}
use Rattle.fabric_trace.specs.Parts.{packet_of, Part, PartBegins, PartLacks, PartEnds, PartNames, PartSteps, PartServes, PartTurns, PartTells, PartDelivers, PartFires, Made, Done, Then}
use Rattle.fabric_trace.proofs.Network.Lanes.{behind_is, lane_at, lists_set, lane_other}
use Rattle.answered_traces.proofs.Following.{KeepsSeen}
use Rattle.answered_traces.proofs.PartsCalled.{turns_stay, tells_stay, fires_stay, delivers_stay}
use Rattle.answered_traces.proofs.PartsKept.{KeepsAt, StaysKept, stays_by, stays_both, same_keeps, keeps_on, changed_own, changed_other}
use Rattle.answered_traces.proofs.PortCalls.{gone_keeps}

-- an edit changes wires alone
edited_keeps : (kept : ReactionsKept) (s : Seen) (edit : Option (PortRef × Edit))
    → KeepsSeen kept s → KeepsSeen kept (edited_by s edit)
edited_keeps kept s None keeps = keeps
edited_keeps kept s (Some edit) keeps = keeps

-- the same ports, as far as is kept of them, in a network with other packets to be sent
received_same : (kept : ReactionsKept) (s t : Seen) → KeepsSeen kept s
    → ((p : PortRef) → (port_seen t p).place ≡ (port_seen s p).place)
    → ((p : PortRef) → (port_seen t p).input ≡ (port_seen s p).input)
    → ((p : PortRef) → (port_seen t p).received ≡ (port_seen s p).received) → KeepsSeen kept t
received_same kept s t keeps place input received p =
    same_keeps (keeps p) (place p)
    (λ i. record {
      buffers = (received p i).buffers;
      input = input p i;
      held = packet_count (received p i).lists;
      due = [];
    })

-- ---- a packet is gone from a port

one_fewer : (net : Network) (p : PortRef) (packet : List ℕ) → prio_of packet < 4
    → IsFirst net p packet → packet_count (lists_in (net.received p))
    ≡ suc (packet_count (lists_in ((without_first net p (prio_of packet)).received p)))
one_fewer net p packet few first =
    let r = prio_of packet in
    let items = net.received p r in
    let lists = lists_in (net.received p) in
    let lane = lane_at (net.received p) r few in
    let leaves : lists_in (with_lane net.received p r (behind_first items) p) ≡ popped lists r =
    lists_set net.received p r (behind_first items) few
    ∙ ap (slice_set lists r) (behind_is items ∙ ap (drop 1) (sym lane)) in
    let some : 0 < length (list_at lists r) =
    subst (λ (x : List (List ℕ)). 0 < length x) (sym lane)
    (subst (λ (x : List Item). 0 < length (packets_in x))
    (sym (first_item items packet first).whole) (omega arith)) in
    let within : r < length lists = omega (arith, few) in
    let count = packet_count-popped lists r within some in
    let same = ap packet_count leaves in
    omega (arith, count, same)

-- without the packet, in the network and in what is kept
abbrev gone_at : Seen → PortRef → List ℕ → Seen
gone_at s p packet = record s { network = without_first s.network p (prio_of packet) }

abbrev gone_kept : ReactionsKept → PortRef → ReactionsKept
gone_kept kept p = record kept { ports = with_port_kept kept.ports p gives }

packet_gone : (kept : ReactionsKept) (s : Seen) (p : PortRef)
    (packet : List ℕ) → prio_of packet < 4 → IsFirst s.network p packet → KeepsSeen kept s
    → KeepsSeen (gone_kept kept p) (gone_at s p packet)
packet_gone kept s p packet few first keeps c = by (same_port c p) refl
  where
    here : KeepsAt (gone_kept kept p).ports (gone_at s p packet) p
    here =
        keeps_on (changed_own kept.ports p gives) refl
        (gone_keeps (kept.ports p) (port_seen s p) (port_seen (gone_at s p packet) p) (keeps p) refl
        refl refl (one_fewer s.network p packet few first))

    by : (x : Bool) → same_port c p ≡ x → KeepsAt (gone_kept kept p).ports (gone_at s p packet) c
    by true is =
        subst (KeepsAt (gone_kept kept p).ports (gone_at s p packet)) (sym (port_is c p is)) here
    by false is =
        keeps_on (changed_other kept.ports p gives c is) refl
        (same_keeps (keeps c) refl
        (λ i. record {
          buffers = s.network.buffers c;
          input = (s.halves c).input;
          held = packet_count (lists_in
              (lane_other s.network.received p (prio_of packet)
              (behind_first (s.network.received p (prio_of packet))) c is i));
          due = [];
        }))

node_keeps : (kept : ReactionsKept) (s : Seen) (step : NodeStep) → Needs s.network (AtNode step)
    → prio_of (packet_of step) < 4 → KeepsSeen kept s
    → KeepsSeen (after_line kept (Stepped (AtNode step))) (seen_line s (Stepped (AtNode step)))
node_keeps kept s (Take n packet) needs few keeps =
    received_same kept s (seen_line s (Stepped (AtNode (Take n packet)))) keeps (λ p. refl)
    (λ p. refl) (λ p. refl)
node_keeps kept s (Leave n packet) needs few keeps =
    packet_gone kept s (port_of n) packet few needs.1 keeps

device_keeps : (kept : ReactionsKept) (s : Seen) (step : DeviceStep) → IsGood s
    → Needs s.network (ByDevice step) → KeepsSeen kept s
    → KeepsSeen (after_line kept (Stepped (ByDevice step)))
    (seen_line s (Stepped (ByDevice step)))
device_keeps kept s (Move p q packet) good needs keeps =
    let few = few_prio packet (passes_first s good p packet needs.1) in
    let line = Stepped (ByDevice (Move p q packet)) in
    received_same (after_line kept line)
    (gone_at s p packet) (seen_line s line)
    (packet_gone kept s p packet few needs.1 keeps) (λ c. refl) (λ c. refl) (λ c. refl)
device_keeps kept s (Drop p packet) good needs keeps =
    packet_gone kept s p packet
    (few_prio packet (passes_first s good p packet needs.0)) needs.0 keeps
device_keeps kept s (Answer p packet response) good needs keeps =
    let few = few_prio packet (passes_first s good p packet needs.0) in
    let line = Stepped (ByDevice (Answer p packet response)) in
    received_same (after_line kept line)
    (gone_at s p packet) (seen_line s line)
    (packet_gone kept s p packet few needs.0 keeps) (λ c. refl) (λ c. refl) (λ c. refl)

-- ---- parts

part_stays : (kept : ReactionsKept) {s : Seen} {lines : List TraceLine} → IsGood s
    → (s.undetected ≡ None → KeepsSeen kept s) → Part s lines → StaysKept kept s lines
part_stays kept {s} good keeps (PartBegins line is) =
    stays_by is (record {
      react = (tt, tt);
      keeps = λ none. edited_keeps kept s (edit_of line)
          (keeps (sym (edited_found s (edit_of line)) ∙ none));
    })
part_stays kept good keeps (PartLacks lack is) =
    stays_by is (record { react = (tt, tt); keeps = keeps })
part_stays kept good keeps (PartEnds is) =
    stays_by is (record { react = (tt, tt); keeps = keeps })
part_stays kept good keeps (PartNames number q e found is) =
    stays_by is (record { react = (tt, tt); keeps = keeps })
part_stays kept {s} good keeps (PartSteps step needs few is) =
    stays_by is (record {
      react = (tt, tt);
      keeps = λ none. node_keeps kept s step needs few (keeps none);
    })
part_stays kept {s} good keeps (PartServes step needs is) =
    stays_by is (record {
      react = (tt, tt);
      keeps = λ none. device_keeps kept s step good needs (keeps none);
    })
part_stays kept {s} good keeps (PartTurns p q n peer none is) =
    stays_by is (turns_stay kept s p q n good peer none (keeps none))
part_stays kept {s} good keeps (PartTells p q peer none is) =
    stays_by is (tells_stay kept s p q good peer none (keeps none))
part_stays kept {s} good keeps (PartDelivers p q n peer none has is) =
    stays_by is (delivers_stay kept s p q n good peer none has (keeps none))
part_stays kept {s} good keeps (PartFires p q peer none silent is) =
    stays_by is (fires_stay kept s p q good peer none silent (keeps none))

-- all parts
pub made_stays : (kept : ReactionsKept) {s : Seen} {lines : List TraceLine} → IsGood s
    → (s.undetected ≡ None → KeepsSeen kept s) → Made s lines → StaysKept kept s lines
made_stays kept {s} good keeps (Done is) = stays_by is (record { react = tt; keeps = keeps })
made_stays kept {s} good keeps (Then first rest is part more) =
    let one = part_stays kept good keeps part in
    stays_by is (stays_both first rest one
    (made_stays (after_lines kept first) (part_keeps good part).good one.keeps more))
