-- What a port sends it has to send or has lent, and a time-out fires where both wires are empty: at
-- each line of a trace.
use Rattle.fabric_trace.proofs.Prelude.{◌≡◌, inl, inr, ℕ, zero, suc, ◌<◌, ◌==◌, nat_lt, ◌++◌, Bool, true, false, List, [], ◌∷◌, map, take, filter, length, Contains, slice_get, Option, Some, None, refl, sym, ap, ◌∙◌, subst, if◌then◌else◌, AllByRecursion, and_parts, Contains-append_left, Contains-append_right, Contains-append_cases, slice_get_within, get_or_from_slice_get, Char, prio_of, Fields, list_at, IsOutStore, lists_without, count_of, highest, IsOutStore-lists_without, Event, Ctl, Pkt, Bad, Outstanding, next_ack, status, window, PortState, IsPort, prios_of, standing, no_burst, symbol_burst, packet_burst, burst_of, turn_sends, turns_to, tell_sends, first_has_prio, port_narrow, turns_read, tell_read, turn_port, Side, A, B, told_of, bursts, answers, Move, Held, Freed, sent_notes, has_chars, has_none, is_silent, delivery_from, move_note, delivery_notes, pump_notes, tell_notes, time_out_notes, PortRef, Item, Network, all-append, Got, Fired, TraceLine, Signed, packets_in, lists_in, queue, Seen, peer_of, port_seen, kept_of, link_at, says, seen_line, seen, port_at_side, line_of, lines_of, Part, PartBegins, PartLacks, PartEnds, PartNames, PartSteps, PartServes, PartTurns, PartTells, PartDelivers, PartFires, Made, Done, Then, HasEvent, IsOwned, AreOwned}
use Rattle.link_buffers.proofs.PriorityLists.{slice_get-lists_without}
use Rattle.link_model.specs.Output as out
use Rattle.link_machine.proofs.Settling.Calming.{empty_chars}
use Rattle.link_watch.specs.declared.note.Note.TheVariants as Notes
use Rattle.fabric_trace.proofs.Links.Bursts.{startable_has, answers_say}
use Rattle.fabric_trace.proofs.Parts.Keeping.{IsGood, part_keeps}
use Rattle.fabric_trace.proofs.Network.Lanes.{packets-append, lane_at}
use Rattle.link_machine.proofs.Settling.Replies.{delivered_answers}
use Rattle.fabric_trace.proofs.Parts.Carrying.{delivery_lines}

-- ---- along lines

owned-append : (xs ys : List TraceLine) (s : Seen) → AreOwned s xs → AreOwned (seen s xs) ys
    → AreOwned s (xs ++ ys)
owned-append [] ys s first rest = rest
owned-append (x ∷ xs) ys s first rest = (first.0, owned-append xs ys (seen_line s x) first.1 rest)

pub owned_front : (xs ys : List TraceLine) (s : Seen) → AreOwned s (xs ++ ys) → AreOwned s xs
owned_front [] ys s all = tt
owned_front (x ∷ xs) ys s all = (all.0, owned_front xs ys (seen_line s x) all.1)

-- what is said of a line is said of it behind others
pub owned_at : (xs ys : List TraceLine) (line : TraceLine) (s : Seen) → AreOwned s (xs ++ line ∷ ys)
    → IsOwned (seen s xs) line
owned_at [] ys line s all = all.0
owned_at (x ∷ xs) ys line s all = owned_at xs ys line (seen_line s x) all.1

-- ---- what a turn sends stands in the port's lists

-- the packet of an event stands in the list of its priority
abbrev IsQueued : List (List (List ℕ)) → Event → Type 0
IsQueued lists (Pkt ack packet) =
    (prio_of packet < 4) × Contains (list_at lists (prio_of packet)) packet
IsQueued lists _ = Unit {0}

get_contains : (packets : List (List ℕ)) (k : ℕ) (packet : List ℕ)
    → slice_get packets k ≡ Some packet → Contains packets packet
get_contains packets k packet is =
    (k, slice_get_within packets k packet is, get_or_from_slice_get packets k packet packet is)

packet_queued : (lists : List (List (List ℕ))) (prios : List ℕ) (port : PortState) (ack prio : ℕ)
    (found : Option (List ℕ)) → IsOutStore (lists_without prios lists) → prio < 4
    → slice_get (list_at (lists_without prios lists) prio) 0 ≡ found → AllByRecursion
    (IsQueued lists) (packet_burst (standing port) ack found).sent
packet_queued lists prios port ack prio None store few is = tt
packet_queued lists prios port ack prio (Some packet) store few is =
    let own = first_has_prio (lists_without prios lists) prio packet store few is in
    let there =
    get_contains (list_at lists prio) (count_of prios prio) packet
    (sym (slice_get-lists_without prios lists prio) ∙ is) in (
      tt,
      (
        (
          subst (λ r. r < 4) (sym own) few,
          subst (λ r. Contains (list_at lists r) packet) (sym own) there,
        ),
        (tt, tt),
      ),
    )

unstarted_queued : (tells : Bool) (port : PortState) (lists waiting : List (List (List ℕ)))
    → AllByRecursion (IsQueued lists)
    (burst_of (out.unstarted tells) (standing port) waiting).sent
unstarted_queued true port lists waiting = (tt, tt)
unstarted_queued false port lists waiting = tt

started_queued : (tells : Bool) (w : Outstanding) (port : PortState) (lists : List (List (List ℕ)))
    (prios : List ℕ) (waiting : Option ℕ) → IsOutStore (lists_without prios lists)
    → ((prio : ℕ) → waiting ≡ Some prio → prio < 4)
    → AllByRecursion (IsQueued lists)
    (burst_of (out.started tells w waiting).sends (standing port)
    (lists_without prios lists)).sent
started_queued tells w port lists prios None store few =
    unstarted_queued tells port lists (lists_without prios lists)
started_queued tells w port lists prios (Some prio) store few =
    packet_queued lists prios port (next_ack w) prio
    (slice_get (list_at (lists_without prios lists) prio) 0) store (few prio refl) refl

turn_queued_by : (tells : Bool) (output : out.Output) (port : PortState)
    (lists : List (List (List ℕ))) (prios : List ℕ) → IsOutStore (lists_without prios lists)
    → AllByRecursion (IsQueued lists)
    (burst_of (out.turns tells output (highest (lists_without prios lists))).sends (standing port)
    (lists_without prios lists)).sent
turn_queued_by tells (out.Output.Ok w) port lists prios store =
    let waiting = lists_without prios lists in
    started_queued tells w port lists prios (out.startable w (highest waiting)) store
    (λ prio is. (startable_has w waiting (nat_lt (length w.prios) window) prio is).0)
turn_queued_by tells (out.Output.RetryStopped w) port lists prios store = (tt, tt)
turn_queued_by tells (out.Output.ErrorStopped true w) port lists prios store = tt
turn_queued_by tells (out.Output.ErrorStopped false w) port lists prios store = (tt, tt)
turn_queued_by tells out.Output.Failed port lists prios store = tt

turns_queued : (n : ℕ) (port : PortState) → IsPort port
    → AllByRecursion (IsQueued port.queued) (bursts n port).sent
unfolding bursts
turns_queued zero port is = tt
turns_queued (suc n) port is =
    all-append (IsQueued port.queued) (turn_sends port).sent (bursts n (turns_to port)).sent
    (turn_queued_by port.tells port.output port port.queued (prios_of port.output)
    (IsOutStore-lists_without (prios_of port.output) port.queued is.covered is.sends))
    (turns_queued n (turns_to port) (turn_port port is))

-- ---- and so in what the network has there

in_filter : (r : ℕ) (items : List Item) (packet : List ℕ)
    → Contains (packets_in (filter (λ item. prio_of item.now == r) items)) packet
    → Contains (packets_in items) packet
in_filter r [] packet h = h
in_filter r (item ∷ items) packet h =
    elim (prio_of item.now == r) as (λ b. Contains
    (packets_in (if b then item ∷ filter (λ item. prio_of item.now == r) items else filter
    (λ item. prio_of item.now == r) items)) packet
    → Contains (item.now ∷ packets_in items) packet) [
      | true ↦ λ (some : Contains
          (item.now ∷ packets_in (filter (λ item. prio_of item.now == r) items)) packet).
          elim (Contains-append_cases (item.now ∷ [])
          (packets_in (filter (λ item. prio_of item.now == r) items)) packet some) [
            | inl first ↦ Contains-append_left (item.now ∷ []) (packets_in items) packet first
            | inr rest ↦
                Contains-append_right (item.now ∷ []) (packets_in items) packet
                (in_filter r items packet rest)
          ]
      | false ↦
          λ (rest : Contains (packets_in (filter (λ item. prio_of item.now == r) items))
          packet). Contains-append_right (item.now ∷ []) (packets_in items) packet
          (in_filter r items packet rest)
    ] h

event_there : (net : Network) (p : PortRef) (e : Event) → IsQueued (lists_in (queue net p)) e
    → HasEvent net p e
event_there net p (Ctl symbol) h = tt
event_there net p (Bad cause) h = tt
event_there net p (Pkt ack packet) h =
    let r = prio_of packet in
    let lent = filter (λ item. prio_of item.now == r) (net.lent p) in
    let there =
    subst (λ (l : List (List ℕ)). Contains l packet)
    (lane_at (queue net p) r h.0 ∙ packets-append lent (net.waiting p r)) h.1 in
    elim (Contains-append_cases (packets_in lent) (packets_in (net.waiting p r)) packet there) [
      | inl own ↦ inr (in_filter r (net.lent p) packet own)
      | inr own ↦ inl own
    ]

events_there : (net : Network) (p : PortRef) (events : List Event)
    → AllByRecursion (IsQueued (lists_in (queue net p))) events
    → AllByRecursion (HasEvent net p) events
events_there net p [] h = tt
events_there net p (e ∷ events) h = (event_there net p e h.0, events_there net p events h.1)

-- ---- answers have no packet

controls_there : (net : Network) (p : PortRef) (replies : List Fields)
    → AllByRecursion (HasEvent net p) (map (λ symbol. Ctl symbol) replies)
controls_there net p [] = tt
controls_there net p (symbol ∷ replies) = (tt, controls_there net p replies)

-- ---- lines

sent_owned : (s : Seen) (a b : PortRef) (side : Side) (chars : List Char)
    → AllByRecursion (HasEvent s.network (port_at_side a b side)) (says chars)
    → AreOwned s (lines_of a b (sent_notes side chars))
sent_owned s a b side [] h = tt
sent_owned s a b side (c ∷ chars) h = (h, tt)

moves_owned : (s : Seen) (a b : PortRef) (side : Side) (moves : List Move)
    → AreOwned s (lines_of a b (map (move_note side) moves))
moves_owned s a b side [] = tt
moves_owned s a b side (Held packet ∷ moves) =
    (tt, moves_owned (seen_line s (line_of a b (move_note side (Held packet)))) a b side moves)
moves_owned s a b side (Freed packet ∷ moves) =
    (tt, moves_owned (seen_line s (line_of a b (move_note side (Freed packet)))) a b side moves)

turns_owned : (s : Seen) (p q : PortRef) (n : ℕ) → IsPort (port_seen s p)
    → AreOwned s (lines_of p q (pump_notes A n (link_at s p q)))
turns_owned s p q n is =
    let port = port_seen s p in
    let read = turns_read n port is in
    sent_owned s p q A (bursts n port).chars
    (subst (AllByRecursion (HasEvent s.network p)) (sym read.says)
    (events_there s.network p (bursts n port).sent (turns_queued n port is)))

tell_queued : (net : Network) (p : PortRef) (tells : Bool) (symbol : Fields)
    → AllByRecursion (HasEvent net p) (if tells then symbol_burst symbol else no_burst).sent
tell_queued net p true symbol = (tt, tt)
tell_queued net p false symbol = tt

tells_owned : (s : Seen) (p q : PortRef) → IsPort (port_seen s p)
    → AreOwned s (lines_of p q (tell_notes A (link_at s p q)))
tells_owned s p q is =
    let port = port_seen s p in
    let at = standing port in
    sent_owned s p q A (tell_sends port).chars
    (subst (AllByRecursion (HasEvent s.network p)) (sym (tell_read port is).says)
    (tell_queued s.network p port.tells (status at.expected at.buffers)))

delivery_owned : (s : Seen) (p q : PortRef) (n : ℕ) → IsPort (port_seen s q)
    → has_chars A n (link_at s p q) ≡ true
    → AreOwned s (lines_of p q (delivery_notes A n (link_at s p q)))
delivery_owned s p q n is has =
    let l = link_at s p q in
    let chars = take n (s.wires p).chars in
    let told = told_of (delivery_from A n l) in
    let sent = (answers told.replies).chars in
    let moves = lines_of p q (map (move_note B) told.moves) in
    let got = Signed (Got q (take told.count chars)) in
    let are =
    delivered_answers (port_seen s q) (kept_of (s.wires p)) chars (port_narrow (port_seen s q) is)
    in
    let t = seen (seen_line s got) moves in
    subst (AreOwned s) (sym (delivery_lines p q n l has)) (
      tt,
      owned-append moves (lines_of p q (sent_notes B sent)) (seen_line s got)
          (moves_owned (seen_line s got) p q B told.moves)
          (sent_owned t p q B sent
          (subst (AllByRecursion (HasEvent t.network q)) (sym (answers_say told.replies are))
          (controls_there t.network q told.replies))),
    )

fires_owned : (s : Seen) (p q : PortRef) → peer_of s p ≡ Some q → is_silent (link_at s p q) ≡ true
    → AreOwned s (lines_of p q (time_out_notes A (link_at s p q)))
fires_owned s p q peer silent =
    let both = and_parts (has_none (s.wires p).chars) (has_none (s.wires q).chars) silent in
    let lines : lines_of p q (time_out_notes A (link_at s p q)) ≡ Signed (Fired p) ∷ [] =
    ap (λ x. lines_of p q (if x then Notes.Fire A ∷ [] else [])) silent in
    subst (AreOwned s) (sym lines) (
      record {
        peer = q;
        peer_is = peer;
        near = empty_chars (s.wires p).chars both.0;
        far = empty_chars (s.wires q).chars both.1;
      },
      tt,
    )

pub part_owned : (s : Seen) (lines : List TraceLine) → IsGood s → Part s lines → AreOwned s lines
part_owned s lines good (PartBegins line is) = subst (AreOwned s) (sym is) (tt, tt)
part_owned s lines good (PartLacks lack is) = subst (AreOwned s) (sym is) (tt, tt)
part_owned s lines good (PartEnds is) = subst (AreOwned s) (sym is) (tt, tt)
part_owned s lines good (PartNames number q e found is) = subst (AreOwned s) (sym is) (tt, tt)
part_owned s lines good (PartSteps step needs few is) = subst (AreOwned s) (sym is) (tt, tt)
part_owned s lines good (PartServes step needs is) = subst (AreOwned s) (sym is) (tt, tt)
part_owned s lines good (PartTurns p q n peer none is) =
    subst (AreOwned s) (sym is) (turns_owned s p q n (good.links none p q peer).sound.port_a)
part_owned s lines good (PartTells p q peer none is) =
    subst (AreOwned s) (sym is) (tells_owned s p q (good.links none p q peer).sound.port_a)
part_owned s lines good (PartDelivers p q n peer none has is) =
    subst (AreOwned s) (sym is) (delivery_owned s p q n (good.links none p q peer).sound.port_b has)
part_owned s lines good (PartFires p q peer none silent is) =
    subst (AreOwned s) (sym is) (fires_owned s p q peer silent)

pub made_owned : {s : Seen} {lines : List TraceLine} → IsGood s → Made s lines → AreOwned s lines
made_owned {s} good (Done is) = subst (AreOwned s) (sym is) tt
made_owned {s} good (Then first rest is own more) =
    subst (AreOwned s) (sym is)
    (owned-append first rest s (part_owned s first good own)
    (made_owned (part_keeps good own).good more))
