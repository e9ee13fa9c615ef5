-- What ports do at their links: they have links, and send characters that are bytes; and what is
-- found that was not sent can be told.
use Rattle.lawful_traces.proofs.Prelude.{◌≡◌, ◌≢◌, ℕ, zero, suc, ◌<◌, Bool, true, false, List, [], ◌∷◌, map, take, length, nat_lt, slice_get, Option, Some, None, if◌then◌else◌, refl, sym, ap, ◌∙◌, subst, arith, AllByRecursion, Char, HasByte, InRange, Passes, Event, PortState, IsPort, standing, no_burst, symbol_burst, packet_burst, burst_of, port_turn, turns_to, turn_sends, tell_sends, waiting_in, sent_notes, has_chars, delivery_from, move_note, delivery_notes, time_out_notes, Side, A, B, told_of, undetected, bursts, answers, Move, Held, Freed, Known, PortRef, peer_in, Hold, Free, Linked, all-append, Sent, Got, Fired, TraceLine, Begun, Stepped, Signed, Lacked, Ended, Undetected, port_at_side, lines_of, IsEnd, EventFits, UndetectedAt, Seen, peer_of, port_seen, kept_of, link_at, edit_of, edited_by, taken_from, undetected_at, got_from, fired_from, seen_line, seen, Part, PartBegins, PartLacks, PartEnds, PartNames, PartSteps, PartServes, PartTurns, PartTells, PartDelivers, PartFires, Made, Done, Then}
use Rattle.link_buffers.specs.Queues.{list_at, IsOutStore}
use Rattle.link_buffers.specs.Priorities.{highest}
use Rattle.link_buffers.proofs.QueueLemmas.{Passes-at}
use Rattle.link_buffers.proofs.PriorityLaws.{IsOutStore-lists_without}
use Rattle.link_model.specs.Prelude.{Sends, Output, Outstanding, turns, window}
use Rattle.link_model.specs.Output.{started, unstarted, startable}
use Rattle.link_model.specs.Symbols.{status_with, status, start_of_packet, end_of_packet, restart_from_retry, link_request}
use Rattle.link_port.specs.Bursts.{IsStanding}
use Rattle.link_port.specs.States.{prios_of}
use Rattle.link_port.proofs.SentReads.{InRanges, standing_range}
use Rattle.link_sound.proofs.PortBounds.{turn_port}
use Rattle.link_machine.proofs.Settling.AnswerLaws.{port_narrow}
use Rattle.link_watch.specs.declared.note.Note.TheVariants as Notes
use Rattle.fabric_model.proofs.Peers.{peer_back}
use Rattle.fabric_trace.proofs.Links.Bursts.{startable_has}
use Rattle.fabric_trace.proofs.Parts.Keeping.{IsGood, part_keeps}
use Rattle.fabric_trace.proofs.Shown.Wiring.{seen_links}
use Rattle.lawful_traces.proofs.Bytes.{AreBytesOf, symbol_is_bytes, packet_is_bytes, answers_are_bytes, undetected_fits}
use Rattle.link_machine.proofs.Settling.Replies.{delivered_answers}
use Rattle.fabric_trace.proofs.Parts.Carrying.{delivery_lines}

-- ---- what a port sends are bytes

status_range : (at : _) (s1 cmd : ℕ) → IsStanding at → s1 < 8 → cmd < 8
    → InRange (status_with at.expected at.buffers s1 cmd)
status_range at s1 cmd is first second = record {
  s0 = omega arith;
  p0 = is.expected;
  p1 = is.buffers;
  s1 = first;
  cmd = second;
}

packet_bytes : (at : _) (ack : ℕ) (found : Option (List ℕ)) → IsStanding at → ack < 32
    → ((packet : List ℕ) → found ≡ Some packet → Passes packet)
    → AreBytesOf (packet_burst at ack found).chars
packet_bytes at ack None is low passes = tt
packet_bytes at ack (Some packet) is low passes =
    packet_is_bytes (start_of_packet at.expected at.buffers) ack packet
    (end_of_packet at.expected at.buffers) (status_range at 0 0 is (omega arith) (omega arith)) low
    (passes packet refl) (status_range at 2 0 is (omega arith) (omega arith))

burst_bytes : (sends : Sends) (at : _) (waiting : List (List (List ℕ))) → IsStanding at
    → IsOutStore waiting → InRanges sends → AreBytesOf (burst_of sends at waiting).chars
burst_bytes (Sends.Packet ack prio) at waiting is store range =
    packet_bytes at ack (slice_get (list_at waiting prio) 0) is range.0
    (λ packet found. Passes-at waiting prio 0 packet store.packets range.1 found)
burst_bytes Sends.Restart at waiting is store range =
    symbol_is_bytes (restart_from_retry at.expected at.buffers)
    (status_range at 3 0 is (omega arith) (omega arith))
burst_bytes Sends.Request at waiting is store range =
    symbol_is_bytes (link_request at.expected at.buffers)
    (status_range at 4 4 is (omega arith) (omega arith))
burst_bytes Sends.Status at waiting is store range =
    symbol_is_bytes (status at.expected at.buffers)
    (status_range at 7 0 is (omega arith) (omega arith))
burst_bytes Sends.Nothing at waiting is store range = tt

unstarted_in_range : (tells : Bool) → InRanges (unstarted tells)
unstarted_in_range true = tt
unstarted_in_range false = tt

started_in_range : (tells : Bool) (w : Outstanding) (waiting : Option ℕ)
    → ((prio : ℕ) → waiting ≡ Some prio → prio < 4) → InRanges (started tells w waiting).sends
started_in_range tells w None own = unstarted_in_range tells
started_in_range tells w (Some prio) own = (omega arith, own prio refl)

turn_in_range : (tells : Bool) (output : Output) (lists : List (List (List ℕ)))
    → InRanges (turns tells output (highest lists)).sends
turn_in_range tells (Output.Ok w) lists =
    started_in_range tells w (startable w (highest lists))
    (λ prio is. (startable_has w lists (nat_lt (length w.prios) window) prio is).0)
turn_in_range tells (Output.RetryStopped w) lists = tt
turn_in_range tells (Output.ErrorStopped true w) lists = tt
turn_in_range tells (Output.ErrorStopped false w) lists = tt
turn_in_range tells Output.Failed lists = tt

turns_bytes : (n : ℕ) (port : PortState) → IsPort port → AreBytesOf (bursts n port).chars
unfolding bursts
turns_bytes zero port is = tt
turns_bytes (suc n) port is =
    all-append HasByte (turn_sends port).chars (bursts n (turns_to port)).chars
    (burst_bytes (port_turn port).sends (standing port) (waiting_in port) (standing_range port is)
    (IsOutStore-lists_without (prios_of port.output) port.queued is.covered is.sends)
    (turn_in_range port.tells port.output (waiting_in port))) (turns_bytes n (turns_to port)
    (turn_port port is))

tell_bytes : (port : PortState) → IsPort port → AreBytesOf (tell_sends port).chars
tell_bytes port is = by port.tells
  where
    by : (tells : Bool) → AreBytesOf (if tells
        then symbol_burst (status (standing port).expected (standing port).buffers)
        else no_burst).chars
    by true = symbol_is_bytes (status (standing port).expected (standing port).buffers)
        (status_range (standing port) 7 0 (standing_range port is) (omega arith) (omega arith))
    by false = tt

-- ---- lines

-- What is so of the lines of links: their ports have links, what is sent are some characters, all
-- bytes, and what was not sent is a good event.
abbrev pub IsAtLinks : Known → TraceLine → Type 0
IsAtLinks known (Signed (Sent p chars)) = IsEnd known p × (chars ≢ []) × AreBytesOf chars
IsAtLinks known (Signed (Got q chars)) = IsEnd known q
IsAtLinks known (Signed (Fired p)) = IsEnd known p
IsAtLinks known (Stepped (Linked (Hold q packet))) = IsEnd known q
IsAtLinks known (Stepped (Linked (Free p packet))) = IsEnd known p
IsAtLinks known (Undetected number q e) = IsEnd known q × EventFits e
IsAtLinks known _ = Unit {0}

-- and an event that was found
abbrev FoundIsSo : Known → Option UndetectedAt → Type 0
FoundIsSo known None = Unit {0}
FoundIsSo known (Some found) = IsEnd known found.port × EventFits found.event

module _ (known : Known) where
  abbrev AllAtLinks : List TraceLine → Type 0
  AllAtLinks lines = AllByRecursion (IsAtLinks known) lines

  sent_at_links : (a b : PortRef) (side : Side) (chars : List Char)
      → IsEnd known (port_at_side a b side) → AreBytesOf chars
      → AllAtLinks (lines_of a b (sent_notes side chars))
  sent_at_links a b side [] end bytes = tt
  sent_at_links a b side (c ∷ chars) end bytes = ((end, (λ none. absurd (cc none)), bytes), tt)

  moves_at_links : (a b : PortRef) (side : Side) (moves : List Move)
      → IsEnd known (port_at_side a b side) → AllAtLinks (lines_of a b (map (move_note side) moves))
  moves_at_links a b side [] end = tt
  moves_at_links a b side (Held packet ∷ moves) end = (end, moves_at_links a b side moves end)
  moves_at_links a b side (Freed packet ∷ moves) end = (end, moves_at_links a b side moves end)

  delivery_at_links : (s : Seen) (p q : PortRef) (n : ℕ) → IsPort (port_seen s q) → IsEnd known q
      → has_chars A n (link_at s p q) ≡ true
      → AllAtLinks (lines_of p q (delivery_notes A n (link_at s p q)))
  delivery_at_links s p q n is end has =
      let l = link_at s p q in
      let chars = take n (s.wires p).chars in
      let told = told_of (delivery_from A n l) in
      let sent = (answers told.replies).chars in
      let moves = lines_of p q (map (move_note B) told.moves) in
      let are =
      delivered_answers (port_seen s q) (kept_of (s.wires p)) chars
      (port_narrow (port_seen s q) is) in
      subst AllAtLinks (sym (delivery_lines p q n l has)) (
        end,
        all-append (IsAtLinks known) moves (lines_of p q (sent_notes B sent))
            (moves_at_links p q B told.moves end)
            (sent_at_links p q B sent end (answers_are_bytes told.replies are)),
      )

  -- ---- what is found

  edited_same : (s : Seen) (edit : _) → (edited_by s edit).undetected ≡ s.undetected
  edited_same s None = refl
  edited_same s (Some edit) = refl

  fired_same : (s : Seen) (peer : Option PortRef) (p : PortRef)
      → (fired_from s peer p).undetected ≡ s.undetected
  fired_same s None p = refl
  fired_same s (Some q) p = refl

  found_so : (q : PortRef) (found : Option Event) → IsEnd known q
      → ((e : Event) → found ≡ Some e → EventFits e) → FoundIsSo known (undetected_at q found)
  found_so q None end fits = tt
  found_so q (Some e) end fits = (end, fits e refl)

  got_so : (s : Seen) (peer : Option PortRef) (q : PortRef) (chars : List Char) → IsEnd known q
      → FoundIsSo known s.undetected → FoundIsSo known (got_from s peer q chars).undetected
  got_so s None q chars end so = so
  got_so s (Some p) q chars end so =
      found_so q (undetected (taken_from s p q chars)) end
      (λ e is. undetected_fits (port_seen s q) (kept_of (s.wires p)) chars e is)

  line_so : (s : Seen) (line : TraceLine) → IsAtLinks known line → FoundIsSo known s.undetected
      → FoundIsSo known (seen_line s line).undetected
  line_so s (Begun line) at so = subst (FoundIsSo known) (sym (edited_same s (edit_of line))) so
  line_so s (Stepped step) at so = so
  line_so s (Signed (Sent p chars)) at so = so
  line_so s (Signed (Got q chars)) at so = got_so s (peer_of s q) q chars at so
  line_so s (Signed (Fired p)) at so =
      subst (FoundIsSo known) (sym (fired_same s (peer_of s p) p)) so
  line_so s (Lacked lack) at so = so
  line_so s Ended at so = so
  line_so s (Undetected number q e) at so = so

  lines_so : (lines : List TraceLine) (s : Seen) → AllAtLinks lines
      → FoundIsSo known s.undetected → FoundIsSo known (seen s lines).undetected
  lines_so [] s at so = so
  lines_so (line ∷ lines) s at so = lines_so lines (seen_line s line) at.1 (line_so s line at.0 so)

  -- ---- parts

  module _ (links : List (PortRef × PortRef))
      (ends : (p q : PortRef) → peer_in links p ≡ Some q → IsEnd known p) where
    end_of : (s : Seen) (p q : PortRef) → s.network.links ≡ links → peer_of s p ≡ Some q
        → IsEnd known p
    end_of s p q same peer =
        ends p q (ap (λ (l : List (PortRef × PortRef)). peer_in l p) (sym same) ∙ peer)

    part_at_links : (s : Seen) (lines : List TraceLine) → IsGood s → s.network.links ≡ links
        → FoundIsSo known s.undetected → Part s lines → AllAtLinks lines
    part_at_links s lines good same so (PartBegins line is) = subst AllAtLinks (sym is) (tt, tt)
    part_at_links s lines good same so (PartLacks lack is) = subst AllAtLinks (sym is) (tt, tt)
    part_at_links s lines good same so (PartEnds is) = subst AllAtLinks (sym is) (tt, tt)
    part_at_links s lines good same so (PartNames number q e found is) =
        subst AllAtLinks (sym is) (subst (FoundIsSo known) found so, tt)
    part_at_links s lines good same so (PartSteps step needs few is) =
        subst AllAtLinks (sym is) (tt, tt)
    part_at_links s lines good same so (PartServes step needs is) =
        subst AllAtLinks (sym is) (tt, tt)
    part_at_links s lines good same so (PartTurns p q n peer none is) =
        subst AllAtLinks (sym is)
        (sent_at_links p q A (bursts n (port_seen s p)).chars (end_of s p q same peer)
        (turns_bytes n (port_seen s p) (good.links none p q peer).sound.port_a))
    part_at_links s lines good same so (PartTells p q peer none is) =
        subst AllAtLinks (sym is)
        (sent_at_links p q A (tell_sends (port_seen s p)).chars (end_of s p q same peer)
        (tell_bytes (port_seen s p) (good.links none p q peer).sound.port_a))
    part_at_links s lines good same so (PartDelivers p q n peer none has is) =
        subst AllAtLinks (sym is)
        (delivery_at_links s p q n (good.links none p q peer).sound.port_b
        (end_of s q p same (peer_back s.network.links q p good.proper peer)) has)
    part_at_links s lines good same so (PartFires p q peer none silent is) =
        let notes : lines_of p q (time_out_notes A (link_at s p q)) ≡ Signed (Fired p) ∷ [] =
        ap (λ x. lines_of p q (if x then Notes.Fire A ∷ [] else [])) silent in
        subst AllAtLinks (sym (is ∙ notes)) (end_of s p q same peer, tt)

    pub made_at_links : {s : Seen} {lines : List TraceLine} → IsGood s → s.network.links ≡ links
        → FoundIsSo known s.undetected → Made s lines → AllAtLinks lines
    made_at_links {s} good same so (Done is) = subst AllAtLinks (sym is) tt
    made_at_links {s} good same so (Then first rest is part more) =
        let own = part_at_links s first good same so part in
        subst AllAtLinks (sym is)
        (all-append (IsAtLinks known) first rest own
        (made_at_links (part_keeps good part).good (seen_links s first ∙ same)
        (lines_so first s own so) more))
