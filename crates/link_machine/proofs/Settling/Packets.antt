-- A packet comes to a port whose direction is at rest, and the answer comes back.
use Rattle.link_machine.proofs.Prelude.{◌≡◌, ℕ, ◌+◌, ◌%◌, ◌<◌, Bool, true, false, if◌then◌else◌, Option, Some, None, option_to_list, List, [], ◌∷◌, ◌++◌, map, length, slice_get, refl, ap, ◌∙◌, arith, eq-eqb, Char, Fields, InRange, prio_of, Passes, Input, Arrival, Received, receives, packet_arrival, Output, Sends, hears, turns, Outstanding, from_ack, Place, place, place_start, at_rest, Text, Plain, Skipped, Within, placed, packet_chars_of, start_of_packet, end_of_packet, packet_accepted, window, Report, list_at, popped, room_for, stored, lists_without, highest, Event, Ctl, Pkt, Nothing, PortState, prios_of, expected_of, Acted, acts, replies, buffer_status, standing, packet_burst, burst_of, turn_sends, turns_to, input_accepted, replied, InputRetryStopped, InputOk, Stype0, Turned, heard, reported, turned, credited, started, next_ack, is_oldest, without_oldest, begins_in, opened, ends_packet, packet_ended, told, report_of, run-packet_anywhere, place_after-packet_anywhere, acted, arrived, port_turn, led, port_fed, port_answers, chars_of, controls, AreAnswers}
use Rattle.link_model.specs.Input as in_half
use Rattle.link_model.specs.Output as out
use Rattle.link_model.specs.Symbols.{packet_retry, status_with}
use Rattle.link_model.proofs.WindowFacts.{window_is, startable-open}
use Rattle.link_machine.proofs.Settling.SaidLaws.{reads}
use Rattle.link_machine.proofs.Settling.AnswerLaws.{silent}
use Rattle.link_machine.proofs.Settling.Signals.{fed_by, fed_is, answered_is, status_moved, hearing, status_acts, unbroken_reads}

-- ---- how a packet reads

pub status_range : (e b s1 cmd : ℕ) → e < 32 → b < 32 → s1 < 8 → cmd < 8
    → InRange (status_with e b s1 cmd)
status_range e b s1 cmd below few first second = record {
  s0 = omega arith;
  p0 = below;
  p1 = few;
  s1 = first;
  cmd = second;
}

-- the characters of a packet from a port that expects an ackID and has a buffer status, and its
-- events
abbrev chars_from : (e b ack : ℕ) → List ℕ → List Char
chars_from e b ack packet = packet_chars_of (start_of_packet e b) ack packet (end_of_packet e b)

abbrev pub packet_events : (e b ack : ℕ) → List ℕ → List Event
packet_events e b ack packet =
    Ctl (start_of_packet e b) ∷ Pkt ack packet ∷ Ctl (end_of_packet e b) ∷ []

-- the characters of a packet from a port
abbrev pub sent_by : PortState → ℕ → List ℕ → List Char
sent_by p ack packet =
    chars_from (expected_of p.input) (buffer_status p.tells p.received) ack packet

-- with nothing in progress
packet_reads : (t : Text) (e b ack : ℕ) (packet : List ℕ) → at_rest (place t Nothing) ≡ true
    → e < 32 → b < 32 → ack < 32 → Passes packet
    → reads (place t Nothing) (chars_from e b ack packet)
    ≡ (packet_events e b ack packet, place_start)
packet_reads t e b ack packet rests below small few passes =
    let first = start_of_packet e b in
    let last = end_of_packet e b in
    let in_first = status_range e b 0 0 below small (omega arith) (omega arith) in
    let in_last = status_range e b 2 0 below small (omega arith) (omega arith) in
    let n = 0 + 7 + length packet in
    let events =
    ap (λ (r : List (ℕ × Event)). map (λ (p : ℕ × Event). p.1) r) (run-packet_anywhere t Nothing
    0 n first ack packet last in_first refl few passes in_last refl refl) in
    let ends =
    place_after-packet_anywhere t Nothing first ack packet last in_first refl few passes in_last
    refl in
    (λ i. (events i, ends i))
    ∙ ap (λ (es : List Event). (es, place_start)) (by_text t first ack packet last n refl rests)
  where
    by_text : (t : Text) (first : Fields) (ack : ℕ) (packet : List ℕ) (last : Fields) (n : ℕ)
        → first.s1 ≡ 0 → at_rest (place t Nothing) ≡ true
        → map (λ (p : ℕ × Event). p.1) (placed 3 (told (begins_in t Nothing) first)
        ++ (n, Pkt ack packet) ∷ (n, Ctl last) ∷ [])
        ≡ Ctl first ∷ Pkt ack packet ∷ Ctl last ∷ []
    by_text Plain first ack packet last n starts rests =
        ap (λ (s1 : ℕ). map (λ (p : ℕ × Event). p.1) (placed 3
        ((if ends_packet s1 then packet_ended Plain else []) ++ Ctl first ∷ [])
        ++ (n, Pkt ack packet)
        ∷ (n, Ctl last) ∷ [])) starts
    by_text Skipped first ack packet last n starts rests =
        ap (λ (s1 : ℕ). map (λ (p : ℕ × Event). p.1) (placed 3
        ((if ends_packet s1 then packet_ended Plain else []) ++ Ctl first ∷ [])
        ++ (n, Pkt ack packet)
        ∷ (n, Ctl last) ∷ [])) starts
    by_text (Within bytes) first ack packet last n starts rests = absurd cc

-- ---- what it does

-- a port's output half was told of free buffers
abbrev pub told_port : Option Report → PortState → PortState
told_port report p = record p { output = reported report p.output }

-- a status that asks for nothing tells of free buffers alone
pub bound_tells : (p : PortState) (e b s1 : ℕ)
    → in_half.symbol_arrival s1 0 ≡ Arrival.OtherStype1
    → acts p (Ctl (status_with e b s1 0)) ≡ acted (told_port (report_of e b) p) None None []
bound_tells p e b s1 other =
    let s = status_with e b s1 0 in
    status_acts p s refl
    ∙ ap (λ (a : Arrival). status_moved p s (receives a p.input)) other
    ∙ ap (status_moved p s) (silent p.input)

told_twice : (report : Option Report) (o : Output)
    → reported report (reported report o) ≡ reported report o
told_twice report (Output.Ok w) = refl
told_twice report (Output.RetryStopped w) = refl
told_twice report (Output.ErrorStopped asked w) = refl
told_twice report Output.Failed = refl

-- what a port tells now of its free buffers
abbrev pub told_by : PortState → Option Report
told_by p = report_of (expected_of p.input) (buffer_status p.tells p.received)

-- by whether the packet has room: it is accepted, or asked for again, with a buffer status
abbrev pub taken_by : Bool → (ack buffers : ℕ) → Received
taken_by true ack buffers = input_accepted ack buffers
taken_by false ack buffers = replied (InputRetryStopped ack) (packet_retry ack buffers)

arrives : (room : Bool) (ack buffers : ℕ)
    → receives (packet_arrival ack ack room buffers) (InputOk ack) ≡ taken_by room ack buffers
arrives true ack buffers = rw (eq-eqb ack ack refl) refl
arrives false ack buffers = rw (eq-eqb ack ack refl) refl

-- the buffer status of a port once it has stored a packet, or has not
abbrev pub status_after : Bool → PortState → List ℕ → ℕ
status_after room q packet = buffer_status q.tells (stored room q.received packet)

arrived_is : (q : PortState) (ack : ℕ) (packet : List ℕ) (room : Bool) → q.input ≡ InputOk ack
    → room_for q.received (prio_of packet) ≡ room
    → arrived q ack packet ≡ taken_by room ack (status_after room q packet)
arrived_is q ack packet room input has =
    ap (λ (i : Input). arrived (record q { input = i }) ack packet) input
    ∙ ap (λ (r : Bool). receives (packet_arrival ack ack r (status_after r q packet))
    (InputOk ack)) has
    ∙ arrives room ack (status_after room q packet)

-- what a packet does, by what the input half makes of it
abbrev packet_done : PortState → List ℕ → Received → Acted
packet_done q packet does =
    acted (record q { input = does.state; received = stored does.held q.received packet })
    does.reply (if does.held then Some packet else None) []

-- the port after a packet between two symbols that tell of free buffers
abbrev pub held_by : Bool → ℕ → List ℕ → Option Report → PortState → PortState
held_by room ack packet report q =
    record q {
      output = reported report q.output;
      input = (taken_by room ack (status_after room q packet)).state;
      received = stored (taken_by room ack (status_after room q packet)).held q.received packet;
      place = place_start;
    }

-- the answer to it
abbrev pub answer_by : Bool → (ack buffers : ℕ) → Fields
answer_by true ack buffers = packet_accepted ack buffers
answer_by false ack buffers = packet_retry ack buffers

one_answer : (room : Bool) (ack buffers : ℕ)
    → option_to_list (taken_by room ack buffers).reply ++ [] ≡ answer_by room ack buffers ∷ []
one_answer true ack buffers = refl
one_answer false ack buffers = refl

-- the port after the events of a packet
abbrev after_events : Bool → ℕ → List ℕ → Option Report → PortState → PortState
after_events room ack packet report q =
    record (packet_done q packet (taken_by room ack (status_after room q packet))).port {
      output = reported report q.output;
    }

events_led : (q : PortState) (e b ack : ℕ) (packet : List ℕ) (room : Bool)
    → q.input ≡ InputOk ack → room_for q.received (prio_of packet) ≡ room
    → (led q (packet_events e b ack packet) ≡ after_events room ack packet (report_of e b) q)
    × (replies q (packet_events e b ack packet)
    ≡ answer_by room ack (status_after room q packet) ∷ [])
unfolding led replies
events_led q e b ack packet room input has =
    let report = report_of e b in
    let buffers = status_after room q packet in
    let taken = taken_by room ack buffers in
    let told = told_port report q in
    let first = bound_tells q e b 0 refl in
    let packet_is = ap (packet_done told packet) (arrived_is told ack packet room input has) in
    let there = (packet_done told packet taken).port in
    let last = bound_tells there e b 2 refl in (
      ap (λ (a : Acted). led a.port (Pkt ack packet ∷ Ctl (end_of_packet e b) ∷ [])) first
          ∙ ap (λ (a : Acted). led a.port (Ctl (end_of_packet e b) ∷ [])) packet_is
          ∙ ap (λ (a : Acted). a.port) last
          ∙ ap (λ (o : Output). record there { output = o }) (told_twice report q.output),
      ap (λ (a : Acted). option_to_list a.reply
          ++ replies a.port (Pkt ack packet ∷ Ctl (end_of_packet e b) ∷ [])) first
          ∙ ap
          (λ (a : Acted). option_to_list a.reply ++ replies a.port (Ctl (end_of_packet e b) ∷ []))
          packet_is
          ∙ ap (λ (a : Acted). option_to_list taken.reply ++ (option_to_list a.reply ++ [])) last
          ∙ one_answer room ack buffers,
    )

-- A packet of the expected ackID comes to a port with nothing in progress.
pub packet_fed : (q : PortState) (t : Text) (e b ack : ℕ) (packet : List ℕ) (room : Bool)
    → q.place ≡ place t Nothing → at_rest (place t Nothing) ≡ true
    → e < 32 → b < 32 → ack < 32 → Passes packet → q.input ≡ InputOk ack
    → room_for q.received (prio_of packet) ≡ room
    → (port_fed q (chars_from e b ack packet) ≡ held_by room ack packet (report_of e b) q)
    × (port_answers q (chars_from e b ack packet)
    ≡ answer_by room ack (status_after room q packet) ∷ [])
packet_fed q t e b ack packet room there rests below small few passes input has =
    let cs = chars_from e b ack packet in
    let r =
    ap (λ (from : Place). reads from cs) there
    ∙ packet_reads t e b ack packet rests below small few passes in
    let does = events_led q e b ack packet room input has in (
      fed_is q cs ∙ ap (fed_by q) r
          ∙ ap (λ (p : PortState). record p { place = place_start }) does.0,
      answered_is q cs ∙ ap (λ (x : List Event × Place). replies q x.0) r ∙ does.1,
    )

-- ---- the answer comes back

-- one packet is outstanding
abbrev pub one_out : (ack prio : ℕ) → Option Report → Outstanding
one_out ack prio report = record { oldest = ack; prios = prio ∷ []; report = report }

abbrev pub output_by : Bool → (ack prio : ℕ) → Option Report → Output
output_by true ack prio report = Output.Ok (from_ack ((ack + 1) % 32) report)
output_by false ack prio report = Output.RetryStopped (one_out ack prio report)

-- what the answer tells of free buffers
abbrev pub report_by : Bool → (ack buffers : ℕ) → Option Report
report_by true ack buffers = report_of ((ack + 1) % 32) buffers
report_by false ack buffers = report_of ack buffers

abbrev pub queued_by : Bool → ℕ → List (List (List ℕ)) → List (List (List ℕ))
queued_by true prio queued = popped queued prio
queued_by false prio queued = queued

oldest_is : (ack prio : ℕ) (report : Option Report)
    → is_oldest (one_out ack prio report) ack ≡ true
oldest_is ack prio report = eq-eqb ack ack refl

-- a sender of one packet, after the answer
abbrev pub replied_by : Bool → (ack prio : ℕ) → Option Report → Text → PortState → PortState
replied_by room ack prio report text p =
    record p {
      output = output_by room ack prio report;
      queued = queued_by room prio p.queued;
      place = place text Nothing;
    }

answer_heard : (room : Bool) (p : PortState) (ack prio buffers : ℕ) (old : Option Report)
    → p.output ≡ Output.Ok (one_out ack prio old)
    → (acts p (Ctl (answer_by room ack buffers))).port
    ≡ record p {
      output = output_by room ack prio (report_by room ack buffers);
      queued = queued_by room prio p.queued;
    }
answer_heard true p ack prio buffers old is =
    let report = report_of ((ack + 1) % 32) buffers in
    let window = one_out ack prio report in
    ap (λ (r : Received). (hearing p
    (hears Stype0.PacketAccepted (reported report p.output) ack) r).port) (silent p.input)
    ∙ ap (λ (o : Output). (hearing (record p { output = o })
    (hears Stype0.PacketAccepted (reported report o) ack) (in_half.silent p.input)).port) is
    ∙ ap (λ (b : Bool). (hearing (record p { output = Output.Ok (one_out ack prio old) })
    (if b then heard (Output.Ok (without_oldest window)) 1 else out.error window)
    (in_half.silent p.input)).port) (oldest_is ack prio report)
answer_heard false p ack prio buffers old is =
    let report = report_of ack buffers in
    let window = one_out ack prio report in
    ap (λ (r : Received). (hearing p
    (hears Stype0.PacketRetry (reported report p.output) ack) r).port) (silent p.input)
    ∙ ap (λ (o : Output). (hearing (record p { output = o })
    (hears Stype0.PacketRetry (reported report o) ack) (in_half.silent p.input)).port) is
    ∙ ap (λ (b : Bool). (hearing (record p { output = Output.Ok (one_out ack prio old) })
    (if b then heard (Output.RetryStopped window) 0 else out.error window)
    (in_half.silent p.input)).port) (oldest_is ack prio report)

pub answer_fed : (room : Bool) (p : PortState) (t : Text) (ack prio buffers : ℕ)
    (old : Option Report)
    → p.output ≡ Output.Ok (one_out ack prio old) → p.place ≡ place t Nothing
    → AreAnswers (answer_by room ack buffers ∷ [])
    → port_fed p (chars_of (answer_by room ack buffers ∷ []))
    ≡ replied_by room ack prio (report_by room ack buffers) (opened t) p
unfolding led controls
answer_fed room p t ack prio buffers old is there are =
    let ss = answer_by room ack buffers ∷ [] in
    fed_is p (chars_of ss)
    ∙ ap (fed_by p)
    (ap (λ (from : Place). reads from (chars_of ss)) there ∙ unbroken_reads t ss are)
    ∙ ap (λ (q : PortState). record q { place = place (opened t) Nothing })
    (answer_heard room p ack prio buffers old is)

-- ---- the turn that sends it

pub next_is : (ack : ℕ) (report : Option Report) → ack < 32 → next_ack (from_ack ack report) ≡ ack
next_is ack report few = omega arith

-- what the table says of a turn of a port with nothing outstanding
pub turn_is : (p : PortState) (ack : ℕ) (report : Option Report)
    → p.output ≡ Output.Ok (from_ack ack report)
    → port_turn p
    ≡ started p.tells (from_ack ack report) (credited (from_ack ack report) (highest p.queued))
turn_is p ack report is =
    let w = from_ack ack report in
    let room : length w.prios < window = omega (arith, window_is) in
    ap (λ (o : Output). turns p.tells o (highest (lists_without (prios_of o) p.queued))) is
    ∙ ap (started p.tells w) (startable-open w (highest p.queued) room)

starts_is : (p : PortState) (ack prio : ℕ) (report : Option Report) → ack < 32
    → p.output ≡ Output.Ok (from_ack ack report)
    → credited (from_ack ack report) (highest p.queued) ≡ Some prio
    → port_turn p ≡ turned (Output.Ok (one_out ack prio report)) (Sends.Packet ack prio)
starts_is p ack prio report few is first =
    turn_is p ack report is
    ∙ ap (started p.tells (from_ack ack report)) first
    ∙ ap (λ (n : ℕ). turned (Output.Ok (one_out ack prio report)) (Sends.Packet n prio))
    (next_is ack report few)

pub turn_starts : (p : PortState) (ack prio : ℕ) (report : Option Report) → ack < 32
    → p.output ≡ Output.Ok (from_ack ack report)
    → credited (from_ack ack report) (highest p.queued) ≡ Some prio
    → turns_to p ≡ record p { output = Output.Ok (one_out ack prio report) }
turn_starts p ack prio report few is first =
    ap (λ (t : Turned). record p { output = t.state }) (starts_is p ack prio report few is first)

pub turn_sends_packet : (p : PortState) (ack prio : ℕ) (report : Option Report) (packet : List ℕ)
    → ack < 32 → p.output ≡ Output.Ok (from_ack ack report)
    → credited (from_ack ack report) (highest p.queued) ≡ Some prio
    → slice_get (list_at p.queued prio) 0 ≡ Some packet
    → (turn_sends p).chars ≡ sent_by p ack packet
turn_sends_packet p ack prio report packet few is first waits =
    ap (λ (t : Turned).
    (burst_of t.sends (standing p) (lists_without (prios_of p.output) p.queued)).chars)
    (starts_is p ack prio report few is first)
    ∙ ap (λ (o : Output). (packet_burst (standing p) ack
    (slice_get (list_at (lists_without (prios_of o) p.queued) prio) 0)).chars) is
    ∙ ap (λ (found : Option (List ℕ)). (packet_burst (standing p) ack found).chars) waits
