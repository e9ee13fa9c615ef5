-- What one event does in a port, as the judge of reactions sees it.
use Rattle.answered_traces.proofs.Prelude.{◌≡◌, ℕ, suc, ◌+◌, ◌<◌, ◌==◌, ◌&&◌, ◌++◌, Bool, true, false, List, [], ◌∷◌, length, length-set, Option, Some, None, if◌then◌else◌, refl, sym, ap, ◌∙◌, subst, arith, AllByRecursion, Char, prio_of, all-append, few_prio, Buffered, list_at, packet_count, room_for, stored, packet_count-appended, Event, Ctl, Pkt, Bad, packet_event, packet_or_cause, Damaged, ExpectedWithRoom, ExpectedWithoutRoom, Input, InputErrorStopped, InputOk, InputRetryStopped, LinkRequest, OtherStype1, Received, RestartFromRetry, UnexpectedAck, packet_arrival, receives, AreGiven, Place, run, step, given, PortState, acts, arrived, damaged, obeyed, Reaction, InputKept, after_entry, after_one_event, expected_ack_of, reply_due}
use Rattle.rio_packets.specs.Carries.{carried}
use Rattle.rio_packets.specs.CauseNumbers.{number_of}
use Rattle.rio_packets.specs.declared.cause.Cause.{Cause}
use Rattle.rio_packets.proofs.CarriesLaws.{Carries-from_carried}
use Rattle.rio_packets.proofs.FormLaws.{Passes-from_form}
use Rattle.link_model.specs.Reading.{placed}
use Rattle.link_model.specs.Reports.{untold}
use Rattle.link_port.specs.States.{expected_of}
use Rattle.link_receiver.specs.Status.{buffer_status}
use Rattle.answered_traces.proofs.Following.{half_kept}

-- ---- packets that are read

-- the priority of a packet is one of four
abbrev pub HasFewPrio : Event → Type 0
HasFewPrio (Ctl symbol) = Unit {0}
HasFewPrio (Pkt ack packet) = prio_of packet < 4
HasFewPrio (Bad cause) = Unit {0}

abbrev pub PlacedHasFewPrio : ℕ × Event → Type 0
PlacedHasFewPrio event = HasFewPrio event.1

found_few : (bytes : List ℕ) (found : Option (ℕ × List ℕ)) (cause : Cause)
    → carried bytes ≡ found → HasFewPrio (packet_or_cause found cause)
found_few bytes None cause is = tt
found_few bytes (Some found) cause is =
    let carries = Carries-from_carried bytes found.0 found.1 is in
    few_prio found.1 (Passes-from_form carries.body found.1 carries.form)

packet_few : (bytes : List ℕ) → HasFewPrio (packet_event bytes)
unfolding packet_event
packet_few bytes = found_few bytes (carried bytes) _ refl

given_few : (events : List Event) → AreGiven events → AllByRecursion HasFewPrio events
given_few [] are = tt
given_few (Ctl symbol ∷ []) are = (tt, tt)
given_few (Pkt ack packet ∷ []) are = absurd are
given_few (Bad cause ∷ []) are = (tt, tt)
given_few (e ∷ x ∷ []) (bytes, symbol, first, second, either) =
    (subst HasFewPrio (sym first) (packet_few bytes), (subst HasFewPrio (sym second) tt, tt))
given_few (e ∷ x ∷ y ∷ events) are = absurd are

placed_few : (at : ℕ) (events : List Event) → AllByRecursion HasFewPrio events
    → AllByRecursion PlacedHasFewPrio (placed at events)
placed_few at [] all = tt
placed_few at (event ∷ events) all = (all.0, placed_few at events all.1)

-- whatever characters are read
pub run_few : (from : Place) (at : ℕ) (chars : List Char)
    → AllByRecursion PlacedHasFewPrio (run from at chars)
unfolding run
run_few from at [] = tt
run_few from at (c ∷ chars) =
    all-append PlacedHasFewPrio (placed at (step from c).gives)
    (run (step from c).place (suc at) chars)
    (placed_few at (step from c).gives (given_few (step from c).gives (given from c)))
    (run_few (step from c).place (suc at) chars)

-- ---- entries of the table

symbol_holds_none : (restart request : Bool) (input : Input)
    → (receives (if restart then RestartFromRetry
    else (if request then LinkRequest else OtherStype1)) input).held ≡ false
symbol_holds_none true request (InputOk expected) = refl
symbol_holds_none true request (InputRetryStopped expected) = refl
symbol_holds_none true request (InputErrorStopped expected) = refl
symbol_holds_none false true (InputOk expected) = refl
symbol_holds_none false true (InputRetryStopped expected) = refl
symbol_holds_none false true (InputErrorStopped expected) = refl
symbol_holds_none false false (InputOk expected) = refl
symbol_holds_none false false (InputRetryStopped expected) = refl
symbol_holds_none false false (InputErrorStopped expected) = refl

damage_holds_none : (cause : ℕ) (input : Input) → (receives (Damaged cause) input).held ≡ false
damage_holds_none cause (InputOk expected) = refl
damage_holds_none cause (InputRetryStopped expected) = refl
damage_holds_none cause (InputErrorStopped expected) = refl

-- Two entries are the same but for the buffer status of a reply, at which a reaction does not look.
record IsSameEntry (one other : Received) : Type 0 where
  state : one.state ≡ other.state
  held : one.held ≡ other.held
  due : reply_due one.reply ≡ reply_due other.reply

entry_itself : (entry : Received) → IsSameEntry entry entry
entry_itself entry = record { state = refl; held = refl; due = refl }

status_is_not_seen : (same room : Bool) (one other : ℕ) (input : Input)
    → IsSameEntry (receives (if same
    then (if room then ExpectedWithRoom one else ExpectedWithoutRoom one) else UnexpectedAck) input)
    (receives (if same
    then (if room then ExpectedWithRoom other else ExpectedWithoutRoom other)
    else UnexpectedAck) input)
status_is_not_seen true true one other (InputOk expected) =
    record { state = refl; held = refl; due = refl }
status_is_not_seen true true one other (InputRetryStopped expected) = entry_itself _
status_is_not_seen true true one other (InputErrorStopped expected) = entry_itself _
status_is_not_seen true false one other (InputOk expected) =
    record { state = refl; held = refl; due = refl }
status_is_not_seen true false one other (InputRetryStopped expected) = entry_itself _
status_is_not_seen true false one other (InputErrorStopped expected) = entry_itself _
status_is_not_seen false room one other input = entry_itself _

expected_is : (input : Input) → expected_ack_of input ≡ expected_of input
expected_is (InputOk expected) = refl
expected_is (InputRetryStopped expected) = refl
expected_is (InputErrorStopped expected) = refl

-- ---- the store

stored_count : (held : Bool) (store : Buffered) (packet : List ℕ) → length store.lists ≡ 4
    → prio_of packet < 4
    → (if held then packet_count store.lists + 1 else packet_count store.lists)
    ≡ packet_count (stored held store packet).lists
stored_count true store packet four few =
    sym (packet_count-appended store.lists (prio_of packet) packet (omega (arith, four, few)))
stored_count false store packet four few = refl

stored_buffers : (held : Bool) (store : Buffered) (packet : List ℕ)
    → (stored held store packet).buffers ≡ store.buffers
stored_buffers true store packet = refl
stored_buffers false store packet = refl

stored_lists : (held : Bool) (store : Buffered) (packet : List ℕ)
    → length (stored held store packet).lists ≡ length store.lists
stored_lists true store packet =
    length-set store.lists (prio_of packet) (list_at store.lists (prio_of packet) ++ packet ∷ [])
stored_lists false store packet = refl

-- a port has as many lists as before
pub act_lists : (port : PortState) (e : Event)
    → length (acts port e).port.received.lists ≡ length port.received.lists
act_lists port (Pkt ack packet) = stored_lists (arrived port ack packet).held port.received packet
act_lists port _ = refl

-- ---- one event

-- the input half of a port that has these reactions to send
abbrev pub half_owing : PortState → List Reaction → InputKept
half_owing port due = record (half_kept port) { due = due }

-- an entry that holds no packet
none_held : (port : PortState) (due : List Reaction) (entry : Received) → entry.held ≡ false
    → after_entry (half_owing port due) entry
    ≡ half_owing (record port { input = entry.state }) (due ++ reply_due entry.reply)
none_held port due entry none = λ i. record {
  buffers = port.received.buffers;
  input = entry.state;
  held = ap (λ held. if held then packet_count port.received.lists + 1
      else packet_count port.received.lists) none i;
  due = due ++ reply_due entry.reply;
}

packet_event_is : (port : PortState) (due : List Reaction) (ack : ℕ) (packet : List ℕ)
    → length port.received.lists ≡ 4 → prio_of packet < 4
    → after_one_event (half_owing port due) (Pkt ack packet)
    ≡ half_owing (acts port (Pkt ack packet)).port
    (due ++ reply_due (acts port (Pkt ack packet)).reply)
packet_event_is port due ack packet four few =
    let store = port.received in
    let room = room_for store (prio_of packet) in
    let does = arrived port ack packet in
    let entry = receives (packet_arrival (expected_of port.input) ack room untold) port.input in
    let same : IsSameEntry entry does =
    status_is_not_seen (ack == expected_of port.input) room untold
    (buffer_status port.tells (stored room store packet)) port.input in
    ap (λ expected. after_entry (half_owing port due)
    (receives (packet_arrival expected ack room untold) port.input)) (expected_is port.input)
    ∙ (λ i. record {
      buffers = sym (stored_buffers does.held store packet) i;
      input = same.state i;
      held = (ap (λ held. if held then packet_count store.lists + 1 else packet_count store.lists)
          same.held ∙ stored_count does.held store packet four few) i;
      due = due ++ same.due i;
    })

-- what the judge keeps after an event is what the port is, with its reply due after the others
pub one_event : (port : PortState) (due : List Reaction) (e : Event)
    → length port.received.lists ≡ 4 → HasFewPrio e
    → after_one_event (half_owing port due) e
    ≡ half_owing (acts port e).port (due ++ reply_due (acts port e).reply)
one_event port due (Ctl symbol) four few =
    none_held port due (obeyed port symbol)
    (symbol_holds_none (symbol.s1 == 3) ((symbol.s1 == 4) && (symbol.cmd == 4)) port.input)
one_event port due (Pkt ack packet) four few = packet_event_is port due ack packet four few
one_event port due (Bad cause) four few =
    none_held port due (damaged port cause) (damage_holds_none (number_of cause) port.input)
