-- What is kept of the input half of a port, and what comes of an event that it gets.
use Rattle.std.specs.Prelude.{ℕ, ◌+◌, ◌-◌, Bool, nat_lt, List, [], ◌∷◌, ◌++◌, Option, if◌then◌else◌}
use Rattle.rio_packets.specs.CauseNumbers.{number_of}
use Rattle.rio_packets.specs.Fields.{prio_of}
use Rattle.link_model.specs.declared.event.Event.{Event}
use Rattle.link_model.specs.declared.event.Event.TheVariants.{Ctl, Pkt, Bad}
use Rattle.link_model.specs.Input.{Arrival, Damaged, Input, InputErrorStopped, InputOk, InputRetryStopped, packet_arrival, Received, receives, symbol_arrival}
use Rattle.link_model.specs.Reports.{untold}
use Rattle.rio_framer.specs.declared.events.Told.{Told}
use Rattle.rio_framer.specs.Giving.{events_by, listed}
use Rattle.trace_reactions.specs.declared.input_half.InputHalf.{InputHalf as Kept}
use Rattle.trace_reactions.specs.declared.input_half.InputState.{InputState}
use Rattle.trace_reactions.specs.declared.input_half.InputState.TheVariants as S
use Rattle.trace_reactions.specs.declared.reactions.Reaction.{Reaction}
use Rattle.trace_reactions.specs.Reactions.{reply_due}

-- How many receive buffers the port has; its state, by the step table; how many packets it holds;
-- and the reactions that the table gave and that it has not sent yet, the oldest first.
pub record InputKept : Type 0 where
  pub buffers : ℕ
  pub input : Input
  pub held : ℕ
  pub due : List Reaction

-- nothing has come
abbrev pub new_input : ℕ → InputKept
new_input buffers = record { buffers = buffers; input = InputOk 0; held = 0; due = [] }

-- Whether a packet of a priority has room: more buffers are free than there are higher priorities
-- (this project's profile).
abbrev pub has_room_behind : (held buffers prio : ℕ) → Bool
has_room_behind held buffers prio = nat_lt (held + (3 - prio)) buffers

-- the ackID that is expected next
abbrev pub expected_ack_of : Input → ℕ
expected_ack_of (InputOk expected) = expected
expected_ack_of (InputRetryStopped expected) = expected
expected_ack_of (InputErrorStopped expected) = expected

-- What an event is to the table. The buffer status of a reply is not looked at, so the port may as
-- well be one that does not tell it.
abbrev pub arrival_of : InputKept → Event → Arrival
arrival_of kept (Ctl symbol) = symbol_arrival symbol.s1 symbol.cmd
arrival_of kept (Pkt ack packet) = packet_arrival (expected_ack_of kept.input) ack
    (has_room_behind kept.held kept.buffers (prio_of packet)) untold
arrival_of kept (Bad cause) = Damaged (number_of cause)

-- after an entry of the table: its reply is due behind the others
abbrev pub after_entry : InputKept → Received → InputKept
after_entry kept received = record {
  buffers = kept.buffers;
  input = received.state;
  held = if received.held then kept.held + 1 else kept.held;
  due = kept.due ++ reply_due received.reply;
}

-- after an event
abbrev pub after_one_event : InputKept → Event → InputKept
after_one_event kept event = after_entry kept (receives (arrival_of kept event) kept.input)

-- after events
abbrev pub after_events : InputKept → List Event → InputKept
after_events kept [] = kept
after_events kept (event ∷ events) = after_events (after_one_event kept event) events

-- ---- what the code keeps

abbrev pub input_in_state : InputState → ℕ → Input
input_in_state S.Ok expected = InputOk expected
input_in_state S.RetryStopped expected = InputRetryStopped expected
input_in_state S.ErrorStopped expected = InputErrorStopped expected

abbrev pub input_kept : Kept → InputKept
input_kept kept = record {
  buffers = kept.buffers;
  input = input_in_state kept.state kept.expected;
  held = kept.held;
  due = kept.due.items;
}

-- the events of what characters told, with the packet that the last one ended
abbrev pub events_of_told : Told → Option Event → List Event
events_of_told told ended = listed (events_by told ended).first (events_by told ended).second
