-- A link at rest.
use Rattle.std.specs.Prelude.{◌≡◌, ◌⊎◌, ℕ, ◌+◌, true, false, List, [], Option, Some, None, slice_get}
use Rattle.link_model.specs.Prelude.{prio_of, from_ack, at_rest}
use Rattle.link_model.specs.declared.reports.Report.{Report}
use Rattle.link_model.specs.Reports.{report_of}
use Rattle.link_buffers.specs.Prelude.{Buffered, list_at, popped, room_for, stored, packet_count, highest}
use Rattle.link_model.specs.Input as in_half
use Rattle.link_model.specs.Output as out
use Rattle.link_port.specs.Ports.{PortState}
use Rattle.link_port.specs.Prelude.{expected_of, buffer_status}
use Rattle.link_sound.specs.Lent.{lent}
use Rattle.link_sound.specs.Told.{last_report}
use Rattle.link_machine.specs.States.{LinkState}
use Rattle.link_machine.specs.Settling.{is_retry_stopped}

-- The sender is OK with nothing outstanding. The receiver is OK with nothing in progress, and
-- expects the next ackID.
pub record IsAtRest (sender receiver : PortState) : Type 0 where
  pub ack : ℕ
  pub report : Option Report
  pub sender_ok : sender.output ≡ out.Output.Ok (from_ack ack report)
  pub receiver_ok : receiver.input ≡ in_half.InputOk ack
  pub place : at_rest receiver.place ≡ true

-- The last report that the sender keeps is what the receiver would tell now: its free buffers, if
-- it tells them, else nothing.
abbrev pub KnowsRoom : PortState → PortState → Type 0
KnowsRoom sender receiver =
    last_report sender.output
    ≡ report_of (expected_of receiver.input) (buffer_status receiver.tells receiver.received)

-- the first packet of the highest priority that has one waits, and has no room at the receiver
pub record IsBlocked (queued : List (List (List ℕ))) (received : Buffered) : Type 0 where
  pub prio : ℕ
  pub packet : List ℕ
  pub highest_is : highest queued ≡ Some prio
  pub first : slice_get (list_at queued prio) 0 ≡ Some packet
  pub full : room_for received (prio_of packet) ≡ false

-- no packet waits, or one waits that has no room
abbrev pub IsDone : PortState → PortState → Type 0
IsDone sender receiver = (highest sender.queued ≡ None) ⊎ IsBlocked sender.queued receiver.received

-- Both wires are empty, and both directions are at rest.
pub record IsQuiet (link : LinkState) : Type 0 where
  pub wire_a : link.wire_a.chars ≡ []
  pub wire_b : link.wire_b.chars ≡ []
  pub a_to_b : IsAtRest link.a link.b
  pub b_to_a : IsAtRest link.b link.a

-- Besides, no port holds what the other has not freed, and at each end nothing waits that has room
-- at the other.
pub record IsSettled (link : LinkState) : Type 0 where
  pub quiet : IsQuiet link
  pub lent_a : lent link.a link.b ≡ []
  pub lent_b : lent link.b link.a ≡ []
  pub done_a : IsDone link.a link.b
  pub done_b : IsDone link.b link.a

-- A packet went from the first port to the second: the first one of the highest priority that has
-- one, which had room. The second port holds it, and the first has freed it.
pub record HasPassed (before after : LinkState) : Type 0 where
  pub prio : ℕ
  pub packet : List ℕ
  pub highest_is : highest before.a.queued ≡ Some prio
  pub first : slice_get (list_at before.a.queued prio) 0 ≡ Some packet
  pub room : room_for before.b.received (prio_of packet) ≡ true
  pub held : after.b.received ≡ stored true before.b.received packet
  pub freed : after.a.queued ≡ popped before.a.queued prio
  pub less : packet_count after.a.queued + 1 ≡ packet_count before.a.queued

-- One turn with what comes of it: a packet passed, or none had room and the first port is to
-- restart.
abbrev pub IsRound : LinkState → LinkState → Type 0
IsRound before after =
    (HasPassed before after × (is_retry_stopped after.a.output ≡ false))
    ⊎ (IsBlocked before.a.queued before.b.received × (is_retry_stopped after.a.output ≡ true))
