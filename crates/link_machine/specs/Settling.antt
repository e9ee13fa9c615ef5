-- How a link settles: a schedule of turns, deliveries and time-outs. The schedule is this project's
-- own. What each port does in it is of RapidIO Interconnect Specification 1.3, Part 6, packet retry
-- and error recovery.
use Rattle.std.specs.Prelude.{ℕ, ◌&&◌, ◌||◌, not, Bool, true, false, List, [], ◌∷◌, length, Option, Some, None}
use Rattle.link_buffers.specs.Priorities.{highest}
use Rattle.link_model.specs.Input as in_half
use Rattle.link_model.specs.Output as out
use Rattle.link_model.specs.Places.{at_rest}
use Rattle.link_port.specs.Prelude.{PortState, waiting_in, is_ready}
use Rattle.link_machine.specs.Prelude.{Side, A, B, LinkState, from_end, has_none}
use Rattle.link_machine.specs.Schedules.{NextOf, WhereOf, Is, LoopOf}
use Rattle.link_machine.specs.Acts.{Act, Pump, Tell, Deliver, Fire, Reached, At, FoundAt, goes, holds_at}

-- a part of the schedule: from how far a link has come, what is done
abbrev pub SchedulePart : Type 1
SchedulePart = Reached → List Act → Type 0

-- ---- tests of an output half, of an input half and of a port

abbrev pub is_retry_stopped : out.Output → Bool
is_retry_stopped (out.Output.Ok w) = false
is_retry_stopped (out.Output.RetryStopped w) = true
is_retry_stopped (out.Output.ErrorStopped asked w) = false
is_retry_stopped out.Output.Failed = false

abbrev pub has_failed : out.Output → Bool
has_failed (out.Output.Ok w) = false
has_failed (out.Output.RetryStopped w) = false
has_failed (out.Output.ErrorStopped asked w) = false
has_failed out.Output.Failed = true

-- it is OK, or waits for a link-response
abbrev pub may_fire : out.Output → Bool
may_fire (out.Output.Ok w) = true
may_fire (out.Output.RetryStopped w) = false
may_fire (out.Output.ErrorStopped asked w) = asked
may_fire out.Output.Failed = false

abbrev pub is_none : List ℕ → Bool
is_none [] = true
is_none (prio ∷ prios) = false

-- it is OK, with no packet outstanding
abbrev pub is_done : out.Output → Bool
is_done (out.Output.Ok w) = is_none w.prios
is_done (out.Output.RetryStopped w) = false
is_done (out.Output.ErrorStopped asked w) = false
is_done out.Output.Failed = false

abbrev pub is_ok : in_half.Input → Bool
is_ok (in_half.InputOk expected) = true
is_ok (in_half.InputRetryStopped expected) = false
is_ok (in_half.InputErrorStopped expected) = false

abbrev pub is_some : Option ℕ → Bool
is_some None = false
is_some (Some prio) = true

-- a packet waits
abbrev pub waits : PortState → Bool
waits port = is_some (highest (waiting_in port))

-- A direction is at rest: the sender is OK with nothing outstanding, the receiver is OK with
-- nothing in progress.
abbrev pub rests_to : PortState → PortState → Bool
rests_to sender receiver =
    is_done sender.output && (is_ok receiver.input && at_rest receiver.place)

-- ---- tests of a link, with the end that is meant first

abbrev pub first_rests : LinkState → Bool
first_rests link = rests_to link.a link.b

abbrev pub first_has_chars : LinkState → Bool
first_has_chars link = not (has_none link.wire_a.chars)

-- of how far a link has come, a test with an end of it first
abbrev pub of_end : Side → (LinkState → Bool) → Reached → Bool
of_end side test = holds_at (λ link. test (from_end side link))

-- ---- draining

-- all characters of a wire
abbrev pub all_chars : Side → Reached → List Act
all_chars from (At link) = Deliver from (length (from_end from link).wire_a.chars) ∷ []
all_chars from (FoundAt side e) = []

-- all characters of a wire are delivered, if there are any
abbrev pub Empties : Side → SchedulePart
Empties from = WhereOf (of_end from first_has_chars) (Is (all_chars from))

abbrev pub is_busy : Reached → Bool
is_busy reached = of_end A first_has_chars reached || of_end B first_has_chars reached

abbrev never : Reached → Bool
never reached = false

-- while a wire has characters, all of them are delivered, side A's first
abbrev pub Drains : SchedulePart
Drains =
    LoopOf goes is_busy (NextOf goes (Empties A) (Empties B)) never (Is (λ reached. []))

-- a turn of a port, and what comes of it
abbrev pub TakesTurn : Side → SchedulePart
TakesTurn side =
    NextOf goes (WhereOf (holds_at (λ link. true)) (Is (λ reached. Pump side 1 ∷ []))) Drains

-- ---- recovery of one side

-- a restart-from-retry, where one is owed
abbrev pub Restarts : Side → SchedulePart
Restarts side = WhereOf (of_end side (λ link. is_retry_stopped link.a.output)) (TakesTurn side)

-- a time-out, where it may fire
abbrev pub TimesOut : Side → SchedulePart
TimesOut side =
    WhereOf (of_end side (λ link. may_fire link.a.output)) (Is (λ reached. Fire side ∷ []))

-- a link-request, where the direction is not at rest
abbrev pub Requests : Side → SchedulePart
Requests side =
    WhereOf (of_end side (λ link. not (first_rests link)))
    (NextOf goes (TimesOut side) (TakesTurn side))

abbrev pub Recovers : Side → SchedulePart
Recovers side =
    WhereOf (of_end side (λ link. not (has_failed link.a.output)))
    (NextOf goes (Restarts side) (Requests side))

-- ---- free buffers are told

-- the status of a port that tells its free buffers, and what comes of it
abbrev pub Tells : Side → SchedulePart
Tells side =
    WhereOf (of_end side (λ link. link.a.tells))
    (NextOf goes (Is (λ reached. Tell side ∷ [])) Drains)

-- ---- what waits is sent

-- If the direction is at rest, packet by packet, as long as a turn starts one. One that has no room
-- is asked for again; then the port restarts and sends no more.
abbrev pub SendsAll : Side → SchedulePart
SendsAll side =
    WhereOf (of_end side first_rests)
    (LoopOf goes (of_end side (λ link. is_ready link.a)) (TakesTurn side)
    (of_end side (λ link. is_retry_stopped link.a.output)) (TakesTurn side))

abbrev pub Settles : SchedulePart
Settles =
    NextOf goes Drains
    (NextOf goes (Recovers A)
    (NextOf goes (Recovers B)
    (NextOf goes (Tells A)
    (NextOf goes (Tells B)
    (NextOf goes (SendsAll A) (SendsAll B))))))
