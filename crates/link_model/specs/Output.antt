-- The output half of a port: its states and its step tables (RapidIO Interconnect Specification
-- 1.3, Part 6, packet retry and error recovery). The rows and columns are in the order of the
-- tables of docs/link.md.
use Rattle.std.specs.Prelude.{ℕ, ◌==◌, Bool, true, false, nat_lt, nat_le, if◌then◌else◌, length, Option, Some, None}
use Rattle.rio_symbols.specs.Fields.{Fields}
use Rattle.rio_symbols.specs.declared.stype0.TheConstants.{PACKET_ACCEPTED, PACKET_RETRY, PACKET_NOT_ACCEPTED, LINK_RESPONSE}
use Rattle.link_model.specs.Outstanding.{Outstanding, next_ack, distance, is_oldest, without_oldest, with_next, with_report, from_ack}
use Rattle.link_model.specs.declared.reports.Report.{Report}
use Rattle.link_model.specs.Reports.{has_buffer_status, base_of, report_of, has_credit}
use Rattle.link_model.specs.Window.{window}

pub data Output : Type 0 where
  Ok : Outstanding → Output
  RetryStopped : Outstanding → Output
  -- whether it has sent a link-request and waits for the response
  ErrorStopped : (asked : Bool) → Outstanding → Output
  Failed : Output

-- what stype0 of a symbol tells a sender
pub data Stype0 : Type 0 where
  PacketAccepted : Stype0
  PacketRetry : Stype0
  PacketNotAccepted : Stype0
  LinkResponse : Stype0
  OtherStype0 : Stype0

abbrev pub stype0 : ℕ → Stype0
stype0 s0 =
    if s0 == PACKET_ACCEPTED then PacketAccepted
    else (if s0 == PACKET_RETRY then PacketRetry
    else (if s0 == PACKET_NOT_ACCEPTED then PacketNotAccepted
    else (if s0 == LINK_RESPONSE then LinkResponse else OtherStype0)))

-- the state after a symbol, and how many of the oldest outstanding packets leave the store
pub record Heard : Type 0 where
  pub state : Output
  pub freed : ℕ

abbrev pub heard : Output → ℕ → Heard
heard state freed = record { state = state; freed = freed }

abbrev pub ignored : Output → Heard
ignored state = heard state 0

-- an error: the sender has to ask which packet the far port expects
abbrev pub error : Outstanding → Heard
error w = heard (ErrorStopped false w) 0

-- the oldest packet is accepted, or it is an error
abbrev pub accepted : Outstanding → ℕ → Heard
accepted w ack = if is_oldest w ack then heard (Ok (without_oldest w)) 1 else error w

-- the oldest packet is to be sent again, or it is an error
abbrev pub retried : Outstanding → ℕ → Heard
retried w ack = if is_oldest w ack then heard (RetryStopped w) 0 else error w

-- all packets before the ackID are accepted, and it is the next to be sent, unless it is none of
-- the outstanding ones
abbrev pub responded : Bool → Outstanding → ℕ → Heard
responded false w ack = ignored (ErrorStopped false w)
responded true w ack =
    if nat_le (distance w.oldest ack) (length w.prios)
    then heard (Ok (from_ack ack w.report)) (distance w.oldest ack) else heard Failed 0

-- a report replaces the last one, in every state that has not failed
abbrev pub reported : Option Report → Output → Output
reported report (Ok w) = Ok (with_report report w)
reported report (RetryStopped w) = RetryStopped (with_report report w)
reported report (ErrorStopped asked w) = ErrorStopped asked (with_report report w)
reported report Failed = Failed

-- what the buffer status of a symbol does, if it has one, before anything else
abbrev pub hears_report : Fields → Output → Output
hears_report symbol output =
    if has_buffer_status symbol.s0
    then reported (report_of (base_of symbol.s0 symbol.p0) symbol.p1) output else output

-- what a symbol with the ackID does: one clause for each entry of the table
abbrev pub hears : Stype0 → Output → ℕ → Heard
hears PacketAccepted (Ok w) ack = accepted w ack
hears PacketAccepted (RetryStopped w) ack = error w
hears PacketAccepted (ErrorStopped asked w) ack = ignored (ErrorStopped asked w)
hears PacketAccepted Failed ack = ignored Failed
hears PacketRetry (Ok w) ack = retried w ack
hears PacketRetry (RetryStopped w) ack = error w
hears PacketRetry (ErrorStopped asked w) ack = ignored (ErrorStopped asked w)
hears PacketRetry Failed ack = ignored Failed
hears PacketNotAccepted (Ok w) ack = error w
hears PacketNotAccepted (RetryStopped w) ack = error w
hears PacketNotAccepted (ErrorStopped asked w) ack = ignored (ErrorStopped asked w)
hears PacketNotAccepted Failed ack = ignored Failed
hears LinkResponse (Ok w) ack = ignored (Ok w)
hears LinkResponse (RetryStopped w) ack = ignored (RetryStopped w)
hears LinkResponse (ErrorStopped asked w) ack = responded asked w ack
hears LinkResponse Failed ack = ignored Failed
hears OtherStype0 (Ok w) ack = ignored (Ok w)
hears OtherStype0 (RetryStopped w) ack = ignored (RetryStopped w)
hears OtherStype0 (ErrorStopped asked w) ack = ignored (ErrorStopped asked w)
hears OtherStype0 Failed ack = ignored Failed

-- what a turn sends
pub data Sends : Type 0 where
  -- start-of-packet, a packet with its ackID, end-of-packet
  Packet : (ack prio : ℕ) → Sends
  Restart : Sends
  Request : Sends
  -- status with NOP, which tells the free buffers
  Status : Sends
  Nothing : Sends

-- the state after a turn, and what it sends
pub record Turned : Type 0 where
  pub state : Output
  pub sends : Sends

abbrev pub turned : Output → Sends → Turned
turned state sends = record { state = state; sends = sends }

-- the priority, if the far port has told of room for a packet of it, or does not tell
abbrev pub credited : Outstanding → Option ℕ → Option ℕ
credited w None = None
credited w (Some prio) = if has_credit w.report (next_ack w) prio then Some prio else None

-- the priority of the packet that a turn starts, if one waits, fewer than the window are
-- outstanding, and there is credit for it
abbrev pub startable : Outstanding → Option ℕ → Option ℕ
startable w waiting = if nat_lt (length w.prios) window then credited w waiting else None

-- what is sent where no packet starts, by whether the port tells its free buffers
abbrev pub unstarted : Bool → Sends
unstarted true = Status
unstarted false = Nothing

abbrev pub started : Bool → Outstanding → Option ℕ → Turned
started tells w None = turned (Ok w) (unstarted tells)
started tells w (Some prio) = turned (Ok (with_next w prio)) (Packet (next_ack w) prio)

-- what a turn does of a port that tells its free buffers, or does not, where the packet that waits
-- first has the priority: one clause for each entry of the table
abbrev pub turns : Bool → Output → Option ℕ → Turned
turns tells (Ok w) waiting = started tells w (startable w waiting)
turns tells (RetryStopped w) waiting = turned (Ok (from_ack w.oldest w.report)) Restart
turns tells (ErrorStopped false w) waiting = turned (ErrorStopped true w) Request
turns tells (ErrorStopped true w) waiting = turned (ErrorStopped true w) Nothing
turns tells Failed waiting = turned Failed Nothing

-- whether a packet is sent
abbrev pub starts : Sends → Bool
starts (Packet ack prio) = true
starts Restart = false
starts Request = false
starts Status = false
starts Nothing = false

-- what a time-out does
abbrev pub times_out : Output → Output
times_out (Ok w) = ErrorStopped false w
times_out (RetryStopped w) = RetryStopped w
times_out (ErrorStopped asked w) = ErrorStopped false w
times_out Failed = Failed
