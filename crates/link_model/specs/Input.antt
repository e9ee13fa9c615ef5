-- The input half of a port: its states and its step table (RapidIO Interconnect Specification 1.3,
-- Part 6, packet retry and error recovery). The rows and columns are in the order of the table of
-- docs/link.md.
use Rattle.std.specs.Prelude.{ℕ, ◌+◌, ◌%◌, ◌==◌, ◌&&◌, Bool, true, false, if◌then◌else◌, Option, Some, None}
use Rattle.rio_symbols.specs.declared.stype1.TheConstants.{RESTART_FROM_RETRY, LINK_REQUEST}
use Rattle.rio_symbols.specs.declared.cmd.TheConstants.{INPUT_STATUS}
use Rattle.rio_symbols.specs.Fields.{Fields}
use Rattle.link_model.specs.Symbols.{packet_accepted, packet_retry, packet_not_accepted, link_response}

-- a state, with the next expected ackID
pub data Input : Type 0 where
  InputOk : ℕ → Input
  InputRetryStopped : ℕ → Input
  InputErrorStopped : ℕ → Input

-- what comes to a receiver; a packet that is expected, with the buffer status after it
pub data Arrival : Type 0 where
  ExpectedWithRoom : (buffers : ℕ) → Arrival
  ExpectedWithoutRoom : (buffers : ℕ) → Arrival
  UnexpectedAck : Arrival
  -- characters that are no packet or symbol, with the number of the cause
  Damaged : ℕ → Arrival
  RestartFromRetry : Arrival
  LinkRequest : Arrival
  OtherStype1 : Arrival

-- a good packet with an ackID, where another is expected, whether its priority has room, and the
-- buffer status after it
abbrev pub packet_arrival : ℕ → ℕ → Bool → ℕ → Arrival
packet_arrival expected ack room buffers =
    if ack == expected
    then (if room then ExpectedWithRoom buffers else ExpectedWithoutRoom buffers)
    else UnexpectedAck

-- a control symbol by its stype1 and cmd; a link-request with another cmd than input-status is
-- ignored (this project's profile)
abbrev pub symbol_arrival : ℕ → ℕ → Arrival
symbol_arrival s1 cmd =
    if s1 == RESTART_FROM_RETRY then RestartFromRetry
    else (if (s1 == LINK_REQUEST) && (cmd == INPUT_STATUS) then LinkRequest else OtherStype1)

-- the state after, the symbol that is sent, and whether the packet goes into the store
pub record Received : Type 0 where
  pub state : Input
  pub reply : Option Fields
  pub held : Bool

abbrev pub replied : Input → Fields → Received
replied state reply = record { state = state; reply = Some reply; held = false }

abbrev pub silent : Input → Received
silent state = record { state = state; reply = None; held = false }

-- the packet of the expected ackID is accepted
abbrev pub input_accepted : ℕ → ℕ → Received
input_accepted expected buffers =
    record {
      state = InputOk ((expected + 1) % 32);
      reply = Some (packet_accepted expected buffers);
      held
          = true;
    }

-- an error: the far port has to ask which packet is expected
abbrev pub input_error : ℕ → ℕ → Received
input_error expected cause =
    replied (InputErrorStopped expected) (packet_not_accepted expected cause)

-- what an arrival does: one clause for each entry of the table
abbrev pub receives : Arrival → Input → Received
receives (ExpectedWithRoom buffers) (InputOk expected) = input_accepted expected buffers
receives (ExpectedWithRoom buffers) (InputRetryStopped expected) =
    silent (InputRetryStopped expected)
receives (ExpectedWithRoom buffers) (InputErrorStopped expected) =
    silent (InputErrorStopped expected)
receives (ExpectedWithoutRoom buffers) (InputOk expected) =
    replied (InputRetryStopped expected) (packet_retry expected buffers)
receives (ExpectedWithoutRoom buffers) (InputRetryStopped expected) =
    silent (InputRetryStopped expected)
receives (ExpectedWithoutRoom buffers) (InputErrorStopped expected) =
    silent (InputErrorStopped expected)
receives UnexpectedAck (InputOk expected) = input_error expected 1
receives UnexpectedAck (InputRetryStopped expected) = silent (InputRetryStopped expected)
receives UnexpectedAck (InputErrorStopped expected) = silent (InputErrorStopped expected)
receives (Damaged cause) (InputOk expected) = input_error expected cause
receives (Damaged cause) (InputRetryStopped expected) = input_error expected cause
receives (Damaged cause) (InputErrorStopped expected) = silent (InputErrorStopped expected)
receives RestartFromRetry (InputOk expected) = input_error expected 31
receives RestartFromRetry (InputRetryStopped expected) = silent (InputOk expected)
receives RestartFromRetry (InputErrorStopped expected) = silent (InputErrorStopped expected)
receives LinkRequest (InputOk expected) = replied (InputOk expected) (link_response expected 16)
receives LinkRequest (InputRetryStopped expected) =
    replied (InputOk expected) (link_response expected 4)
receives LinkRequest (InputErrorStopped expected) =
    replied (InputOk expected) (link_response expected 5)
receives OtherStype1 (InputOk expected) = silent (InputOk expected)
receives OtherStype1 (InputRetryStopped expected) = silent (InputRetryStopped expected)
receives OtherStype1 (InputErrorStopped expected) = silent (InputErrorStopped expected)
