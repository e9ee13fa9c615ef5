-- Which entry of the table of the input half an arrival meets. The rows and columns are those of
-- `receives`, in its order.
use Rattle.std.specs.Prelude.{ℕ, ◌==◌, Bool, true, false, Option, Some, None, List, if◌then◌else◌}
use Rattle.rio_symbols.specs.declared.stype1.TheConstants.{LINK_REQUEST}
use Rattle.rio_symbols.specs.declared.cmd.TheConstants.{INPUT_STATUS}
use Rattle.link_model.specs.Prelude.{Input, Arrival, symbol_arrival, Damaged}
use Rattle.link_model.specs.Input.{InputOk, InputRetryStopped, InputErrorStopped}
use Rattle.link_model.specs.Input.Arrival.{ExpectedWithRoom, ExpectedWithoutRoom, UnexpectedAck, RestartFromRetry, LinkRequest, OtherStype1}
use Rattle.link_receiver.specs.Status.{comes_to}
use Rattle.link_port.specs.States.{expected_of}
use Rattle.link_port.specs.Ports.{PortState}
use Rattle.link_entries.specs.declared.entry.ArrivedEntry.{ArrivedEntry}
use Rattle.link_entries.specs.declared.entry.ArrivedEntry.TheVariants as arrived

-- an arrival
abbrev pub arrived_entry : Arrival → Input → ArrivedEntry
arrived_entry (ExpectedWithRoom buffers) (InputOk expected) = arrived.PacketTaken
arrived_entry (ExpectedWithRoom buffers) (InputRetryStopped expected) =
    arrived.PacketWhileRetryStopped
arrived_entry (ExpectedWithRoom buffers) (InputErrorStopped expected) =
    arrived.PacketWhileErrorStopped
arrived_entry (ExpectedWithoutRoom buffers) (InputOk expected) = arrived.PacketWithoutRoom
arrived_entry (ExpectedWithoutRoom buffers) (InputRetryStopped expected) =
    arrived.PacketWhileRetryStopped
arrived_entry (ExpectedWithoutRoom buffers) (InputErrorStopped expected) =
    arrived.PacketWhileErrorStopped
arrived_entry UnexpectedAck (InputOk expected) = arrived.PacketWithAnotherAck
arrived_entry UnexpectedAck (InputRetryStopped expected) = arrived.PacketWhileRetryStopped
arrived_entry UnexpectedAck (InputErrorStopped expected) = arrived.PacketWhileErrorStopped
arrived_entry (Damaged cause) (InputOk expected) = arrived.BadWhileOk
arrived_entry (Damaged cause) (InputRetryStopped expected) = arrived.BadWhileRetryStopped
arrived_entry (Damaged cause) (InputErrorStopped expected) = arrived.BadWhileErrorStopped
arrived_entry RestartFromRetry (InputOk expected) = arrived.RestartWhileOk
arrived_entry RestartFromRetry (InputRetryStopped expected) = arrived.RestartWhileRetryStopped
arrived_entry RestartFromRetry (InputErrorStopped expected) = arrived.RestartWhileErrorStopped
arrived_entry LinkRequest (InputOk expected) = arrived.RequestWhileOk
arrived_entry LinkRequest (InputRetryStopped expected) = arrived.RequestWhileRetryStopped
arrived_entry LinkRequest (InputErrorStopped expected) = arrived.RequestWhileErrorStopped
arrived_entry OtherStype1 (InputOk expected) = arrived.AnotherStype1
arrived_entry OtherStype1 (InputRetryStopped expected) = arrived.AnotherStype1
arrived_entry OtherStype1 (InputErrorStopped expected) = arrived.AnotherStype1

-- a symbol by its stype1 and cmd: a link-request with another cmd than input-status has an entry of
-- its own
abbrev pub obeyed_entry : ℕ → ℕ → Input → ArrivedEntry
obeyed_entry s1 cmd input =
    if s1 == LINK_REQUEST then request_entry (cmd == INPUT_STATUS)
    else arrived_entry (symbol_arrival s1 cmd) input
  where
    request_entry : Bool → ArrivedEntry
    request_entry true = arrived_entry LinkRequest input
    request_entry false = arrived.AnotherCmd

-- a good packet with an ackID that comes to a port
abbrev pub packet_entry : PortState → ℕ → List ℕ → ArrivedEntry
packet_entry port ack packet =
    arrived_entry (comes_to port.tells port.received (expected_of port.input) ack packet) port.input

-- beside a packet that is taken: its ackID is 31
abbrev pub taken_point : ArrivedEntry → ℕ → Option ArrivedEntry
taken_point arrived.PacketTaken ack = if ack == 31 then Some arrived.LastTaken else None
taken_point _ _ = None

abbrev pub packet_point : PortState → ℕ → List ℕ → Option ArrivedEntry
packet_point port ack packet = taken_point (packet_entry port ack packet) ack
