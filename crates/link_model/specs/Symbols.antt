-- The control symbols that a port sends (RapidIO Interconnect Specification 1.3, Part 6, control
-- symbols). A symbol that only needs stype1 has stype0 status, one that only needs stype0 has
-- stype1 NOP and cmd 0.
use Rattle.std.specs.Prelude.{ℕ}
use Rattle.rio_symbols.specs.declared.stype0.TheConstants.{PACKET_ACCEPTED, PACKET_RETRY, PACKET_NOT_ACCEPTED, STATUS, LINK_RESPONSE}
use Rattle.rio_symbols.specs.declared.stype1.TheConstants.{START_OF_PACKET, END_OF_PACKET, RESTART_FROM_RETRY, LINK_REQUEST, NOP}
use Rattle.rio_symbols.specs.declared.cmd.TheConstants.{INPUT_STATUS}
use Rattle.rio_symbols.specs.Fields.{Fields}

-- a symbol with stype0, its two parameters and NOP
abbrev pub answer : ℕ → ℕ → ℕ → Fields
answer s0 p0 p1 = record { s0 = s0; p0 = p0; p1 = p1; s1 = NOP; cmd = 0 }

-- status, which has the next expected ackID and the buffer status, with stype1 and cmd
abbrev pub status_with : (expected buffers s1 cmd : ℕ) → Fields
status_with expected buffers s1 cmd =
    record { s0 = STATUS; p0 = expected; p1 = buffers; s1 = s1; cmd = cmd }

-- the ackID and the buffer status, which is the number of free buffers, or 31 of a port that does
-- not tell it
abbrev pub packet_accepted : ℕ → ℕ → Fields
packet_accepted ack buffers = answer PACKET_ACCEPTED ack buffers

abbrev pub packet_retry : ℕ → ℕ → Fields
packet_retry ack buffers = answer PACKET_RETRY ack buffers

-- the next expected ackID (this project's profile) and the cause
abbrev pub packet_not_accepted : ℕ → ℕ → Fields
packet_not_accepted expected cause = answer PACKET_NOT_ACCEPTED expected cause

-- the next expected ackID and the state of the input: 16 OK, 4 retry-stopped, 5 error-stopped
abbrev pub link_response : ℕ → ℕ → Fields
link_response expected port_status = answer LINK_RESPONSE expected port_status

-- status with NOP
abbrev pub status : ℕ → ℕ → Fields
status expected buffers = status_with expected buffers NOP 0

abbrev pub start_of_packet : ℕ → ℕ → Fields
start_of_packet expected buffers = status_with expected buffers START_OF_PACKET 0

abbrev pub end_of_packet : ℕ → ℕ → Fields
end_of_packet expected buffers = status_with expected buffers END_OF_PACKET 0

abbrev pub restart_from_retry : ℕ → ℕ → Fields
restart_from_retry expected buffers = status_with expected buffers RESTART_FROM_RETRY 0

-- link-request input-status
abbrev pub link_request : ℕ → ℕ → Fields
link_request expected buffers = status_with expected buffers LINK_REQUEST INPUT_STATUS
