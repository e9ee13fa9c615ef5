-- What a port tells of its free receive buffers, and what a sender may start by it
-- (transmitter-controlled flow control, RapidIO Interconnect Specification 1.3, Part 6). Which
-- packet needs how many free buffers is this project's profile.
use Rattle.std.specs.Prelude.{ℕ, ◌+◌, ◌-◌, ◌%◌, ◌<◌, ◌==◌, ◌||◌, Bool, true, nat_lt, Option, Some, None, if◌then◌else◌}
use Rattle.rio_symbols.specs.declared.stype0.TheConstants.{PACKET_ACCEPTED, PACKET_RETRY, STATUS}
use Rattle.link_model.specs.AckIds.{distance}
use Rattle.link_model.specs.declared.reports.Report.{Report}

-- the buffer status of a port that does not tell its free buffers: receiver-controlled flow control
abbrev pub untold : ℕ
untold = 31

-- what is true of every report
pub record IsReport (report : Report) : Type 0 where
  pub base : report.base < 32
  pub free : report.free < untold

-- whether a symbol with this stype0 has a buffer status
abbrev pub has_buffer_status : ℕ → Bool
has_buffer_status s0 = (s0 == PACKET_ACCEPTED) || ((s0 == PACKET_RETRY) || (s0 == STATUS))

-- the ackID that its sender expects next: the one behind an ackID that it accepts
abbrev pub base_of : ℕ → ℕ → ℕ
base_of s0 ack = if s0 == PACKET_ACCEPTED then (ack + 1) % 32 else ack

-- the report of a buffer status; one of 31 tells nothing
abbrev pub report_of : ℕ → ℕ → Option Report
report_of base free =
    if nat_lt free untold then Some (record { base = base; free = free }) else None

-- How many buffers are left for a packet with this ackID: those that were free, less one for each
-- packet from the base of the report on. It is 0 if the packets are more than the buffers.
abbrev pub credit : Report → ℕ → ℕ
credit report ack = report.free - distance report.base ack

-- whether a packet with this ackID and priority may start: more buffers are left than there are
-- higher priorities, or the far port does not tell
abbrev pub has_credit : Option Report → ℕ → ℕ → Bool
has_credit None ack prio = true
has_credit (Some report) ack prio = nat_lt (3 - prio) (credit report ack)
