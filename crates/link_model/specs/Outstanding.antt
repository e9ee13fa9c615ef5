-- The outstanding packets of a sender: those sent and not yet acknowledged. ackIDs count modulo 32
-- (RapidIO Interconnect Specification 1.3, Part 6, packet acknowledgment).
use Rattle.std.specs.Prelude.{ℕ, ◌+◌, ◌%◌, ◌<◌, ◌≤◌, ◌==◌, ◌&&◌, Bool, nat_lt, List, [], ◌∷◌, ◌++◌, length, drop, All, Option, IfSome}
use Rattle.link_model.specs.declared.reports.Report.{Report}
use Rattle.link_model.specs.Reports.{IsReport}
pub use Rattle.link_model.specs.AckIds.{distance}
use Rattle.link_model.specs.Window.{window}

-- the ackID of the oldest packet that is not acknowledged, the priorities of the outstanding
-- packets
-- in the order of their ackIDs, and the last report of the far port, if it tells its free buffers
pub record Outstanding : Type 0 where
  pub oldest : ℕ
  pub prios : List ℕ
  pub report : Option Report

-- what is true of every sender
pub record IsOutstanding (w : Outstanding) : Type 0 where
  pub oldest : w.oldest < 32
  pub few : length w.prios ≤ window
  pub prios : All (λ prio. prio < 4) w.prios
  pub report : IfSome w.report IsReport

-- the ackID of the next packet
abbrev pub next_ack : Outstanding → ℕ
next_ack w = (w.oldest + length w.prios) % 32

-- whether an ackID is that of the oldest outstanding packet
abbrev pub is_oldest : Outstanding → ℕ → Bool
is_oldest w ack = nat_lt 0 (length w.prios) && (ack == w.oldest)

-- the oldest packet is acknowledged
abbrev pub without_oldest : Outstanding → Outstanding
without_oldest w = record w { oldest = (w.oldest + 1) % 32; prios = drop 1 w.prios }

-- one more packet is outstanding
abbrev pub with_next : Outstanding → ℕ → Outstanding
with_next w prio = record w { prios = w.prios ++ prio ∷ [] }

-- nothing is outstanding, an ackID is the next, and this is the last report
abbrev pub from_ack : ℕ → Option Report → Outstanding
from_ack ack report = record { oldest = ack; prios = []; report = report }

-- another report is the last
abbrev pub with_report : Option Report → Outstanding → Outstanding
with_report report w = record w { report = report }
