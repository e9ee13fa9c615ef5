-- What a port has told of its free buffers, and what the far port keeps of it.
use Rattle.std.specs.Prelude.{◌≡◌, Bool, true, IsTrue, nat_lt, List, All, Option, None, IfSome}
use Rattle.link_model.specs.Prelude.{Output, untold}
use Rattle.link_model.specs.declared.reports.Report.{Report}
use Rattle.link_model.specs.Reports.{has_buffer_status}
use Rattle.link_port.specs.Prelude.{Event, Ctl, Pkt, Bad, PortState}

-- the last report that an output half keeps
abbrev pub last_report : Output → Option Report
last_report (Output.Ok w) = w.report
last_report (Output.RetryStopped w) = w.report
last_report (Output.ErrorStopped asked w) = w.report
last_report Output.Failed = None

-- a buffer status, if the event has one, is that of a port that tells its free buffers, or of one
-- that does not
abbrev pub TellsAs : Bool → Event → Type 0
TellsAs tells (Ctl symbol) =
    IsTrue (has_buffer_status symbol.s0) → nat_lt symbol.p1 untold ≡ tells
TellsAs tells (Pkt ack packet) = Unit {0}
TellsAs tells (Bad cause) = Unit {0}

-- What the port `teller` has sent, and the port `hearer` has not acted on, tells its free buffers
-- if it does, and else tells nothing; and the hearer keeps a report only of a port that tells.
pub record IsTold (hearer teller : PortState) (kept : List Event) : Type 0 where
  pub coming : All (TellsAs teller.tells) kept
  pub keeps : IfSome (last_report hearer.output) (λ report. teller.tells ≡ true)
