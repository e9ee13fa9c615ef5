-- Which entry of the table of turns a turn meets. The rows are those of `turns`.
use Rattle.std.specs.Prelude.{◌≡◌, ℕ, Bool, true, false, nat_lt, length, is_some, Option, Some, None, if◌then◌else◌}
use Rattle.link_buffers.specs.Prelude.{highest}
use Rattle.link_model.specs.Prelude.{Outstanding, window}
use Rattle.link_model.specs.declared.reports.Report.{Report}
use Rattle.link_model.specs.Output as out
use Rattle.link_port.specs.Ports.{PortState}
use Rattle.link_port.specs.Turns.{port_turn, waiting_in, turns_to, is_ready}
use Rattle.link_entries.specs.declared.entry.TurnEntry.{TurnEntry}
use Rattle.link_entries.specs.declared.entry.TurnEntry.TheVariants as turn

-- a turn while OK in which no packet starts, by the priority of the packet that waits first
abbrev pub unstarted_entry : Outstanding → Option ℕ → TurnEntry
unstarted_entry w None = turn.NothingWaits
unstarted_entry w (Some prio) =
    if nat_lt (length w.prios) window then turn.WithoutCredit else turn.WindowIsFull

-- a turn, by whether a packet starts in it
abbrev pub turn_entry_of : out.Output → Bool → Option ℕ → TurnEntry
turn_entry_of (out.Output.Ok w) true waiting = turn.PacketSent
turn_entry_of (out.Output.Ok w) false waiting = unstarted_entry w waiting
turn_entry_of (out.Output.RetryStopped w) starts waiting = turn.RestartSent
turn_entry_of (out.Output.ErrorStopped false w) starts waiting = turn.RequestSent
turn_entry_of (out.Output.ErrorStopped true w) starts waiting = turn.AskedBefore
turn_entry_of out.Output.Failed starts waiting = turn.TurnWhileFailed

-- the entry that a turn of a port meets
abbrev pub turn_entry : PortState → TurnEntry
turn_entry port = turn_entry_of port.output (is_ready port) (highest (waiting_in port))

-- the last report of the far port, which a sender that failed has none of
abbrev pub report_in : out.Output → Option Report
report_in (out.Output.Ok w) = w.report
report_in (out.Output.RetryStopped w) = w.report
report_in (out.Output.ErrorStopped asked w) = w.report
report_in out.Output.Failed = None

-- whether the far port tells its free buffers, as far as the output half was told
abbrev pub is_told : out.Output → Bool
is_told output = is_some (report_in output)

-- it does or does not; a sender that failed sends no packet, so that it does not matter
abbrev pub IsReported : Bool → out.Output → Type 0
IsReported told (out.Output.Ok w) = told ≡ is_some w.report
IsReported told (out.Output.RetryStopped w) = told ≡ is_some w.report
IsReported told (out.Output.ErrorStopped asked w) = told ≡ is_some w.report
IsReported told out.Output.Failed = Unit {0}

-- beside a packet that is sent: the far port tells its free buffers
abbrev pub credit_point_of : TurnEntry → Bool → Option TurnEntry
credit_point_of turn.PacketSent true = Some turn.WithinCredit
credit_point_of _ _ = None

abbrev pub credit_point : PortState → Option TurnEntry
credit_point port = credit_point_of (turn_entry port) (is_told port.output)

-- beside a packet that is sent: the next that waits has a lower priority
abbrev pub overtaking_point_of : out.Sends → Option ℕ → Option TurnEntry
overtaking_point_of (out.Sends.Packet ack prio) (Some next) =
    if nat_lt next prio then Some turn.Overtakes else None
overtaking_point_of _ _ = None

abbrev pub overtaking_point : PortState → Option TurnEntry
overtaking_point port =
    overtaking_point_of (port_turn port).sends (highest (waiting_in (turns_to port)))

-- beside a turn while OK in which no packet starts: the port tells its free buffers by status
abbrev pub status_point_of : out.Sends → Option TurnEntry
status_point_of out.Sends.Status = Some turn.StatusSent
status_point_of _ = None

abbrev pub status_point : PortState → Option TurnEntry
status_point port = status_point_of (port_turn port).sends
