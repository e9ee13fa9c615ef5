-- Which entry of the table of time-outs a time-out meets.
use Rattle.std.specs.Prelude.{◌==◌, length, Option, Some, None, if◌then◌else◌}
use Rattle.link_model.specs.Output as out
use Rattle.link_entries.specs.declared.entry.TimeOutEntry.{TimeOutEntry}
use Rattle.link_entries.specs.declared.entry.TimeOutEntry.TheVariants as time_out

-- the entry, by the state
abbrev pub time_out_entry : out.Output → TimeOutEntry
time_out_entry (out.Output.Ok w) = time_out.TimeOutWhileOk
time_out_entry (out.Output.RetryStopped w) = time_out.TimeOutWhileRetryStopped
time_out_entry (out.Output.ErrorStopped asked w) = time_out.TimeOutWhileErrorStopped
time_out_entry out.Output.Failed = time_out.TimeOutWhileFailed

-- beside a time-out while OK: nothing is outstanding
abbrev pub time_out_point : out.Output → Option TimeOutEntry
time_out_point (out.Output.Ok w) =
    if length w.prios == 0 then Some time_out.NothingOutstanding else None
time_out_point _ = None
