use Rattle.std.proofs.Common.{refl}
use Rattle.trace_lines.specs.AddsLaws.{Adds-line}
use Rattle.trace_lines.proofs.writer.TraceWriter.write_end.Goals as goal

pub returns : goal.returns
returns g c =
    Adds-line _ refl refl refl c.write.ensures
