use Rattle.std.proofs.Common.{refl}
use Rattle.rio_chars.proofs.WrittenLaws.{Writes-then}
use Rattle.trace_lines.specs.AddsLaws.{Adds-line}
use Rattle.trace_lines.proofs.writer.TraceWriter.write_fire.Goals as goal

pub returns : goal.returns
returns g c =
    Adds-line _ refl refl refl
    (Writes-then _ _ (Writes-then _ _ c.write.ensures c.write_port.ensures)
    c.write-2.ensures)
