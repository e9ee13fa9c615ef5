use Rattle.std.proofs.Common.{refl}
use Rattle.rio_chars.proofs.WrittenLaws.{Writes-then}
use Rattle.trace_lines.specs.AddsLaws.{Adds-line}
use Rattle.trace_lines.proofs.writer.TraceWriter.write_undetected.Goals as goal

pub returns : goal.returns
returns g c =
    let port =
    Writes-then _ _
    (Writes-then _ _ (Writes-then _ _ c.write.ensures c.write_decimal.ensures)
    c.write-2.ensures) c.write_port.ensures in
    Adds-line _ refl refl refl
    (Writes-then _ _
    (Writes-then _ _ (Writes-then _ _ port c.write-3.ensures) c.write_event.ensures)
    c.write-4.ensures)
