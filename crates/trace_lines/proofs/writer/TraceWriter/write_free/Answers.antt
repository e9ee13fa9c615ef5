use Rattle.std.proofs.Common.{refl}
use Rattle.trace_lines.proofs.WritingLaws.{Writes-packet}
use Rattle.trace_lines.specs.AddsLaws.{Adds-line}
use Rattle.trace_lines.proofs.writer.TraceWriter.write_free.Goals as goal

pub returns : goal.returns
returns g c =
    Adds-line _ refl refl refl
    (Writes-packet _ _ c.args.packet.now c.write.ensures c.write_port.ensures
    c.write_packet.ensures)
