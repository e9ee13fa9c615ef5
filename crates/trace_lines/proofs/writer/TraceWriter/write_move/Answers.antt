use Rattle.std.proofs.Common.{refl}
use Rattle.rio_chars.proofs.WrittenLaws.{Writes-then}
use Rattle.trace_lines.proofs.WritingLaws.{Writes-packet}
use Rattle.trace_lines.specs.AddsLaws.{Adds-line}
use Rattle.trace_lines.proofs.writer.TraceWriter.write_move.Goals as goal

pub returns : goal.returns
returns g c =
    let from = Writes-then _ _ (Writes-then _ _ c.write.ensures c.write_port.ensures)
    c.write-2.ensures in
    Adds-line _ refl refl refl
    (Writes-packet _ _ c.args.packet.now from c.write_port-2.ensures c.write_packet.ensures)
