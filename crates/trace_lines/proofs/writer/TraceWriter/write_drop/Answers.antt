use Rattle.std.proofs.Common.{refl, rules}
use Rattle.trace_lines.proofs.WritingLaws.{Writes-packet}
use Rattle.trace_lines.specs.AddsLaws.{Adds-line}
use Rattle.trace_lines.proofs.writer.TraceWriter.write_drop.Goals as goal

pub returns-then-is_unseen : goal.returns-then-is_unseen
returns-then-is_unseen g c =
    Adds-line _ refl refl (search rules) (c.is_unseen.ensures c.if-is_unseen.true _)

pub returns : goal.returns
returns g c =
    Adds-line _ refl refl (search rules)
    (Writes-packet _ _ c.args.packet.now c.write.ensures c.write_port.ensures
    c.write_packet.ensures)
