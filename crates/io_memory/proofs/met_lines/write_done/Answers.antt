use Rattle.rio_chars.proofs.WrittenLaws.{Writes-then}
use Rattle.io_memory.proofs.met_lines.write_done.Goals as goal

pub returns : goal.returns
returns g c =
    let name = Writes-then _ _ c.write.ensures c.write-2.ensures in
    let number = rw c.from.ensures at c.write_decimal.ensures in
    let code = rw c.from-2.ensures at c.write_decimal-2.ensures in
    let tid = Writes-then _ _ (Writes-then _ _ name c.write-3.ensures) number in
    let status = Writes-then _ _ (Writes-then _ _ tid c.write-4.ensures) code in
    let load =
    Writes-then _ _ (Writes-then _ _ status c.write-5.ensures) c.write_data.ensures in
    Writes-then _ _ load c.write-6.ensures
