use Rattle.rio_chars.proofs.WrittenLaws.{Writes-then}
use Rattle.trace_lines.proofs.undetected.write_symbol.Goals as goal

pub returns : goal.returns
returns g c =
    let stype0 = Writes-then _ _ c.write.ensures c.write_number.ensures in
    let first = Writes-then _ _ (Writes-then _ _ stype0 c.write-2.ensures) c.write_number-2.ensures
    in
    let second = Writes-then _ _ (Writes-then _ _ first c.write-3.ensures) c.write_number-3.ensures
    in
    let stype1 = Writes-then _ _ (Writes-then _ _ second c.write-4.ensures) c.write_number-4.ensures
    in
    rw (← c.symbol.view_is)
    (Writes-then _ _ (Writes-then _ _ stype1 c.write-5.ensures) c.write_number-5.ensures)
