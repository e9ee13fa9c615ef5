use Rattle.rio_chars.proofs.WrittenLaws.{Writes-then}
use Rattle.host_enumerate.proofs.map_lines.write_device.Goals as goal

pub returns : goal.returns
returns g c =
    let kind = Writes-then _ _ (Writes-then _ _ c.write.ensures c.write_decimal.ensures)
    c.write_kind.ensures in
    let path = Writes-then _ _ (Writes-then _ _ kind c.write-2.ensures)
    (rw c.as_slice.ensures at c.write_path.ensures) in
    Writes-then _ _ path c.write-3.ensures
