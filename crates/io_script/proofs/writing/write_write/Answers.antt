use Rattle.rio_chars.proofs.WrittenLaws.{Writes-then}
use Rattle.io_script.proofs.writing.write_write.Goals as goal

pub returns : goal.returns
returns g c =
    Writes-then _ _ c.write_place.ensures (rw c.as_slice.ensures.value at c.put_bytes.ensures)
