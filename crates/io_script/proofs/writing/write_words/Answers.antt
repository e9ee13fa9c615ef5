use Rattle.std.proofs.Common.{inl, inr}
use Rattle.rio_chars.proofs.WrittenLaws.{Writes-then}
use Rattle.io_script.proofs.writing.write_words.Goals as goal

pub returns-in-NRead : goal.returns-in-NRead
returns-in-NRead g c =
    rw c.in-NRead.is (Writes-then _ _ c.write_place.ensures
    (rw c.from.ensures at c.put_number-in-NRead.ensures))

pub returns-in-NWrite : goal.returns-in-NWrite
returns-in-NWrite g c =
    let written = c.write_write.ensures in
    elim c.in-NWrite.is [
      | inl is ↦ rw is written
      | inr other ↦ elim other [ inl is ↦ rw is written | inr is ↦ rw is written ]
    ]
