use Rattle.fabric_script.proofs.SpacedWords.{Writes-joined}
use Rattle.io_script.proofs.writing.write_io_line.Goals as goal

pub returns : goal.returns
returns g c =
    let named = rw (c.keyword.ensures, c.form.ensures) at c.write.ensures in
    Writes-joined _ _ named c.write_words.ensures
