use Rattle.fabric_script.proofs.SpacedWords.{Writes-joined}
use Rattle.fabric_script.proofs.writing.write_line.Goals as goal

pub returns : goal.returns
returns g c =
    let named = rw (c.keyword.ensures, c.form.ensures) at c.write.ensures in
    Writes-joined _ _ named c.put_words.ensures
