use Rattle.rio_chars.proofs.WrittenLaws.{Writes-then}
use Rattle.group_text.proofs.texts.write_group.Goals as goal

pub returns : goal.returns
returns g c =
    let digits = rw c.group_text.ensures at c.write-2.ensures in
    Writes-then _ _ c.write.ensures digits
