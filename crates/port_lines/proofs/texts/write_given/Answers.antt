use Rattle.rio_chars.proofs.WrittenLaws.{Writes-then}
use Rattle.port_lines.proofs.texts.write_given.Goals as goal

pub returns : goal.returns
returns g c =
    Writes-then _ _ (Writes-then _ _ c.write.ensures c.write_chars.ensures) c.write-2.ensures
