use Rattle.rio_chars.proofs.WrittenLaws.{Writes-then}
use Rattle.rio_cli.proofs.lines.write_form.Goals as goal

pub returns : goal.returns
returns g c =
    let ack = Writes-then _ _ c.write_short.ensures c.write_number.ensures in
    let bytes = Writes-then _ _ (Writes-then _ _ ack c.write.ensures) c.write_hex.ensures in
    Writes-then _ _ bytes c.write-2.ensures
