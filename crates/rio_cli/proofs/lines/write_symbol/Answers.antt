use Rattle.rio_chars.proofs.WrittenLaws.{Writes-then}
use Rattle.rio_cli.proofs.lines.write_symbol.Goals as goal

pub returns : goal.returns
returns g c = Writes-then _ _ c.write_place.ensures c.write_fields.ensures
