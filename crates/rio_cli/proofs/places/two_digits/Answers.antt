use Rattle.std.proofs.Common.{ap, take, ◌∙◌}
use Rattle.rio_cli.proofs.DigitTables.{pair, pair_bytes}
use Rattle.rio_cli.proofs.places.two_digits.Goals as goal

pub returns : goal.returns
returns c =
    ap (take 2) c.to_le_bytes.ensures
    ∙ rw (c.from-2.ensures, c.from.ensures)
    (pair_bytes c.args.number _ c.requires (pair c.args.number _ c.requires))
