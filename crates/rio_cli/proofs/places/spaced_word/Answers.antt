use Rattle.rio_cli.proofs.DigitTables.{large}
use Rattle.rio_cli.proofs.places.spaced_word.Goals as goal

pub returns-clause-digits : goal.returns-clause-digits
returns-clause-digits c many = rw c.from.ensures (large c.args.number _ many c.requires)
