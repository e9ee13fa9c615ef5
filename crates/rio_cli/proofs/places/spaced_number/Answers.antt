use Rattle.std.proofs.Common.{ap, arith, take, ◌∙◌}
use Rattle.rio_cli.proofs.NumberLaws.{three_digits}
use Rattle.rio_cli.proofs.SpacedWords.{two_bytes, three_bytes}
use Rattle.rio_cli.proofs.places.spaced_number.Goals as goal

pub returns-then-number-lt10-clause-text : goal.returns-then-number-lt10-clause-text
returns-then-number-lt10-clause-text c =
    ap (take 2) c.to_le_bytes-text.ensures
    ∙ two_bytes c.args.number _ (omega arith) (c.spaced_word.ensures.digit (omega arith))

pub returns-else-number-lt10-clause-text : goal.returns-else-number-lt10-clause-text
returns-else-number-lt10-clause-text c =
    ap (take 3) c.to_le_bytes-text.ensures
    ∙ three_bytes c.args.number _ (omega arith) (omega arith)
    (c.spaced_word.ensures.digits (omega arith))

pub returns-clause-text : goal.returns-clause-text
returns-clause-text c = three_digits c.args.number (omega arith) (omega arith)
