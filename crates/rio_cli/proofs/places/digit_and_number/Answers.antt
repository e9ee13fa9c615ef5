use Rattle.std.proofs.Common.{ap, ap₂, arith, take, ◌∙◌, ◌+◌, ◌*◌}
use Rattle.rio_cli.proofs.SpacedWords.{four_bytes, five_bytes}
use Rattle.rio_cli.proofs.places.digit_and_number.Goals as goal

pub returns-then-number-lt10-clause-text : goal.returns-then-number-lt10-clause-text
returns-then-number-lt10-clause-text c =
    ap (take 4) c.to_le_bytes.ensures
    ∙ four_bytes c.args.digit c.args.number _ c.requires.digit (omega arith)
    (ap₂ (λ a b. a + 65536 * b) (c.spaced_word.ensures.digit c.requires.digit)
    (c.spaced_word-2.ensures.digit (omega arith)))

pub returns-else-number-lt10-clause-text : goal.returns-else-number-lt10-clause-text
returns-else-number-lt10-clause-text c =
    ap (take 5) c.to_le_bytes.ensures
    ∙ five_bytes c.args.digit c.args.number _ c.requires.digit (omega arith) c.requires.number
    (ap₂ (λ a b. a + 65536 * b) (c.spaced_word.ensures.digit c.requires.digit)
    (c.spaced_word-2.ensures.digits (omega arith)))
