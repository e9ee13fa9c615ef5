use Rattle.std.proofs.Common.{ap, ap₂, arith, take, ◌∙◌, ◌+◌, ◌*◌}
use Rattle.rio_cli.proofs.SpacedWords.{seven_bytes, eight_bytes}
use Rattle.rio_cli.proofs.places.number_and_digits.Goals as goal

pub returns-then-number-lt10-clause-text : goal.returns-then-number-lt10-clause-text
returns-then-number-lt10-clause-text c =
    let ends =
    ap₂ (λ a b. a + 65536 * b + 42949672960) (c.spaced_word.ensures.digit c.requires.first)
    (c.spaced_word-2.ensures.digit c.requires.second) in
    ap (take 7) c.to_le_bytes.ensures
    ∙ seven_bytes c.args.number c.args.first c.args.second _ (omega arith) c.requires.first
    c.requires.second
    (ap₂ (λ a b. a + 65536 * b) (c.spaced_word-then-number-lt10.ensures.digit (omega arith)) ends)

pub returns-clause-text : goal.returns-clause-text
returns-clause-text c =
    let ends =
    ap₂ (λ a b. a + 65536 * b + 42949672960) (c.spaced_word.ensures.digit c.requires.first)
    (c.spaced_word-2.ensures.digit c.requires.second) in
    ap (take 8) c.to_le_bytes-2.ensures
    ∙ eight_bytes c.args.number c.args.first c.args.second _ (omega arith) c.requires.number
    c.requires.first c.requires.second
    (ap₂ (λ a b. a + 16777216 * b) (c.spaced_word-3.ensures.digits (omega arith)) ends)
