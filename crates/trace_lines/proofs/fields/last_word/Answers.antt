use Rattle.std.proofs.Common.{arith, length, ap, suc, ◌∙◌}
use Rattle.fabric_script.specs.Words.{words_left}
use Rattle.trace_lines.proofs.FieldLaws.{some_word}
use Rattle.trace_lines.proofs.fields.last_word.Goals as goal

pub returns-in_default-Some-clause-more : goal.returns-in_default-Some-clause-more
returns-in_default-Some-clause-more c =
    let words = ap length c.split_word.ensures
    ∙ ap (λ left. suc (length (words_left left))) c.in_default-Some.is-1 in
    omega (arith, words, some_word c.in_default-Some.field-0-1.now)
