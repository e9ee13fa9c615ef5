use Rattle.std.proofs.Common.{arith, length, ap, suc, ◌∙◌}
use Rattle.fabric_script.specs.Words.{words_left}
use Rattle.trace_lines.proofs.FieldLaws.{some_word}
use Rattle.outside_lines.proofs.reading.last_word.Goals as goal

pub returns-in_default-Some : goal.returns-in_default-Some
returns-in_default-Some c =
    let words = ap length c.split_word.ensures
    ∙ ap (λ left. suc (length (words_left left))) c.in_default-Some.is-1 in
    omega (arith, words, some_word c.in_default-Some.field-0-1.now)
