use Rattle.std.proofs.Common.{◌∷◌, ap, sym, ◌∙◌}
use Rattle.fabric_script.specs.Words.{words_left}
use Rattle.conform_lines.proofs.ItemLaws.{three_parameters, words_more}
use Rattle.conform_lines.proofs.items.read_parameters.Goals as goal

pub returns-then-is_some-clause-spells : goal.returns-then-is_some-clause-spells
returns-then-is_some-clause-spells c =
    let first = c.split_word.result.0.now in
    let last = c.split_word-2.result in
    three_parameters (words_left c.args.words) first last.0.now (words_left last.1)
    (ap words_left c.in-Some.is ∙ c.split_word.ensures
    ∙ ap (λ ws. first ∷ ws) (ap words_left c.in-Some-rest.is ∙ c.split_word-2.ensures))
    (words_more last.1 (sym c.is_some.ensures ∙ c.if-is_some.true))
