use Rattle.std.proofs.Common.{refl, ap, sym, ◌∙◌}
use Rattle.fabric_script.specs.Texts.{hex_text}
use Rattle.fabric_script.specs.Words.{words_left}
use Rattle.conform_lines.proofs.ItemLaws.{no_data, two_words, words_more}
use Rattle.conform_lines.proofs.items.read_data.Goals as goal

pub returns-then-is_some : goal.returns-then-is_some
returns-then-is_some c =
    let split = c.split_word.result in
    no_data _ (words_left c.args.words) refl (λ bytes all.
    two_words (words_left c.args.words) split.0.now (hex_text bytes) (words_left split.1)
    (ap words_left c.in-Some.is ∙ c.split_word.ensures)
    (words_more split.1 (sym c.is_some.ensures ∙ c.if-is_some.true)))
