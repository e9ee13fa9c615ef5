use Rattle.std.proofs.Common.{◌++◌, ap, map, ◌∙◌}
use Rattle.rio_chars.specs.CharText.{char_text_of}
use Rattle.fabric_script.specs.Words.{words_left}
use Rattle.conform_lines.proofs.CountLaws.{no_chars_among}
use Rattle.conform_lines.proofs.counting.read_words.Goals as goal

pub returns-in_default-read_char : goal.returns-in_default-read_char
returns-in_default-read_char c =
    let chars = c.loop-left.chars.items in
    let here = ap words_left c.in-Some.is ∙ c.split_word.ensures in
    no_chars_among (words_left c.args.words) chars c.split_word.result.0.now
    (words_left c.split_word.result.1)
    (c.loop-left.invariant.read ∙ ap (λ l. map char_text_of chars ++ l) here)
    c.in_default-read_char.ensures.none
