use Rattle.std.proofs.Common.{codes}
use Rattle.refusal_words.specs.Citing.{shown_text}
use Rattle.refusal_words.proofs.TextLaws.{added-on-ok}
use Rattle.rio_words.proofs.bad_word.push_no_character.Goals as goal

pub returns : goal.returns
returns c =
    added-on-ok c.extend_from_slice.result c.args.message.now.items _ _ (shown_text c.args.word.now)
    (codes " is no character: d or k and two lower-case hexadecimal digits, or inv")
    c.in_ok-push_shown.ensures c.extend_from_slice.ensures.items
