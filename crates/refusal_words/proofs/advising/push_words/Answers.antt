use Rattle.std.proofs.Common.{◌++◌, codes}
use Rattle.std.specs.Fmt.{decimal}
use Rattle.refusal_words.proofs.TextLaws.{added, added-on-ok}
use Rattle.refusal_words.proofs.advising.push_words.Goals as goal

pub returns : goal.returns
returns c =
    let begin = codes "this kind of line has " in
    added-on-ok c.extend_from_slice-2.result c.args.message.now.items _ _
    (begin ++ decimal c.args.count) (codes " words after the first")
    (added c.args.message.now.items _ _ begin (decimal c.args.count)
    c.in_ok-extend_from_slice.ensures.items (rw c.from.ensures at c.in_ok-push_number.ensures))
    c.extend_from_slice-2.ensures.items
