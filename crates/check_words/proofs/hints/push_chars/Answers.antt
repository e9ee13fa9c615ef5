use Rattle.check_words.proofs.HintLaws.{chars_more}
use Rattle.check_words.proofs.hints.push_chars.Goals as goal

pub loop-c-preserved : goal.loop-c-preserved
loop-c-preserved c =
    rw (
      c.in_ok-extend_from_slice.ensures.items,
      c.in_ok-push.ensures.items,
      c.char_text.ensures,
      c.loop-c.invariant,
    )
    (chars_more c.args.message.now.items c.args.chars.now c.loop-c.c-index _ c.loop-c-test.true)
