use Rattle.group_text.proofs.DigitLaws.{more_read, none_read}
use Rattle.group_text.proofs.texts.read_group.Goals as goal

pub returns-in_default-bit_of-clause-none : goal.returns-in_default-bit_of-clause-none
returns-in_default-bit_of-clause-none c =
    none_read c.args.word.now c.loop-left.left.now c.loop-left.group _ c.loop-left.invariant
    c.in-len1-up.len_at_least c.in_default-bit_of.ensures.0 c.in_default-bit_of.ensures.1

pub returns-in_default-bit_of-clause-reads_back : goal.returns-in_default-bit_of-clause-reads_back
returns-in_default-bit_of-clause-reads_back c = λ group low e.
    absurd (none_read c.args.word.now c.loop-left.left.now c.loop-left.group _
    c.loop-left.invariant c.in-len1-up.len_at_least c.in_default-bit_of.ensures.0
    c.in_default-bit_of.ensures.1 group e)

pub loop-left-preserved : goal.loop-left-preserved
loop-left-preserved c =
    more_read c.args.word.now c.loop-left.left.now c.loop-left.group _ _ c.loop-left.invariant
    c.in-len1-up.len_at_least c.in-Some.ensures.0 c.in-Some.ensures.1
