use Rattle.check_words.proofs.HintLaws.{hex_more}
use Rattle.check_words.proofs.needs.push_hex.Goals as goal

pub loop-byte-preserved : goal.loop-byte-preserved
loop-byte-preserved c =
    rw (c.in_ok-extend_from_slice.ensures.items, c.char_text.ensures, c.loop-byte.invariant)
    (hex_more c.args.message.now.items c.args.bytes.now c.loop-byte.byte-index
    c.loop-byte-test.true)
