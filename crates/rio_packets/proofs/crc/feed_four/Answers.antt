use Rattle.std.proofs.Common.{sym, arith}
use Rattle.rio_packets.proofs.LinearLaws.{fed-four}
use Rattle.rio_packets.proofs.crc.feed_four.Goals as goal

pub returns : goal.returns
returns c =
    rw (
      c.after_byte.ensures,
      c.after_one_zero.ensures,
      c.after_two_zeros.ensures,
      c.after_three_zeros.ensures,
      c.high.ensures,
      c.low.ensures,
    )
    (sym (fed-four c.args.register c.args.a c.args.b c.args.c c.args.d (omega arith) (omega arith)
    (omega arith) (omega arith) (omega arith)))
