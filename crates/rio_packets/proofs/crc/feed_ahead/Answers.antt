use Rattle.std.proofs.Common.{sym, arith}
use Rattle.rio_packets.proofs.LinearLaws.{fed-ahead}
use Rattle.rio_packets.proofs.crc.feed_ahead.Goals as goal

pub returns : goal.returns
returns c =
    rw (
      c.after_four_zeros.ensures,
      c.after_five_zeros.ensures,
      c.after_six_zeros.ensures,
      c.after_seven_zeros.ensures,
      c.high.ensures,
      c.low.ensures,
    )
    (sym (fed-ahead c.args.register c.args.a c.args.b c.args.c c.args.d (omega arith) (omega arith)
    (omega arith) (omega arith) (omega arith)))
