use Rattle.std.proofs.Common.{sym, arith}
use Rattle.rio_packets.proofs.LinearLaws.{fed-eight}
use Rattle.rio_packets.proofs.crc.feed_eight.Goals as goal

pub returns : goal.returns
returns c =
    rw (c.feed_four.ensures, c.feed_ahead.ensures)
    (sym (fed-eight c.args.register c.args.a c.args.b c.args.c c.args.d c.args.e c.args.f c.args.g
    c.args.h (omega arith) (omega arith) (omega arith) (omega arith) (omega arith) (omega arith)
    (omega arith) (omega arith) (omega arith)))
