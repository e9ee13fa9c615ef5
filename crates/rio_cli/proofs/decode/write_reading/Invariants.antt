use Rattle.std.proofs.Common.{length}
use Rattle.rio_cli.proofs.DecodeLaws.{Going}
use Rattle.rio_cli.proofs.decode.write_reading.Given as goal

abbrev pub invariant-loop-left : goal.invariant-loop-left
invariant-loop-left g l =
    Going l.initial.outbox l.outbox l.fn.chars l.place l.left l.framer.place

abbrev pub decreases-loop-left : goal.decreases-loop-left
decreases-loop-left g l = length l.left
