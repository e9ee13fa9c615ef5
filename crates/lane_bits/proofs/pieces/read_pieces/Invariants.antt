use Rattle.std.proofs.Common.{length}
use Rattle.lane_bits.proofs.BitLaws.{DigitsDone}
use Rattle.lane_bits.proofs.pieces.read_pieces.Given as goal

abbrev pub invariant-loop-left : goal.invariant-loop-left
invariant-loop-left l = DigitsDone l.fn.begin l.digits l.left l.state l.pieces.items

abbrev pub decreases-loop-left : goal.decreases-loop-left
decreases-loop-left l = length l.left
