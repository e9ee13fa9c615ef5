use Rattle.std.proofs.Common.{length}
use Rattle.rio_lane.proofs.telling.tell_bits.Given as goal

abbrev pub decreases-loop-left : goal.decreases-loop-left
decreases-loop-left g l = length l.left
