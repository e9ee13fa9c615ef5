use Rattle.std.proofs.Common.{length}
use Rattle.code_groups.specs.Streams.{HaveTenBits}
use Rattle.rio_lane.proofs.telling.tell_rows.Given as goal

abbrev pub invariant-loop-left : goal.invariant-loop-left
invariant-loop-left g l = HaveTenBits l.left

abbrev pub decreases-loop-left : goal.decreases-loop-left
decreases-loop-left g l = length l.left
