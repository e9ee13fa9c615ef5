use Rattle.std.proofs.Common.{◌≡◌, length}
use Rattle.lane_columns.specs.Skews.{lane_from_align}
use Rattle.lane_rows.proofs.joining.from_align.Given as goal

abbrev pub invariant-loop-left : goal.invariant-loop-left
invariant-loop-left l = lane_from_align l.left ≡ lane_from_align l.chars

abbrev pub decreases-loop-left : goal.decreases-loop-left
decreases-loop-left l = length l.left
