use Rattle.std.proofs.Common.{◌≡◌, ◌++◌, length}
use Rattle.lane_rows.specs.Rows.{every_fourth}
use Rattle.lane_rows.proofs.hearing.groups_of_lane.Given as goal

abbrev pub invariant-loop-left : goal.invariant-loop-left
invariant-loop-left l =
    l.own.items ++ every_fourth l.wait l.left ≡ every_fourth l.fn.lane l.groups

abbrev pub decreases-loop-left : goal.decreases-loop-left
decreases-loop-left l = length l.left
