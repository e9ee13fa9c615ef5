use Rattle.std.proofs.Common.{List, ◌++◌, length}
use Rattle.rio_chars.specs.declared.chars.Char.{Char}
use Rattle.code_groups.specs.Streams.{HaveTenBits}
use Rattle.lane_sync.specs.declared.lane.LaneState.{LaneState}
use Rattle.lane_sync.specs.Syncing.{LaneHearsAll}
use Rattle.lane_sync.proofs.lane.hear_all.Given as goal

-- what is heard of the groups that are left completes what was heard
abbrev pub invariant-loop-left : goal.invariant-loop-left
invariant-loop-left l = record {
  tens : HaveTenBits l.left;
  rest : (to : LaneState) (rest : List Char) → LaneHearsAll l.commas l.state l.left to rest
      → LaneHearsAll l.commas l.fn.begin l.groups to (l.chars.items ++ rest);
}

abbrev pub decreases-loop-left : goal.decreases-loop-left
decreases-loop-left l = length l.left
