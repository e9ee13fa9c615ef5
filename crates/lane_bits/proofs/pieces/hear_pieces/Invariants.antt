use Rattle.std.proofs.Common.{List, ◌++◌, length}
use Rattle.rio_chars.specs.declared.chars.Char.{Char}
use Rattle.lane_sync.specs.declared.lane.LaneState.{LaneState}
use Rattle.lane_bits.specs.BitHearing.{HearsPieces, HoldTens}
use Rattle.lane_bits.proofs.pieces.hear_pieces.Given as goal

-- what is heard of the pieces that are left completes what was heard
abbrev pub invariant-loop-left : goal.invariant-loop-left
invariant-loop-left l = record {
  tens : HoldTens l.left;
  rest : (to : LaneState) (rest : List Char) → HearsPieces l.commas l.state l.left to rest
      → HearsPieces l.commas l.fn.begin l.pieces to (l.chars.items ++ rest);
}

abbrev pub decreases-loop-left : goal.decreases-loop-left
decreases-loop-left l = length l.left
