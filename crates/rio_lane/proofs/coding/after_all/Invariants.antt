use Rattle.std.proofs.Common.{◌≡◌, length}
use Rattle.code_groups.specs.Streams.{HaveGroups, after_chars}
use Rattle.rio_lane.proofs.coding.after_all.Given as goal

abbrev pub invariant-loop-left : goal.invariant-loop-left
invariant-loop-left l = record {
  have : HaveGroups l.left;
  rest : after_chars l.disparity l.left ≡ after_chars l.fn.before l.chars;
}

abbrev pub decreases-loop-left : goal.decreases-loop-left
decreases-loop-left l = length l.left
