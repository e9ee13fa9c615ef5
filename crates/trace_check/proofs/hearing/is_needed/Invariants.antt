use Rattle.std.proofs.Common.{◌≤◌, drop, length}
use Rattle.trace_check.specs.Running.{NoneBefore}
use Rattle.trace_check.proofs.hearing.is_needed.Given as goal

abbrev pub invariant-loop-left : goal.invariant-loop-left
invariant-loop-left l = record {
  within : l.left ≤ length l.kept.items;
  none : NoneBefore l.ack (drop l.left l.kept.items);
}

abbrev pub decreases-loop-left : goal.decreases-loop-left
decreases-loop-left l = l.left
