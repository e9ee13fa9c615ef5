use Rattle.std.proofs.Common.{length}
use Rattle.library_calls.proofs.ClockCounts.{IsClocked}
use Rattle.library_calls.proofs.clocks.take_clocks.Given as goal

abbrev pub invariant-loop-left : goal.invariant-loop-left
invariant-loop-left l =
    IsClocked l.fn.numbers l.initial.room l.room l.told l.initial.clocked l.clocked l.left

abbrev pub decreases-loop-left : goal.decreases-loop-left
decreases-loop-left l = length l.left
