use Rattle.std.proofs.Common.{◌≡◌, take}
use Rattle.trace_check.proofs.queue.CharQueue.front.Given as goal

abbrev pub invariant-loop-i : goal.invariant-loop-i
invariant-loop-i l = l.front.items ≡ take l.i l.chars
