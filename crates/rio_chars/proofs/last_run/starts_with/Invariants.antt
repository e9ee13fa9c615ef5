use Rattle.std.proofs.Common.{◌≡◌, ◌≤◌, ◌-◌, length, take}
use Rattle.rio_chars.proofs.last_run.starts_with.Given as goal

abbrev pub invariant-loop-i : goal.invariant-loop-i
invariant-loop-i l = (l.i ≤ length l.run) × (take l.i l.run ≡ take l.i l.chars)

abbrev pub decreases-loop-i : goal.decreases-loop-i
decreases-loop-i l = length l.run - l.i
