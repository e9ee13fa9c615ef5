use Rattle.std.proofs.Common.{◌≡◌, ◌++◌, map}
use Rattle.conform_lines.specs.Tolerances.{owed_since}
use Rattle.conform_lines.proofs.judging.owe.Given as goal

abbrev pub invariant-loop-counted : goal.invariant-loop-counted
invariant-loop-counted l =
    l.owed.items ≡ l.initial.owed.items ++ map (owed_since l.fn.turns) l.yielded
