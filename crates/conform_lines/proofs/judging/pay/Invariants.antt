use Rattle.std.proofs.Common.{List, length}
use Rattle.conform_lines.specs.declared.judging.Owed.{Owed}
use Rattle.conform_lines.specs.Tolerances.{Pays}
use Rattle.conform_lines.proofs.judging.pay.Given as goal

abbrev pub invariant-loop-left : goal.invariant-loop-left
invariant-loop-left l = record {
  on : (rest : List Owed) → Pays l.owed.items l.left rest
      → Pays l.initial.owed.items l.initial.sent rest;
  back : (rest : List Owed) → Pays l.initial.owed.items l.initial.sent rest
      → Pays l.owed.items l.left rest;
}

abbrev pub decreases-loop-left : goal.decreases-loop-left
decreases-loop-left l = length l.left
