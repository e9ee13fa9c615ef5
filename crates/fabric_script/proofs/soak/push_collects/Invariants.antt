use Rattle.std.proofs.Common.{◌≡◌, ◌+◌, ◌++◌, List, length}
use Rattle.fabric_script.specs.declared.lines.Line.{Line}
use Rattle.fabric_script.specs.declared.lines.Line.TheVariants.{Collect}
use Rattle.fabric_script.specs.Soak.{times, numbered_from}
use Rattle.fabric_script.proofs.soak.push_collects.Given as goal

abbrev pub invariant-loop : goal.invariant-loop
invariant-loop l = record {
  numbered : (before : List Line) → l.fn.lines.items ≡ numbered_from 1 before
      → l.lines.items ≡ numbered_from 1 (before ++ times l.counter (Collect l.node));
  count : length l.lines.items ≡ length l.fn.lines.items + l.counter;
}
