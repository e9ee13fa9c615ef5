use Rattle.std.proofs.Common.{◌≡◌, ◌<◌, ◌≤◌, ◌+◌, ◌*◌, List, length}
use Rattle.fabric_script.specs.declared.lines.Line.{Line}
use Rattle.fabric_script.specs.Soak.{numbered_from}
use Rattle.fabric_script.proofs.SoakLaws.{IsUpTo}
use Rattle.fabric_script.proofs.soak.push_steps.Given as goal

abbrev pub invariant-loop-step : goal.invariant-loop-step
invariant-loop-step l = record {
  small : l.number < 2147483648;
  count : length l.lines.items ≤ length l.fn.lines.items + 20 * l.step;
  numbered : (before : List Line) → l.fn.lines.items ≡ numbered_from 1 before
      → IsUpTo l.seed l.step l.number l.lines.items before;
}
