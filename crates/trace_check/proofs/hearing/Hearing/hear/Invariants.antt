use Rattle.std.proofs.Common.{◌≡◌, length}
use Rattle.trace_check.specs.Running.{KeepsRun, PortRun, run_hears}
use Rattle.trace_check.proofs.hearing.Hearing.hear.Given as goal

abbrev pub invariant-loop-left : goal.invariant-loop-left
invariant-loop-left l = (run : PortRun) → KeepsRun run l.initial.self
    → (now : PortRun) × KeepsRun now l.self × (run_hears now l.left ≡ run_hears run l.fn.chars)

abbrev pub decreases-loop-left : goal.decreases-loop-left
decreases-loop-left l = length l.left
