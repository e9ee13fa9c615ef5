use Rattle.std.proofs.Common.{◌-◌}
use Rattle.follow_lines.proofs.ReactingLaws.{Reacting}
use Rattle.follow_lines.proofs.reacting.judge_trace.Given as goal

abbrev pub invariant-loop-lines : goal.invariant-loop-lines
invariant-loop-lines g l =
    Reacting l.initial.judge.set_up l.judge l.lines l.initial.input l.input
    (g.S.Source.left l.initial.source) (g.S.Source.left l.source)
    (g.S.Source.faults l.initial.source) (g.S.Source.faults l.source)

abbrev pub decreases-loop-lines : goal.decreases-loop-lines
decreases-loop-lines g l = 4294967295 - l.lines
