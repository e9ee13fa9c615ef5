use Rattle.io_rounds.proofs.DriveLaws.{LinesDone}
use Rattle.io_rounds.proofs.carrying.tell_output.Given as goal

abbrev pub invariant-loop-numbered : goal.invariant-loop-numbered
invariant-loop-numbered g l = LinesDone l.initial.output
    l.script.script.names.items l.script.script.lines.items l.script.lines.items l.numbered-index
    l.output l.course
