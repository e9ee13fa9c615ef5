use Rattle.fabric_replay.specs.Going.{Going}
use Rattle.fabric_replay.proofs.replaying.tell_trace.Given as goal

abbrev pub invariant-loop-numbered : goal.invariant-loop-numbered
invariant-loop-numbered g l =
    Going l.initial.writer l.writer l.script.lines.items l.numbered-index l.fabric
