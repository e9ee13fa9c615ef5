use Rattle.fabric_ports.specs.Outside.{turns_told}
use Rattle.fabric_ports.proofs.OutsidePorts.{IsTurning}
use Rattle.fabric_ports.proofs.outside.take_turns.Given as goal

abbrev pub invariant-loop-left : goal.invariant-loop-left
invariant-loop-left g l =
    IsTurning l.port l.initial.end l.initial.count l.initial.writer l.writer
    (turns_told l.port l.end l.left)

abbrev pub decreases-loop-left : goal.decreases-loop-left
decreases-loop-left g l = l.left
