use Rattle.link_wires.proofs.QueueLaws.{IsMovedFrom}
use Rattle.link_wires.proofs.queue.move_up.Given as goal

abbrev pub invariant-loop-left : goal.invariant-loop-left
invariant-loop-left l = IsMovedFrom l.by l.left l.initial.chars l.chars

abbrev pub decreases-loop-left : goal.decreases-loop-left
decreases-loop-left l = l.left
