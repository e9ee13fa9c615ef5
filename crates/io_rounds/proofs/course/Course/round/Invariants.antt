use Rattle.io_rounds.proofs.RoundLaws.{InRound}
use Rattle.io_rounds.proofs.course.Course.round.Given as goal

abbrev pub invariant-loop-node : goal.invariant-loop-node
invariant-loop-node g l =
    InRound l.names l.fn.output l.fn.self l.node l.output l.self
