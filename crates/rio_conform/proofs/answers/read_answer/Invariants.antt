use Rattle.rio_conform.proofs.AnswerLaws.{ReadSoFar}
use Rattle.rio_conform.proofs.answers.read_answer.Given as goal

abbrev pub invariant-loop-left : goal.invariant-loop-left
invariant-loop-left g l =
    ReadSoFar (g.S.Source.left l.initial.source) (g.S.Source.left l.source) l.initial.input l.input
    l.answer.items

abbrev pub decreases-loop-left : goal.decreases-loop-left
decreases-loop-left g l = l.left
