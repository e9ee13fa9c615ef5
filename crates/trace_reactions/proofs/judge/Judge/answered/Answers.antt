use Rattle.trace_reactions.proofs.judge.Judge.answered.Goals as goal

pub returns : goal.returns
returns c = λ texts has. (has.0, has.1, c.answered.ensures has.0 has.2)
