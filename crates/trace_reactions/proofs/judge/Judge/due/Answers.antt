use Rattle.trace_reactions.proofs.judge.Judge.due.Goals as goal

pub returns : goal.returns
returns c = λ texts has. (has.0, has.1, c.due.ensures has.0 has.2)
