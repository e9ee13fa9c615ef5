use Rattle.answered_traces.proofs.RunsAnswered.{nothing_due}
use Rattle.answered_traces.proofs.laws.nothing_is_due_after_a_trace.Goals as goal

pub returns : goal.returns
returns c = nothing_due
