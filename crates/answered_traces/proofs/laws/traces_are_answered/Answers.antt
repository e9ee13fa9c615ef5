use Rattle.answered_traces.proofs.RunsAnswered.{answered_traces}
use Rattle.answered_traces.proofs.laws.traces_are_answered.Goals as goal

pub returns : goal.returns
returns c = answered_traces
