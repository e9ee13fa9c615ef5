use Rattle.trace_check.proofs.Lawful.{runs_pass}
use Rattle.trace_check.proofs.laws.every_trace_is_lawful.Goals as goal

pub returns : goal.returns
returns c = runs_pass
