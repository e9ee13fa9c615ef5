use Rattle.trace_laws.proofs.Failing.{retry_breaks, unsent_breaks}
use Rattle.trace_laws.proofs.examples.laws_of_runs_can_fail.Goals as goal

pub returns-clause-retry : goal.returns-clause-retry
returns-clause-retry c = retry_breaks

pub returns-clause-acted : goal.returns-clause-acted
returns-clause-acted c = unsent_breaks
