use Rattle.trace_laws.proofs.Running.{links_run}
use Rattle.trace_laws.proofs.laws.links_of_traces_run.Goals as goal

pub returns : goal.returns
returns c = links_run
