use Rattle.fabric_trace.proofs.Worked.WorkedRuns.{idle_runs}
use Rattle.fabric_trace.proofs.examples.small_run.Goals as goal

pub returns : goal.returns
returns c = idle_runs
