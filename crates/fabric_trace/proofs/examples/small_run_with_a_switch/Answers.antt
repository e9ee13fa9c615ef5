use Rattle.fabric_trace.proofs.Worked.WorkedRuns.{switch_runs}
use Rattle.fabric_trace.proofs.examples.small_run_with_a_switch.Goals as goal

pub returns : goal.returns
returns c = switch_runs
