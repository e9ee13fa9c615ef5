use Rattle.fabric_trace.proofs.Worked.WorkedPacket.{telling_runs}
use Rattle.fabric_trace.proofs.examples.small_run_with_a_status.Goals as goal

pub returns : goal.returns
returns c = telling_runs
