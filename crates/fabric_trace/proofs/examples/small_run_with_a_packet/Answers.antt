use Rattle.fabric_trace.proofs.Worked.WorkedPacket.{packet_runs}
use Rattle.fabric_trace.proofs.examples.small_run_with_a_packet.Goals as goal

pub returns : goal.returns
returns c = packet_runs
