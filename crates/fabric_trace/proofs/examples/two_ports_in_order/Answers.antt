use Rattle.fabric_trace.proofs.Worked.WorkedRuns.{higher_first, lower_port_first}
use Rattle.fabric_trace.proofs.examples.two_ports_in_order.Goals as goal

pub returns : goal.returns
returns c = record { priority = higher_first; port = lower_port_first }
