use Rattle.fabric_trace.proofs.SetUps.Starting.{wires_fold}
use Rattle.fabric_trace.proofs.laws.what_a_port_got_was_on_the_wire.Goals as goal

pub returns : goal.returns
returns c = wires_fold
