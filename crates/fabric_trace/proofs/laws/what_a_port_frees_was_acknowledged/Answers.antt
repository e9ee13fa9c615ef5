use Rattle.fabric_trace.proofs.SetUps.Starting.{frees_said}
use Rattle.fabric_trace.proofs.laws.what_a_port_frees_was_acknowledged.Goals as goal

pub returns : goal.returns
returns c = frees_said
