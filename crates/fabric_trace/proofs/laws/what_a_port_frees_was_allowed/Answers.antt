use Rattle.fabric_trace.proofs.SetUps.Starting.{frees_allowed}
use Rattle.fabric_trace.proofs.laws.what_a_port_frees_was_allowed.Goals as goal

pub returns : goal.returns
returns c = frees_allowed
