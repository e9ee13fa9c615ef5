use Rattle.fabric_trace.proofs.SetUps.Starting.{holds_came}
use Rattle.fabric_trace.proofs.laws.what_a_port_holds_came_to_it.Goals as goal

pub returns : goal.returns
returns c = holds_came
