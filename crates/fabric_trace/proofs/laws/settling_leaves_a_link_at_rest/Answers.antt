use Rattle.fabric_trace.proofs.SetUps.Starting.{settled}
use Rattle.fabric_trace.proofs.laws.settling_leaves_a_link_at_rest.Goals as goal

pub returns : goal.returns
returns c = settled
