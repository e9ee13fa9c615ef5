use Rattle.fabric_trace.proofs.SetUps.Starting.{set_up_bare}
use Rattle.fabric_trace.proofs.laws.set_up.Goals as goal

pub returns : goal.returns
returns c = set_up_bare
