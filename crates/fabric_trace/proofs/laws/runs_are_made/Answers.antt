use Rattle.fabric_trace.proofs.SetUps.Starting.{made}
use Rattle.fabric_trace.proofs.laws.runs_are_made.Goals as goal

pub returns : goal.returns
returns c = made
