use Rattle.fabric_trace.proofs.SetUps.Happening.{ports_there}
use Rattle.fabric_trace.proofs.scripts.ports_are_there.Goals as goal

pub returns : goal.returns
returns c = ports_there
