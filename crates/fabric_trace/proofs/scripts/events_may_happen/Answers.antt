use Rattle.fabric_trace.proofs.SetUps.Happening.{may_happen}
use Rattle.fabric_trace.proofs.scripts.events_may_happen.Goals as goal

pub returns : goal.returns
returns c = may_happen
