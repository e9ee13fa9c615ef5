use Rattle.fabric_model.proofs.Lanes.{by_priority}
use Rattle.fabric_model.proofs.laws.by_priority.Goals as goal

pub returns : goal.returns
returns c = by_priority
