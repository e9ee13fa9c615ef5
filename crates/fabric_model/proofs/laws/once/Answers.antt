use Rattle.fabric_model.proofs.Leaving.{once}
use Rattle.fabric_model.proofs.laws.once.Goals as goal

pub returns : goal.returns
returns c = once
