use Rattle.fabric_model.proofs.Leaving.{unchanged}
use Rattle.fabric_model.proofs.laws.unchanged.Goals as goal

pub returns : goal.returns
returns c = unchanged
