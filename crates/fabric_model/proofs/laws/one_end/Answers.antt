use Rattle.fabric_model.proofs.Joining.{ends_alike}
use Rattle.fabric_model.proofs.laws.one_end.Goals as goal

pub returns : goal.returns
returns c = ends_alike
