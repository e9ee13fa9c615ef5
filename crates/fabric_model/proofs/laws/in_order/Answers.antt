use Rattle.fabric_model.proofs.Flows.{in_order}
use Rattle.fabric_model.proofs.laws.in_order.Goals as goal

pub returns : goal.returns
returns c = in_order
