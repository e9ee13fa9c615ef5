use Rattle.std.proofs.Common.{refl}
use Rattle.fabric_model.proofs.Around.{changing_legal}
use Rattle.fabric_model.proofs.examples.routes_can_change.Goals as goal

pub returns : goal.returns
returns c = record { legal = changing_legal; left = refl; waits = refl }
