use Rattle.fabric_model.proofs.RoomLaws.{none_leaves}
use Rattle.fabric_model.proofs.laws.no_request_leaves.Goals as goal

pub returns : goal.returns
returns c = none_leaves
