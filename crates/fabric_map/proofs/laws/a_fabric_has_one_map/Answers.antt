use Rattle.fabric_map.proofs.Maps.{one_map}
use Rattle.fabric_map.proofs.Walks.{one_walk}
use Rattle.fabric_map.proofs.laws.a_fabric_has_one_map.Goals as goal

pub returns : goal.returns
returns c = record { map = one_map; walk = one_walk }
