use Rattle.host_enumerate.proofs.NewFabrics.{devised_fabric}
use Rattle.host_enumerate.proofs.laws.scripts_make_new_fabrics.Goals as goal

pub returns : goal.returns
returns c = devised_fabric
