use Rattle.fabric_map.proofs.Firsts.{one_first_locked}
use Rattle.fabric_map.proofs.laws.the_first_locked_is_one.Goals as goal

pub returns : goal.returns
returns c = one_first_locked
