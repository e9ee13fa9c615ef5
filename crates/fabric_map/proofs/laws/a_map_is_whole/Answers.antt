use Rattle.fabric_map.proofs.Leading.{each_is_reached, later_is_below}
use Rattle.fabric_map.proofs.laws.a_map_is_whole.Goals as goal

pub returns : goal.returns
returns c = record { reached = each_is_reached; below = later_is_below }
