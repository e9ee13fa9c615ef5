use Rattle.std.proofs.Common.{refl}
use Rattle.fabric_model.proofs.Around.{hopping_legal, hopping_gone}
use Rattle.fabric_model.proofs.examples.hop_counts_part_flows.Goals as goal

pub returns : goal.returns
returns c = record { legal = hopping_legal; dropped = refl; left = hopping_gone }
