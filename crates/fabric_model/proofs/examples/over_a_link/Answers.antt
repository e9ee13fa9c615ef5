use Rattle.fabric_model.proofs.Worked.{pair_legal, pair_gone}
use Rattle.fabric_model.proofs.examples.over_a_link.Goals as goal

pub returns : goal.returns
returns c = record { legal = pair_legal; gone = pair_gone }
