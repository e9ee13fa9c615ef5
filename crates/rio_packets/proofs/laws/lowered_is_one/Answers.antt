use Rattle.rio_packets.proofs.LowerLaws.{Lowered-one}
use Rattle.rio_packets.proofs.laws.lowered_is_one.Goals as goal

pub returns : goal.returns
returns c = Lowered-one
