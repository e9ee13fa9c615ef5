use Rattle.lane_faults.proofs.WrongBitLaws.{bits_are_mistakes}
use Rattle.lane_faults.proofs.laws.wrong_bits_are_heard_as_mistakes.Goals as goal

pub returns : goal.returns
returns c = bits_are_mistakes
