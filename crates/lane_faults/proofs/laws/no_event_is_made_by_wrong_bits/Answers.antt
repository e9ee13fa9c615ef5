use Rattle.lane_faults.proofs.MistakeLaws.{no_event_made}
use Rattle.lane_faults.proofs.WrongBitLaws.{bits_are_mistakes}
use Rattle.lane_faults.proofs.laws.no_event_is_made_by_wrong_bits.Goals as goal

pub returns : goal.returns
returns c =
    λ before from at chars heard wrong used apart h good.
    no_event_made from at chars heard (bits_are_mistakes before chars heard wrong used apart h) good
