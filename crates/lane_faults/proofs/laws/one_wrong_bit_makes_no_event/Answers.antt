use Rattle.lane_faults.proofs.MistakeLaws.{no_event_made}
use Rattle.lane_faults.proofs.WrongBitLaws.{one_is_mistaken}
use Rattle.lane_faults.proofs.laws.one_wrong_bit_makes_no_event.Goals as goal

pub returns : goal.returns
returns c =
    λ before from at place bit chars heard used low h good.
    no_event_made from at chars heard (one_is_mistaken before place bit chars heard used low h) good
