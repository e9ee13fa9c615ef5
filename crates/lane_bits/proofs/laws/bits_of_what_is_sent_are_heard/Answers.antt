use Rattle.lane_bits.proofs.HearingLaws.{sent_bits_heard}
use Rattle.lane_bits.proofs.laws.bits_of_what_is_sent_are_heard.Goals as goal

pub returns : goal.returns
returns c =
    λ front recent before own chars heard to bits have none seeks h.
    sent_bits_heard front recent before own chars heard to have none seeks h
