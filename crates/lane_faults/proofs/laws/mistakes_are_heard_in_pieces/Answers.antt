use Rattle.lane_faults.proofs.LeadLaws.{in_two}
use Rattle.lane_faults.proofs.laws.mistakes_are_heard_in_pieces.Goals as goal

pub returns : goal.returns
returns c =
    λ astray front back heard h.
    let both = in_two astray front back heard h in
    (both.first, both.second, both.after, both.joined, both.of_front, both.of_back)
