use Rattle.lane_bits.proofs.HearingLaws.{comma_begins}
use Rattle.lane_bits.proofs.laws.a_comma_at_a_new_place_begins_groups.Goals as goal

pub returns : goal.returns
returns c = λ front before chars bits have none new. comma_begins front before chars have none new
