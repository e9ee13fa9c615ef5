use Rattle.lane_faults.proofs.AmongLaws.{none_in_none}
use Rattle.lane_faults.proofs.laws.good_events_need_a_place.Goals as goal

pub returns : goal.returns
returns c = none_in_none
