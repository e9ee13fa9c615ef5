use Rattle.lane_rows.proofs.RowLaws.{late_joined}
use Rattle.lane_rows.proofs.laws.late_lanes_are_joined.Goals as goal

pub returns : goal.returns
returns c = late_joined
