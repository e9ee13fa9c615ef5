use Rattle.lane_columns.proofs.ColumnLaws.{skew}
use Rattle.lane_columns.proofs.laws.skew_is_undone.Goals as goal

pub returns : goal.returns
returns c = skew
