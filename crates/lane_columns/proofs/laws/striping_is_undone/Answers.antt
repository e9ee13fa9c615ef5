use Rattle.lane_columns.proofs.ColumnLaws.{striped_joined, joined_striped, columns_again}
use Rattle.lane_columns.proofs.laws.striping_is_undone.Goals as goal

pub returns : goal.returns
returns c = record { columns = striped_joined; chars = joined_striped; lanes = columns_again }
