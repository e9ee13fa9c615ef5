use Rattle.std.proofs.Common.{◌≡◌, ◌++◌, length}
use Rattle.lane_columns.specs.Columns.{chars_of_columns, columns_of}
use Rattle.lane_rows.proofs.joining.join_columns.Given as goal

-- the columns that are left complete those that were joined
abbrev pub invariant-loop-column : goal.invariant-loop-column
invariant-loop-column l =
    l.chars.items ++ chars_of_columns (columns_of l.left_a l.left_b l.left_c l.left_d)
    ≡ chars_of_columns (columns_of l.a l.b l.c l.d)

abbrev pub decreases-loop-column : goal.decreases-loop-column
decreases-loop-column l = length l.left_a
