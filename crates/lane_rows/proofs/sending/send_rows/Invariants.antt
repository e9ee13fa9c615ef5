use Rattle.std.proofs.Common.{◌≡◌, ◌++◌, length}
use Rattle.code_groups.specs.Streams.{HaveGroups}
use Rattle.lane_rows.specs.RowSending.{rows_from, after_rows}
use Rattle.lane_rows.proofs.sending.send_rows.Given as goal

abbrev pub invariant-loop-left : goal.invariant-loop-left
invariant-loop-left l = record {
  have : HaveGroups l.left;
  rest : l.groups.items ++ rows_from l.lanes l.left ≡ rows_from l.fn.before l.chars;
  after : after_rows l.lanes l.left ≡ after_rows l.fn.before l.chars;
}

abbrev pub decreases-loop-left : goal.decreases-loop-left
decreases-loop-left l = length l.left
