use Rattle.lane_rows.proofs.RowLaws.{sides}
use Rattle.lane_rows.proofs.laws.lanes_are_sent_side_by_side.Goals as goal

pub returns : goal.returns
returns c = record {
  a = λ lanes chars. (sides lanes chars).a;
  b = λ lanes chars. (sides lanes chars).b;
  c = λ lanes chars. (sides lanes chars).c;
  d = λ lanes chars. (sides lanes chars).d;
}
