use Rattle.fabric_trace.proofs.Worked.WorkedRuns.{freed_breaks, twice_breaks, earlier_breaks, pieces_said, noted_breaks, later_breaks, allowed_breaks, once_allowed, too_many_breaks}
use Rattle.fabric_trace.proofs.examples.laws_of_frees_can_fail.Goals as goal

pub returns : goal.returns
returns c = record {
  freed = freed_breaks;
  twice = twice_breaks;
  earlier = earlier_breaks;
  pieces = pieces_said;
  noted = noted_breaks;
  later = later_breaks;
  allowed = allowed_breaks;
  once = once_allowed;
  too_many = too_many_breaks;
}
