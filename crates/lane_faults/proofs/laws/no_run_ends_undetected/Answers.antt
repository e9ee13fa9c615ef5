use Rattle.lane_faults.proofs.RunLaws.{never_from_new}
use Rattle.lane_faults.proofs.laws.no_run_ends_undetected.Goals as goal

pub returns : goal.returns
returns c = never_from_new
