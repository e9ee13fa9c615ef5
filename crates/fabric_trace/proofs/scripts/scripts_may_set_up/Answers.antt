use Rattle.fabric_trace.proofs.SetUps.Happening.{may_set_up}
use Rattle.fabric_trace.proofs.scripts.scripts_may_set_up.Goals as goal

pub returns : goal.returns
returns c = may_set_up
