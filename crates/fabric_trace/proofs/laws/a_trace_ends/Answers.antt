use Rattle.fabric_trace.proofs.SetUps.Starting.{ends_as}
use Rattle.fabric_trace.proofs.laws.a_trace_ends.Goals as goal

pub returns : goal.returns
returns c = ends_as
