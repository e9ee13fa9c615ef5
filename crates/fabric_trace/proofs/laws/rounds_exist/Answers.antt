use Rattle.fabric_trace.proofs.Traces.Existing.{rounds_behind}
use Rattle.fabric_trace.proofs.laws.rounds_exist.Goals as goal

pub returns : goal.returns
returns c = rounds_behind
