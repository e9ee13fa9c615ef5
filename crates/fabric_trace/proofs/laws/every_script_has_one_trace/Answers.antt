use Rattle.fabric_trace.proofs.Traces.Tracing.{script_has_one}
use Rattle.fabric_trace.proofs.laws.every_script_has_one_trace.Goals as goal

pub returns : goal.returns
returns c = script_has_one
