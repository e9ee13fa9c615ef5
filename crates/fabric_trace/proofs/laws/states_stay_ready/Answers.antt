use Rattle.fabric_trace.proofs.Traces.Existing.{ready_begun, ready_on}
use Rattle.fabric_trace.proofs.laws.states_stay_ready.Goals as goal

pub returns : goal.returns
returns c = record { begun = ready_begun; kept = λ s lines ready made. ready_on ready made }
