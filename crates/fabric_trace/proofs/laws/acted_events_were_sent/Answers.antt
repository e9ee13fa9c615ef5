use Rattle.fabric_trace.proofs.SetUps.Starting.{acted_exactly}
use Rattle.fabric_trace.proofs.laws.acted_events_were_sent.Goals as goal

pub returns : goal.returns
returns c = acted_exactly
