use Rattle.fabric_trace.proofs.Rest.RoundsRest.{rounds_rest}
use Rattle.fabric_trace.proofs.laws.rounds_leave_links_at_rest.Goals as goal

pub returns : goal.returns
returns c = rounds_rest
