use Rattle.fabric_trace.proofs.Rest.RunsRest.{traces_rest, fronts_rest}
use Rattle.fabric_trace.proofs.laws.traces_leave_links_at_rest.Goals as goal

pub returns : goal.returns
returns c = record { whole = traces_rest; front = fronts_rest }
