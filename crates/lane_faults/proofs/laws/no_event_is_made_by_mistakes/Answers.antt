use Rattle.lane_faults.proofs.MistakeLaws.{no_event_made}
use Rattle.lane_faults.proofs.laws.no_event_is_made_by_mistakes.Goals as goal

pub returns : goal.returns
returns c = no_event_made
