use Rattle.trace_laws.proofs.ActedSent.{unfound_is_sent}
use Rattle.trace_laws.proofs.laws.what_is_acted_on_was_sent.Goals as goal

pub returns : goal.returns
returns c = unfound_is_sent
