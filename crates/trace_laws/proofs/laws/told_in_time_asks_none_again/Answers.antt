use Rattle.trace_laws.proofs.Retries.{asks_none_again}
use Rattle.trace_laws.proofs.laws.told_in_time_asks_none_again.Goals as goal

pub returns : goal.returns
returns c = asks_none_again
