use Rattle.ask_laws.proofs.Ending.{asks_end}
use Rattle.ask_laws.proofs.laws.asks_end_somewhere.Goals as goal

pub returns : goal.returns
returns c = asks_end
