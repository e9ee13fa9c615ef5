use Rattle.io_law.proofs.Asks.{asks_are_of_lines}
use Rattle.io_law.proofs.laws.asks_are_of_their_lines.Goals as goal

pub returns : goal.returns
returns c = asks_are_of_lines
