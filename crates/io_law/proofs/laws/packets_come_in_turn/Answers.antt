use Rattle.io_law.proofs.Turning.{come_in_turn}
use Rattle.io_law.proofs.laws.packets_come_in_turn.Goals as goal

pub returns : goal.returns
returns c = come_in_turn
