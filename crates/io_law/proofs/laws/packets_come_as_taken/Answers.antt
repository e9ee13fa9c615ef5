use Rattle.io_law.proofs.Arriving.{come_as_taken}
use Rattle.io_law.proofs.laws.packets_come_as_taken.Goals as goal

pub returns : goal.returns
returns c = come_as_taken
