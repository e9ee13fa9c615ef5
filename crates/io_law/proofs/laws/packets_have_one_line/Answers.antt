use Rattle.io_law.proofs.Items.{one_line_each}
use Rattle.io_law.proofs.laws.packets_have_one_line.Goals as goal

pub returns : goal.returns
returns c = one_line_each
