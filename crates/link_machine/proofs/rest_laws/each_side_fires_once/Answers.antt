use Rattle.link_machine.proofs.Settling.Counts.{settling_fires}
use Rattle.link_machine.proofs.rest_laws.each_side_fires_once.Goals as goal

pub returns : goal.returns
returns c = settling_fires
