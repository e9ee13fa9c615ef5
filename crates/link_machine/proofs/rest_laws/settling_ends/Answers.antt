use Rattle.link_machine.proofs.Settling.Ends.{settling_can}
use Rattle.link_machine.proofs.rest_laws.settling_ends.Goals as goal

pub returns : goal.returns
returns c = settling_can
