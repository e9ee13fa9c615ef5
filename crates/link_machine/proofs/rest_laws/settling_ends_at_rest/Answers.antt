use Rattle.link_machine.proofs.Settling.Settled.{settling_rests}
use Rattle.link_machine.proofs.rest_laws.settling_ends_at_rest.Goals as goal

pub returns : goal.returns
returns c = settling_rests
