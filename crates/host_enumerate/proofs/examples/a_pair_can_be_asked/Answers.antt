use Rattle.host_enumerate.proofs.Pairs.{pair-topology, pair-fits}
use Rattle.host_enumerate.proofs.examples.a_pair_can_be_asked.Goals as goal

pub returns-clause-topology : goal.returns-clause-topology
returns-clause-topology c = pair-topology

pub returns-clause-fits : goal.returns-clause-fits
returns-clause-fits c = pair-fits
