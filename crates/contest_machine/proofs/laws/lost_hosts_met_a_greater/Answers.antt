use Rattle.contest_machine.proofs.Turns.Judging.{lost_hosts_met_a_greater}
use Rattle.contest_machine.proofs.laws.lost_hosts_met_a_greater.Goals as goal

pub returns : goal.returns
returns c = lost_hosts_met_a_greater
