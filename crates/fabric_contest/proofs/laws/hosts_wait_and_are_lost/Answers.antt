use Rattle.fabric_contest.proofs.HostLaws.{hosts_wait, turns_are_lost, hosts_are_lost, hosts_are_left_alone}
use Rattle.fabric_contest.proofs.laws.hosts_wait_and_are_lost.Goals as goal

pub returns-clause-waiting : goal.returns-clause-waiting
returns-clause-waiting c = hosts_wait

pub returns-clause-turns : goal.returns-clause-turns
returns-clause-turns c = turns_are_lost

pub returns-clause-lost : goal.returns-clause-lost
returns-clause-lost c = hosts_are_lost

pub returns-clause-alone : goal.returns-clause-alone
returns-clause-alone c = hosts_are_left_alone
