use Rattle.fabric_contest.proofs.HostLaws.{hosts_go_on_few_times, counts_are_few}
use Rattle.fabric_contest.proofs.laws.hosts_go_on_few_times.Goals as goal

pub returns-clause-turns : goal.returns-clause-turns
returns-clause-turns c = hosts_go_on_few_times

pub returns-clause-counts : goal.returns-clause-counts
returns-clause-counts c = counts_are_few
