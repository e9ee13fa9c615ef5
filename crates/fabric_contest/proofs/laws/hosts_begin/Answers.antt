use Rattle.fabric_contest.proofs.HostLaws.{hosts_begin}
use Rattle.fabric_contest.proofs.laws.hosts_begin.Goals as goal

pub returns : goal.returns
returns c = hosts_begin
