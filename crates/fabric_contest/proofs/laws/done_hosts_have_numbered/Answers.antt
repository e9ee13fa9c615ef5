use Rattle.fabric_contest.proofs.HostLaws.{done_is_contested, ends_are_told}
use Rattle.fabric_contest.proofs.laws.done_hosts_have_numbered.Goals as goal

pub returns-clause-numbered : goal.returns-clause-numbered
returns-clause-numbered c = done_is_contested

pub returns-clause-told : goal.returns-clause-told
returns-clause-told c = ends_are_told
