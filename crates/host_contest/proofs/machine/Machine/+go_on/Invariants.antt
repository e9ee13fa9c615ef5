use Rattle.std.proofs.Common.{length}
use Rattle.host_contest.proofs.machine.Machine.+go_on.Given as goal

abbrev pub decreases-go_on : goal.decreases-go_on
decreases-go_on l = length l.self.now.tried
