use Rattle.std.proofs.Common.{length}
use Rattle.fabric_map.proofs.entries.+toward.Given as goal

abbrev pub decreases-toward : goal.decreases-toward
decreases-toward l = length l.front.now
