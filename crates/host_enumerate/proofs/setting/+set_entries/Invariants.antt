use Rattle.std.proofs.Common.{length}
use Rattle.host_enumerate.proofs.setting.+set_entries.Given as goal

abbrev pub decreases-set_entries : goal.decreases-set_entries
decreases-set_entries g l = length l.rest.now
