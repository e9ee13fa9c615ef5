use Rattle.std.proofs.Common.{length}
use Rattle.fabric_map.proofs.entries.+port_toward.Given as goal

abbrev pub decreases-port_toward : goal.decreases-port_toward
decreases-port_toward l = length l.devices.now
