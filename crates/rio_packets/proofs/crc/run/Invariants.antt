use Rattle.std.proofs.Common.{◌≡◌, length}
use Rattle.rio_packets.specs.Register.{fed_all}
use Rattle.rio_packets.proofs.crc.run.Given as goal

abbrev pub invariant-loop-rest : goal.invariant-loop-rest
invariant-loop-rest l = fed_all l.after l.rest ≡ fed_all l.register l.bytes

abbrev pub decreases-loop-rest : goal.decreases-loop-rest
decreases-loop-rest l = length l.rest
