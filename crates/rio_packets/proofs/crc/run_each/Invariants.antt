use Rattle.std.proofs.Common.{◌≡◌, drop}
use Rattle.rio_packets.specs.Register.{fed_all}
use Rattle.rio_packets.proofs.crc.run_each.Given as goal

abbrev pub invariant-loop-byte : goal.invariant-loop-byte
invariant-loop-byte l = fed_all l.after (drop l.byte-index l.bytes) ≡ fed_all l.register l.bytes
