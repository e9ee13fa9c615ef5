use Rattle.std.proofs.Common.{◌≡◌, drop}
use Rattle.rio_packets.specs.Register.{fed_all, running}
use Rattle.check_words.proofs.packet_words.run.Given as goal

abbrev pub invariant-loop-byte : goal.invariant-loop-byte
invariant-loop-byte l = fed_all l.register (drop l.byte-index l.message) ≡ running l.message
