use Rattle.std.proofs.Common.{◌≡◌, ◌++◌, take}
use Rattle.link_model.specs.ReadingSpelt.{data_chars}
use Rattle.rio_framer.proofs.sending.push_data.Given as goal

abbrev pub invariant-loop-byte : goal.invariant-loop-byte
invariant-loop-byte l = l.chars.items ≡ l.fn.chars.items ++ data_chars (take l.byte-index l.bytes)
