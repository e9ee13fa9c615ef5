use Rattle.std.proofs.Common.{◌≡◌, ◌++◌, take}
use Rattle.link_model.specs.ReadingSpelt.{data_chars}
use Rattle.conform_lines.proofs.items.push_data.Given as goal

abbrev pub invariant-loop-byte : goal.invariant-loop-byte
invariant-loop-byte l = l.chars.items ≡ l.initial.chars.items ++ data_chars (take l.byte-index l.bytes)
