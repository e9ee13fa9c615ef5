use Rattle.std.proofs.Common.{◌≡◌, take}
use Rattle.link_model.specs.ReadingSpelt.{data_chars}
use Rattle.rio_framer.proofs.runs.copy_data.Given as goal

abbrev pub invariant-loop-i : goal.invariant-loop-i
invariant-loop-i l = data_chars (take l.i l.bytes) ≡ take l.i l.chars
