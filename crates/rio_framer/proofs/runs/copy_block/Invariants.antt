use Rattle.std.proofs.Common.{◌≡◌, take, true}
use Rattle.link_model.specs.ReadingSpelt.{data_chars}
use Rattle.rio_framer.proofs.runs.copy_block.Given as goal

abbrev pub invariant-loop-i : goal.invariant-loop-i
invariant-loop-i l =
    l.are_data ≡ true → data_chars (take l.i l.bytes) ≡ take l.i l.chars
