use Rattle.std.proofs.Common.{◌≡◌, take}
use Rattle.link_model.specs.ReadingSpelt.{data_chars}
use Rattle.link_wires.proofs.sends.write_data.Given as goal

abbrev pub invariant-loop-i : goal.invariant-loop-i
invariant-loop-i l = take l.i l.room ≡ data_chars (take l.i l.bytes)
