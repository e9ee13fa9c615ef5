use Rattle.std.proofs.Common.{◌≡◌, ◌≤◌, ◌-◌, length, take}
use Rattle.link_model.specs.ReadingSpelt.{data_chars}
use Rattle.rio_framer.proofs.runs.copy_blocks.Given as goal

abbrev pub invariant-loop-i : goal.invariant-loop-i
invariant-loop-i l =
    (l.i ≤ l.most)
    × (length l.bytes ≡ length l.initial.bytes)
    × (data_chars (take l.i l.bytes) ≡ take l.i l.chars)

abbrev pub decreases-loop-i : goal.decreases-loop-i
decreases-loop-i l = l.most - l.i
