use Rattle.std.proofs.Common.{◌≡◌, ◌≤◌, ◌-◌, length, take}
use Rattle.std.specs.List.{flat_map}
use Rattle.rio_chars.specs.CharText.{spaced_chars}
use Rattle.rio_chars.proofs.runs.write_fours.Given as goal

abbrev pub invariant-loop-i : goal.invariant-loop-i
invariant-loop-i l =
    (l.i ≤ l.most)
    × (length l.words ≡ length l.initial.words)
    × (flat_map (λ word. word) (take l.i l.words) ≡ spaced_chars (take l.i l.chars))

abbrev pub decreases-loop-i : goal.decreases-loop-i
decreases-loop-i l = l.most - l.i
