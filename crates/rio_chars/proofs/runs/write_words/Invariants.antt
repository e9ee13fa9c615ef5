use Rattle.std.proofs.Common.{◌≡◌, take}
use Rattle.std.specs.List.{flat_map}
use Rattle.rio_chars.specs.CharText.{spaced_chars}
use Rattle.rio_chars.proofs.runs.write_words.Given as goal

abbrev pub invariant-loop-i : goal.invariant-loop-i
invariant-loop-i l =
    flat_map (λ word. word) (take l.i l.words) ≡ spaced_chars (take l.i l.chars)
