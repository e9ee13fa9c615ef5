use Rattle.std.proofs.Common.{◌≡◌, ◌++◌, ℕ, List, length}
use Rattle.rio_chars.specs.declared.chars.Char.{Char}
use Rattle.rio_cli.specs.Decoding.{words_in_line, AreTexts}
use Rattle.rio_cli.proofs.words.read_front.Given as goal

abbrev pub invariant-loop-left : goal.invariant-loop-left
invariant-loop-left l =
    (more : List Char) × (words : List (List ℕ)) × (l.chars.items ≡ l.initial.chars.items ++ more)
    × (words_in_line l.fn.text ≡ words ++ words_in_line l.left) × AreTexts words more

abbrev pub decreases-loop-left : goal.decreases-loop-left
decreases-loop-left l = length l.left
