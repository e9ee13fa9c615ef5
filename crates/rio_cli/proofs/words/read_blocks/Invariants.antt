use Rattle.std.proofs.Common.{◌≡◌, ◌++◌, ℕ, List, length}
use Rattle.rio_cli.specs.Decoding.{words_of_input, AreTexts}
use Rattle.rio_cli.proofs.words.read_blocks.Given as goal

abbrev pub invariant-loop-left : goal.invariant-loop-left
invariant-loop-left l =
    (words : List (List ℕ)) × (words_of_input l.fn.bytes ≡ words ++ words_of_input l.left)
    × AreTexts words l.chars.items

abbrev pub decreases-loop-left : goal.decreases-loop-left
decreases-loop-left l = length l.left
