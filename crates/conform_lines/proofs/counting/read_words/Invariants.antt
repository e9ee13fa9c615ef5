use Rattle.std.proofs.Common.{◌≡◌, ◌++◌, All, length, map}
use Rattle.rio_chars.specs.CharText.{char_text_of, HasByte}
use Rattle.fabric_script.specs.Words.{words_left}
use Rattle.conform_lines.proofs.counting.read_words.Given as goal

abbrev pub invariant-loop-left : goal.invariant-loop-left
invariant-loop-left l = record {
  read : words_left l.fn.words ≡ map char_text_of l.chars.items ++ words_left l.left;
  bytes : All (λ c. HasByte c) l.chars.items;
}

abbrev pub decreases-loop-left : goal.decreases-loop-left
decreases-loop-left l = length (words_left l.left)
