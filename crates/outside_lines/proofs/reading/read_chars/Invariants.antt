use Rattle.std.proofs.Common.{◌≡◌, ◌++◌, map, length}
use Rattle.std.specs.List.{AllByRecursion}
use Rattle.rio_chars.specs.CharText.{char_text_of, HasByte}
use Rattle.fabric_script.specs.Lines.{words_of}
use Rattle.fabric_script.specs.Words.{words_left}
use Rattle.outside_lines.proofs.reading.read_chars.Given as goal

abbrev pub invariant-loop-left : goal.invariant-loop-left
invariant-loop-left l = record {
  texts : map char_text_of l.chars.items ++ words_left l.left ≡ words_of l.fn.text;
  bytes : AllByRecursion HasByte l.chars.items;
}

abbrev pub decreases-loop-left : goal.decreases-loop-left
decreases-loop-left l = length (words_left l.left)
