use Rattle.std.proofs.Common.{◌≡◌, ◌++◌, length, map}
use Rattle.rio_chars.specs.CharText.{char_text_of}
use Rattle.code_groups.specs.Streams.{HaveGroups}
use Rattle.fabric_script.specs.Words.{words_left}
use Rattle.rio_lane.proofs.words.read_sent.Given as goal

abbrev pub invariant-loop-left : goal.invariant-loop-left
invariant-loop-left l = record {
  read : words_left l.fn.words ≡ map char_text_of l.chars.items ++ words_left l.left;
  have : HaveGroups l.chars.items;
}

abbrev pub decreases-loop-left : goal.decreases-loop-left
decreases-loop-left l = length (words_left l.left)
