use Rattle.std.proofs.Common.{◌≡◌, ◌++◌, length, map}
use Rattle.code_groups.specs.Streams.{HaveTenBits}
use Rattle.group_text.specs.GroupTexts.{group_text_of}
use Rattle.fabric_script.specs.Words.{words_left}
use Rattle.rio_lane.proofs.words.read_groups.Given as goal

abbrev pub invariant-loop-left : goal.invariant-loop-left
invariant-loop-left l = record {
  read : words_left l.fn.words ≡ map group_text_of l.groups.items ++ words_left l.left;
  tens : HaveTenBits l.groups.items;
}

abbrev pub decreases-loop-left : goal.decreases-loop-left
decreases-loop-left l = length (words_left l.left)
