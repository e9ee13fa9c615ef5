use Rattle.std.proofs.Common.{List, ◌++◌, length}
use Rattle.rio_chars.specs.declared.chars.Char.{Char}
use Rattle.code_groups.specs.Streams.{AreHeardAs, HaveTenBits}
use Rattle.code_groups.proofs.codec.decode_all.Given as goal

-- what is heard of the groups that are left completes what was heard
abbrev pub invariant-loop-left : goal.invariant-loop-left
invariant-loop-left l = record {
  tens : HaveTenBits l.left;
  rest : (rest : List Char) → AreHeardAs l.disparity l.left rest
      → AreHeardAs l.fn.before l.groups (l.heard.items ++ rest);
}

abbrev pub decreases-loop-left : goal.decreases-loop-left
decreases-loop-left l = length l.left
