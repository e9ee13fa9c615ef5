use Rattle.std.proofs.Common.{length}
use Rattle.view_words.proofs.heard.listen.Given as goal

abbrev pub invariant-loop-left : goal.invariant-loop-left
invariant-loop-left g l = Unit {0}

abbrev pub decreases-loop-left : goal.decreases-loop-left
decreases-loop-left g l = length l.left
