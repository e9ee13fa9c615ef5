use Rattle.std.proofs.Common.{length}
use Rattle.group_text.proofs.DigitLaws.{DigitsRead}
use Rattle.group_text.proofs.texts.read_group.Given as goal

abbrev pub invariant-loop-left : goal.invariant-loop-left
invariant-loop-left l = DigitsRead l.word l.left l.group

abbrev pub decreases-loop-left : goal.decreases-loop-left
decreases-loop-left l = length l.left
