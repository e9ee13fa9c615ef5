use Rattle.std.proofs.Common.{length}
use Rattle.script_input.proofs.InputLaws.{IsBehind}
use Rattle.script_input.proofs.splitting.split_input.Given as goal

abbrev pub invariant-loop-text : goal.invariant-loop-text
invariant-loop-text l = IsBehind l.fn.bytes l.left l.lines

abbrev pub decreases-loop-text : goal.decreases-loop-text
decreases-loop-text l = length l.left
