use Rattle.std.proofs.Common.{◌≡◌, ◌+◌, ◌≤◌, length}
use Rattle.script_input.specs.Inputs.{texts_of}
use Rattle.script_input.proofs.splitting.count_lines.Given as goal

abbrev pub invariant-loop-behind : goal.invariant-loop-behind
invariant-loop-behind l = record {
  counted : l.lines + length (texts_of l.left) ≡ length (texts_of l.fn.bytes);
  few : l.lines + length l.left ≤ length l.fn.bytes;
}

abbrev pub decreases-loop-behind : goal.decreases-loop-behind
decreases-loop-behind l = length l.left
