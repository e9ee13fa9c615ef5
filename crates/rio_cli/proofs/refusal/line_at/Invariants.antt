use Rattle.std.proofs.Common.{◌≡◌, ◌+◌, ◌≤◌, length}
use Rattle.rio_cli.proofs.refusal.line_at.Given as goal

abbrev pub invariant-loop-text : goal.invariant-loop-text
invariant-loop-text l = record {
  counted : l.left + length l.yielded ≡ l.fn.line;
  some : 1 ≤ l.fn.line → 1 ≤ l.left;
}
