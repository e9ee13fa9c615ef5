use Rattle.std.proofs.Common.{◌≡◌, ◌+◌, ◌++◌, take}
use Rattle.std.specs.VecDeque.{deque_len, deque_capacity}
use Rattle.port_lines.proofs.clocked.put_chars.Given as goal

abbrev pub invariant-loop-c : goal.invariant-loop-c
invariant-loop-c l = record {
  items : l.waiting.items ≡ l.initial.waiting.items ++ take l.c-index l.chars;
  len : deque_len l.waiting ≡ deque_len l.initial.waiting + l.c-index;
  capacity : deque_capacity l.waiting ≡ deque_capacity l.initial.waiting;
}
