use Rattle.std.proofs.Common.{◌≤◌, ◌+◌, ◌*◌, length}
use Rattle.std.specs.Vec.{vec_len, vec_capacity}
use Rattle.std.specs.VecDeque.{deque_len, deque_capacity}
use Rattle.port_lines.specs.Clocks.{clocked_at, clocks}
use Rattle.port_lines.proofs.ClockLaws.{AreGiven}
use Rattle.port_lines.proofs.clocks.give_chars.Given as goal

abbrev pub invariant-loop-left : goal.invariant-loop-left
invariant-loop-left g l = record {
  given : AreGiven l.initial.outbox l.outbox
      (clocks (clocked_at l.settings l.initial.port l.initial.clocking.waiting.items
      l.initial.clocking.patience_left) l.initial.chars)
      (clocks (clocked_at l.settings l.port l.clocking.waiting.items
      l.clocking.patience_left) l.left) l.given.items;
  places : vec_len l.given + length l.left ≤ vec_capacity l.given;
  room : deque_len l.clocking.waiting + (4 * length l.left + 288)
      ≤ deque_capacity l.clocking.waiting;
  burst : 4 * length l.left + 572 ≤ deque_capacity l.clocking.waiting;
}

abbrev pub decreases-loop-left : goal.decreases-loop-left
decreases-loop-left g l = length l.left
