use Rattle.std.proofs.Common.{◌≤◌, ◌+◌, ◌*◌, length}
use Rattle.std.specs.Vec.{vec_len, vec_capacity}
use Rattle.fabric_ports.proofs.OutsidePorts.{IsTaking}
use Rattle.fabric_ports.proofs.outside.take_chars.Given as goal

abbrev pub invariant-loop-left : goal.invariant-loop-left
invariant-loop-left g l = record {
  taking : IsTaking l.port l.initial.end l.initial.chars l.initial.replies.items l.initial.writer
      l.writer l.end l.left l.replies.items;
  room : vec_len l.replies + 4 * length l.left ≤ vec_capacity l.replies;
}

abbrev pub decreases-loop-left : goal.decreases-loop-left
decreases-loop-left g l = length l.left
