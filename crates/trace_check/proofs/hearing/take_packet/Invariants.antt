use Rattle.std.proofs.Common.{◌≡◌, length}
use Rattle.trace_check.specs.Running.{behind_packet}
use Rattle.trace_check.proofs.hearing.take_packet.Given as goal

abbrev pub invariant-loop-ack : goal.invariant-loop-ack
invariant-loop-ack l =
    behind_packet l.turn l.packet l.kept.items ≡ behind_packet l.turn l.packet l.initial.kept.items

abbrev pub decreases-loop-ack : goal.decreases-loop-ack
decreases-loop-ack l = length l.kept.items
