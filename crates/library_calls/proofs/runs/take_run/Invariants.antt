use Rattle.std.proofs.Common.{length}
use Rattle.link_port.specs.Streams.{takes_each}
use Rattle.library_calls.specs.Wires.{wire_chars}
use Rattle.library_calls.proofs.RunLaws.{IsRunWithin}
use Rattle.library_calls.proofs.runs.take_run.Given as goal

abbrev pub invariant-loop-left : goal.invariant-loop-left
invariant-loop-left l =
    IsRunWithin (takes_each l.initial.port (wire_chars l.fn.numbers))
    (takes_each l.port (wire_chars l.left)) l.did l.initial.room l.room
    (length l.fn.numbers) (length l.left)

abbrev pub decreases-loop-left : goal.decreases-loop-left
decreases-loop-left l = length l.left
