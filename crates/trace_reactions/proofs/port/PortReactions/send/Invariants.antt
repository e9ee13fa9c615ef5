use Rattle.std.proofs.Common.{length}
use Rattle.trace_reactions.specs.PortsKept.{port_kept}
use Rattle.trace_reactions.proofs.SendingOn.{HasSent}
use Rattle.trace_reactions.proofs.port.PortReactions.send.Given as goal

abbrev pub invariant-loop-left : goal.invariant-loop-left
invariant-loop-left l =
    HasSent (port_kept l.initial.self) l.fn.chars (port_kept l.self) l.left

abbrev pub decreases-loop-left : goal.decreases-loop-left
decreases-loop-left l = length l.left
