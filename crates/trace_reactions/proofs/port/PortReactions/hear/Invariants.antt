use Rattle.std.proofs.Common.{◌≡◌, length}
use Rattle.trace_reactions.specs.PortsKept.{after_got, port_kept}
use Rattle.trace_reactions.proofs.port.PortReactions.hear.Given as goal

abbrev pub invariant-loop-left : goal.invariant-loop-left
invariant-loop-left l =
    after_got (port_kept l.self) l.left ≡ after_got (port_kept l.initial.self) l.fn.chars

abbrev pub decreases-loop-left : goal.decreases-loop-left
decreases-loop-left l = length l.left
