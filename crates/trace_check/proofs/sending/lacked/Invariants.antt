use Rattle.std.proofs.Common.{ℕ, length}
use Rattle.std.specs.List.{AllByRecursion}
use Rattle.link_model.specs.Said.{said}
use Rattle.fabric_script.specs.declared.ports.PortRef.{PortRef}
use Rattle.fabric_model.specs.Network.{Network}
use Rattle.fabric_trace.specs.Fold.{says}
use Rattle.fabric_trace.specs.Owned.{HasEvent}
use Rattle.trace_check.specs.Expecting.{OneIsLacked}
use Rattle.trace_check.specs.Sending.{AreToSend}
use Rattle.trace_check.proofs.sending.lacked.Given as goal

abbrev pub invariant-loop-left : goal.invariant-loop-left
invariant-loop-left l = (net : Network) (p : PortRef)
    → AreToSend net p l.fn.waiting l.fn.lent.items
    → (AllByRecursion (HasEvent net p) (said l.framer.place l.left)
    → AllByRecursion (HasEvent net p) (says l.fn.chars))
    × ((prio : ℕ) → OneIsLacked net p prio (said l.framer.place l.left)
    → OneIsLacked net p prio (says l.fn.chars))

abbrev pub decreases-loop-left : goal.decreases-loop-left
decreases-loop-left l = length l.left
