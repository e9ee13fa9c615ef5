use Rattle.std.proofs.Common.{◌≡◌, ℕ}
use Rattle.switch_core.specs.Faces.{faces_of}
use Rattle.switch_core.specs.Order.{least_first, greatest_first}
use Rattle.switch_core.specs.SwitchSteps.{step_at, first_step}
use Rattle.switch_core.proofs.going.first_going.Given as goal

-- no higher priority has a packet that can go
abbrev pub invariant-loop-prio : goal.invariant-loop-prio
invariant-loop-prio g l =
    let faces = faces_of g.P.PortFace.received g.P.PortFace.queued l.ports in
    greatest_first (λ (prio : ℕ). least_first (step_at l.registers faces prio) l.registers.ports)
    l.prio
    ≡ first_step l.registers faces
