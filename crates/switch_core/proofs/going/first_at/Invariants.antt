use Rattle.std.proofs.Common.{◌≡◌, None}
use Rattle.switch_core.specs.Faces.{faces_of}
use Rattle.switch_core.specs.Order.{least_first}
use Rattle.switch_core.specs.SwitchSteps.{step_at}
use Rattle.switch_core.proofs.going.first_at.Given as goal

-- no port before this one has a packet that can go
abbrev pub invariant-loop-port : goal.invariant-loop-port
invariant-loop-port g l =
    least_first (step_at l.registers
    (faces_of g.P.PortFace.received g.P.PortFace.queued l.ports) l.prio) l.port
    ≡ None
