use Rattle.std.proofs.Common.{◌≡◌}
use Rattle.switch_core.specs.Faces.{face_of, head_of}
use Rattle.switch_core.specs.Order.{greatest_first}
use Rattle.switch_core.specs.EndpointSteps.{first_held}
use Rattle.switch_core.proofs.endpoint.highest_held.Given as goal

-- no higher priority has a packet
abbrev pub invariant-loop-prio : goal.invariant-loop-prio
invariant-loop-prio g l =
    greatest_first (head_of (face_of g.P.PortFace.received g.P.PortFace.queued l.port)) l.prio
    ≡ first_held (face_of g.P.PortFace.received g.P.PortFace.queued l.port)
