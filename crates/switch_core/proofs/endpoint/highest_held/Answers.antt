use Rattle.std.proofs.Common.{◌-◌, ◌∙◌, sym, arith}
use Rattle.switch_core.specs.Faces.{face_of, head_of}
use Rattle.switch_core.proofs.OrderLaws.{greatest_first-none, greatest_first-some, greatest_first-over}
use Rattle.switch_core.proofs.endpoint.highest_held.Goals as goal

pub returns-then-holds-clause-value : goal.returns-then-holds-clause-value
returns-then-holds-clause-value g c =
    sym c.loop-prio.invariant
    ∙ greatest_first-some
    (head_of (face_of g.P.PortFace.received g.P.PortFace.queued c.args.port.now))
    (c.loop-prio.prio - 1) c.loop-prio.prio
    (omega arith) (sym c.holds.ensures ∙ c.if-holds.true)

pub loop-prio-preserved : goal.loop-prio-preserved
loop-prio-preserved g c =
    sym (greatest_first-over
    (head_of (face_of g.P.PortFace.received g.P.PortFace.queued c.args.port.now))
    (c.loop-prio.prio - 1) c.loop-prio.prio
    (omega arith) (sym c.holds.ensures ∙ c.if-holds.false))
    ∙ c.loop-prio.invariant

pub returns-clause-value : goal.returns-clause-value
returns-clause-value g c =
    sym c.loop-prio.invariant
    ∙ greatest_first-none
    (head_of (face_of g.P.PortFace.received g.P.PortFace.queued c.args.port.now))
    c.loop-prio.prio (omega arith)
