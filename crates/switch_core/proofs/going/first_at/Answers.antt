use Rattle.std.proofs.Common.{◌+◌, sym, arith}
use Rattle.switch_core.specs.Faces.{faces_of}
use Rattle.switch_core.specs.SwitchSteps.{step_at}
use Rattle.switch_core.proofs.OrderLaws.{least_first-none, least_first-at, least_first-over}
use Rattle.switch_core.proofs.going.first_at.Goals as goal

pub loop-port-init : goal.loop-port-init
loop-port-init g c =
    let faces = faces_of g.P.PortFace.received g.P.PortFace.queued c.args.ports.now in
    least_first-none (step_at c.args.registers.now faces c.args.prio)

pub returns-in-Some-clause-value : goal.returns-in-Some-clause-value
returns-in-Some-clause-value g c =
    let faces = faces_of g.P.PortFace.received g.P.PortFace.queued c.args.ports.now in
    let f = step_at c.args.registers.now faces c.args.prio in
    least_first-at f c.args.registers.now.ports c.loop-port.port (omega arith)
    c.loop-port.invariant (sym c.in-Some.ensures.exact)

pub loop-port-preserved : goal.loop-port-preserved
loop-port-preserved g c =
    let faces = faces_of g.P.PortFace.received g.P.PortFace.queued c.args.ports.now in
    let f = step_at c.args.registers.now faces c.args.prio in
    least_first-over f c.loop-port.port (c.loop-port.port + 1) (omega arith)
    c.loop-port.invariant (sym c.in_default.ensures.exact)
