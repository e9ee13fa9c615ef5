use Rattle.std.proofs.Common.{ℕ, ◌-◌, ◌∙◌, ap, sym, arith}
use Rattle.switch_core.specs.Faces.{faces_of}
use Rattle.switch_core.specs.Order.{least_first}
use Rattle.switch_core.specs.SwitchSteps.{step_at}
use Rattle.switch_core.specs.Goings.{Goes}
use Rattle.switch_core.proofs.OrderLaws.{greatest_first-none, greatest_first-at, greatest_first-passed}
use Rattle.switch_core.proofs.GoingLaws.{makes_step, no_step, going_is}
use Rattle.switch_core.proofs.going.first_going.Goals as goal

pub returns-in-Some-clause-goes : goal.returns-in-Some-clause-goes
returns-in-Some-clause-goes g c =
    let device = c.args.registers.now in
    let faces = faces_of g.P.PortFace.received g.P.PortFace.queued c.args.ports.now in
    let prio = c.loop-prio.prio - 1 in
    let o = step_at device faces prio c.in-Some.going.port in
    let first = sym c.loop-prio.invariant
    ∙ greatest_first-at (λ (prio : ℕ). least_first (step_at device faces prio) device.ports)
    prio c.loop-prio.prio o (omega arith) c.in-Some.ensures.value c.in-Some.ensures.goes in
    record {
      stands = c.in-Some.ensures.stands;
      step = ap (λ n. step_at device faces n c.in-Some.going.port) c.in-Some.ensures.prio
          ∙ makes_step device faces o first c.in-Some.ensures.goes;
    }

pub returns-in-Some-clause-going : goal.returns-in-Some-clause-going
returns-in-Some-clause-going g c =
    let faces = faces_of g.P.PortFace.received g.P.PortFace.queued c.args.ports.now in
    let goes : Goes c.args.registers.now faces c.in-Some.going = returns-in-Some-clause-goes g c in
    going_is c.args.registers.now faces c.in-Some.going goes goes.stands.packet goes.stands.held

pub loop-prio-preserved : goal.loop-prio-preserved
loop-prio-preserved g c =
    let device = c.args.registers.now in
    let faces = faces_of g.P.PortFace.received g.P.PortFace.queued c.args.ports.now in
    sym (greatest_first-passed
    (λ (prio : ℕ). least_first (step_at device faces prio) device.ports)
    (c.loop-prio.prio - 1) c.loop-prio.prio (omega arith) c.in_default.ensures.value)
    ∙ c.loop-prio.invariant

pub returns-clause-going : goal.returns-clause-going
returns-clause-going g c =
    let device = c.args.registers.now in
    let faces = faces_of g.P.PortFace.received g.P.PortFace.queued c.args.ports.now in
    no_step device faces (sym c.loop-prio.invariant
    ∙ greatest_first-none (λ (prio : ℕ). least_first (step_at device faces prio) device.ports)
    c.loop-prio.prio (omega arith))
