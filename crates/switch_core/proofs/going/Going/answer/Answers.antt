use Rattle.std.proofs.Common.{ap, sym, ◌∙◌}
use Rattle.maint_packets.specs.Responses.{response_bytes}
use Rattle.switch_core.specs.Faces.{faces_of, taken_at, put_at}
use Rattle.switch_core.specs.SwitchSteps.{faces_after, answered_by, switch_after}
use Rattle.switch_core.specs.declared.switch.Step.TheVariants.{Answered}
use Rattle.switch_core.proofs.FaceLaws.{AreAlike-on}
use Rattle.switch_core.proofs.GoingLaws.{inside, own_prio, answered_is}
use Rattle.switch_core.proofs.going.Going.answer.Goals as goal

pub returns-clause-step : goal.returns-clause-step
returns-clause-step g c = λ request held.
    let faces = faces_of g.P.PortFace.received g.P.PortFace.queued c.args.ports.now in
    let response =
    c.write_response-response.ensures.value ∙ ap response_bytes c.answer.ensures.response in
    let same = inside c.in-Some.packet request (c.in-Some.ensures.value ∙ held) in
    (answered_is c.args.registers.now faces c.args.self c.requires.goes c.in-Some.packet
    (sym c.in-Some.ensures.value) c.in-Some-read_request.request c.requires.next
    (sym c.in-Some-read_request.ensures.value)).0
    ∙ (λ i. Answered c.args.self.port (same i) (sym response i))

pub returns-clause-faces : goal.returns-clause-faces
returns-clause-faces g c =
    let faces = faces_of g.P.PortFace.received g.P.PortFace.queued c.args.ports.now in
    let port = c.args.self.port in
    let packet = c.in-Some.packet in
    let held = sym c.in-Some.ensures.value in
    let prio = own_prio c.args.registers.now faces c.args.self c.requires.goes packet held in
    c.put_at.ensures.faces
    ∙ (λ i. put_at (c.take_at.ensures.faces i) port (c.copy.ensures.same i))
    ∙ ap (λ n. put_at (taken_at faces port n) port c.write_response-response.result) (sym prio)
    ∙ ap (faces_after faces) (sym (returns-clause-step g c packet held))

pub returns-clause-registers : goal.returns-clause-registers
returns-clause-registers g c =
    let device = c.args.registers.now in
    let step = returns-clause-step g c c.in-Some.packet (sym c.in-Some.ensures.value) in
    let asked = sym c.in-Some-read_request.ensures.value in
    c.answer.ensures.registers
    ∙ sym (ap (switch_after device) step ∙ ap (answered_by device c.args.self.port) asked)

pub returns-clause-alike : goal.returns-clause-alike
returns-clause-alike g c =
    AreAlike-on g.P.PortFace.alike g.met.P.PortFace.alike_same g.met.P.PortFace.alike_on _ _ _
    c.take_at.ensures.alike c.put_at.ensures.alike
