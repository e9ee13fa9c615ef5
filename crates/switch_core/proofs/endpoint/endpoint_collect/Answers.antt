use Rattle.std.proofs.Common.{◌≡◌, ◌+◌, min, true, false, ap, sym, ◌∙◌}
use Rattle.std.specs.Option.{option_and_then}
use Rattle.maint_packets.specs.Requests.{request_of}
use Rattle.maint_packets.specs.Responses.{response_bytes}
use Rattle.maint_packets.specs.Answers.{request_answered}
use Rattle.switch_core.specs.Faces.{face_of, head_of, has_room, without_head, with_packet}
use Rattle.switch_core.specs.EndpointSteps.{face_after, endpoint_after, answered_on_0}
use Rattle.switch_core.proofs.RequestLaws.{first_has_prio, some_there}
use Rattle.switch_core.proofs.CollectLaws.{full, answers}
use Rattle.switch_core.proofs.endpoint.endpoint_collect.Goals as goal

pub returns-then-not-has_room-clause-collected : goal.returns-then-not-has_room-clause-collected
returns-then-not-has_room-clause-collected g c =
    let face = face_of g.P.PortFace.received g.P.PortFace.queued c.args.port.now in
    let there = some_there (head_of face c.in-Some.prio) c.in-Some.ensures.held in
    let asks = sym (c.in-Some-first_request.ensures.value ∙ ap (option_and_then request_of) there.1)
    in
    let none : has_room face (min (c.in-Some-first_request.request.prio + 1) 3) ≡ false =
    ap (has_room face) (sym c.response_prio.ensures.value) ∙ sym c.has_room.ensures
    ∙ c.if-not-has_room.true in
    full c.args.registers.now face there.0 c.in-Some-first_request.request
    (c.in-Some.ensures.value ∙ there.1) asks none

pub returns-clause-collected : goal.returns-clause-collected
returns-clause-collected g c =
    let face = face_of g.P.PortFace.received g.P.PortFace.queued c.args.port.now in
    let there = some_there (head_of face c.in-Some.prio) c.in-Some.ensures.held in
    let asks = sym (c.in-Some-first_request.ensures.value ∙ ap (option_and_then request_of) there.1)
    in
    let room : has_room face (min (c.in-Some-first_request.request.prio + 1) 3) ≡ true =
    ap (has_room face) (sym c.response_prio.ensures.value) ∙ sym c.has_room.ensures
    ∙ c.if-not-has_room.false in
    c.answer_first.ensures.value there.0 there.1
    ∙ answers c.args.registers.now face there.0 c.in-Some-first_request.request
    (c.in-Some.ensures.value ∙ there.1) asks room

pub returns-clause-face : goal.returns-clause-face
returns-clause-face g c =
    let face = face_of g.P.PortFace.received g.P.PortFace.queued c.args.port.now in
    let there = some_there (head_of face c.in-Some.prio) c.in-Some.ensures.held in
    let response =
    response_bytes
    (request_answered c.args.registers.now c.in-Some-first_request.request 0).response in
    let same = first_has_prio face.received c.in-Some.prio there.0 c.in-Some.ensures.lists
    c.in-Some.ensures.range there.1 in
    c.answer_first.ensures.face
    ∙ ap (λ prio. with_packet (without_head face prio) response) (sym same)
    ∙ sym (ap (face_after face) (c.answer_first.ensures.value there.0 there.1))

pub returns-clause-registers : goal.returns-clause-registers
returns-clause-registers g c =
    let face = face_of g.P.PortFace.received g.P.PortFace.queued c.args.port.now in
    let there = some_there (head_of face c.in-Some.prio) c.in-Some.ensures.held in
    let asks = sym (c.in-Some-first_request.ensures.value ∙ ap (option_and_then request_of) there.1)
    in
    c.answer_first.ensures.registers
    ∙ sym (ap (endpoint_after c.args.registers.now) (c.answer_first.ensures.value there.0 there.1)
    ∙ ap (answered_on_0 c.args.registers.now) asks)
