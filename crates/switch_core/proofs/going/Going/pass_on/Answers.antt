use Rattle.std.proofs.Common.{◌≡◌, ◌<◌, length, ap, sym, ◌∙◌, arith}
use Rattle.std.proofs.lemmas.List.{length-map}
use Rattle.maint_packets.specs.NextHops.{moved}
use Rattle.switch_core.specs.Faces.{face_of, faces_of, taken_at, put_at}
use Rattle.switch_core.specs.SwitchSteps.{faces_after}
use Rattle.switch_core.proofs.FaceLaws.{AreAlike-on}
use Rattle.switch_core.proofs.GoingLaws.{hops_left, own_prio, goes_next, moved_is}
use Rattle.switch_core.proofs.going.Going.pass_on.Goals as goal

pub move_on-requires : goal.move_on-requires
move_on-requires g c =
    let faces = faces_of g.P.PortFace.received g.P.PortFace.queued c.args.ports.now in
    let packet = c.in-Some.packet in
    hops_left c.requires.goes.0 packet c.in-Port.to
    (goes_next c.requires.goes.0 faces c.args.self c.requires.goes.1 packet
    (sym c.in-Some.ensures.value) ∙ c.in-Port.is)

pub put_at-requires-clause-port : goal.put_at-requires-clause-port
put_at-requires-clause-port g c =
    let faces = faces_of g.P.PortFace.received g.P.PortFace.queued c.args.ports.now in
    let many : length faces ≡ length c.args.ports.now =
    length-map c.args.ports.now (face_of g.P.PortFace.received g.P.PortFace.queued) in
    let below : c.in-Port.to < length faces =
    c.requires.goes.1.stands.to c.in-Port.to c.in-Port.is in
    let same = c.take_at.auto.ports in
    omega (arith, many, below, same)

pub returns-in-Port-clause-faces : goal.returns-in-Port-clause-faces
returns-in-Port-clause-faces g c = λ device goes.
    let faces = faces_of g.P.PortFace.received g.P.PortFace.queued c.args.ports.now in
    let port = c.args.self.port in
    let to = c.in-Port.to in
    let packet = c.in-Some.packet in
    let held = sym c.in-Some.ensures.value in
    c.put_at.ensures.faces
    ∙ (λ i. put_at (c.take_at.ensures.faces i) to (c.move_on.ensures.moved i))
    ∙ ap (λ n. put_at (taken_at faces port n) to (moved packet))
    (sym (own_prio device faces c.args.self goes packet held))
    ∙ ap (faces_after faces)
    (sym (moved_is device faces c.args.self goes packet held to c.in-Port.is).0)

pub returns-in-Port-clause-alike : goal.returns-in-Port-clause-alike
returns-in-Port-clause-alike g c =
    AreAlike-on g.P.PortFace.alike g.met.P.PortFace.alike_same g.met.P.PortFace.alike_on _ _ _
    c.take_at.ensures.alike c.put_at.ensures.alike
