use Rattle.std.proofs.Common.{◌≡◌, Some, length, sym, ◌∙◌, arith}
use Rattle.std.proofs.lemmas.List.{length-map}
use Rattle.switch_core.specs.Faces.{face_of, faces_of}
use Rattle.switch_core.proofs.FaceLaws.{head_at-port}
use Rattle.switch_core.proofs.GoingLaws.{can_go}
use Rattle.switch_core.proofs.RequestLaws.{first_has_prio}
use Rattle.switch_core.proofs.going.next_at.Goals as goal

pub returns-then-has_place-clause-exact : goal.returns-then-has_place-clause-exact
returns-then-has_place-clause-exact g c =
    let faces = faces_of g.P.PortFace.received g.P.PortFace.queued c.args.ports.now in
    let packet = c.in_ok-packet.packet.now in
    let there = c.in_ok-packet.ensures in
    sym c.if-has_place.true ∙ c.has_place.ensures
    ∙ can_go c.args.registers.now faces c.args.prio c.args.port packet
    (head_at-port g.P.PortFace.received g.P.PortFace.queued c.args.ports.now c.args.port
    c.index-ports-port.result c.args.prio (Some packet) c.requires.port c.index-ports-port.is
    there.value)
    (first_has_prio _ c.args.prio packet there.lists c.requires.prio (sym there.value))
    c.next_of-next.result (sym c.next_of-next.ensures.value) c.next_of-next.ensures.request

pub returns-else-has_place-clause-exact : goal.returns-else-has_place-clause-exact
returns-else-has_place-clause-exact g c =
    let faces = faces_of g.P.PortFace.received g.P.PortFace.queued c.args.ports.now in
    let packet = c.in_ok-packet.packet.now in
    let there = c.in_ok-packet.ensures in
    sym c.if-has_place.false ∙ c.has_place.ensures
    ∙ can_go c.args.registers.now faces c.args.prio c.args.port packet
    (head_at-port g.P.PortFace.received g.P.PortFace.queued c.args.ports.now c.args.port
    c.index-ports-port.result c.args.prio (Some packet) c.requires.port c.index-ports-port.is
    there.value)
    (first_has_prio _ c.args.prio packet there.lists c.requires.prio (sym there.value))
    c.next_of-next.result (sym c.next_of-next.ensures.value) c.next_of-next.ensures.request

pub returns-then-has_place-clause-stands : goal.returns-then-has_place-clause-stands
returns-then-has_place-clause-stands g c =
    let packet = c.in_ok-packet.packet.now in
    let there = c.in_ok-packet.ensures in
    let faces = faces_of g.P.PortFace.received g.P.PortFace.queued c.args.ports.now in
    let many : length faces ≡ length c.args.ports.now =
    length-map c.args.ports.now (face_of g.P.PortFace.received g.P.PortFace.queued) in
    let below = c.requires.port in
    let ports = c.requires.ports in
    record {
      packet = packet;
      port = omega (arith, many, below);
      prio = c.requires.prio;
      held = head_at-port g.P.PortFace.received g.P.PortFace.queued c.args.ports.now c.args.port
          c.index-ports-port.result c.args.prio (Some packet) c.requires.port
          c.index-ports-port.is there.value;
      own = first_has_prio _ c.args.prio packet there.lists c.requires.prio (sym there.value);
      next = sym c.next_of-next.ensures.value;
      to = λ to is.
          (let within = c.next_of-next.ensures.range to is in omega (arith, many, ports, within));
    }
