use Rattle.std.proofs.Common.{◌≡◌, ◌≤◌, ◌<◌, true, false, nat_lt, length, sym, ap, subst, ◌∙◌, arith}
use Rattle.std.proofs.lemmas.Bool.{lt-ltb, le-ltb, false≢true}
use Rattle.rio_packets.specs.Fields.{prio_of}
use Rattle.link_buffers.specs.Queues.{list_at}
use Rattle.link_port.specs.Ports.{PortState}
use Rattle.fabric_model.specs.Network.{port_of, room_out}
use Rattle.fabric_trace.proofs.Network.Faces.{room_is}
use Rattle.fabric_ports.proofs.NodeLaws.{has_port, port_read}
use Rattle.fabric_ports.proofs.SendLaws.{did_full, did_take}
use Rattle.fabric_ports.proofs.fabric.Fabric.send.Goals as goal

pub returns-then-not-out_room : goal.returns-then-not-out_room
returns-then-not-out_room g c = λ s shows sent.
    let few : prio_of c.args.packet < 4 =
    subst (λ n. n < 4) c.prio.ensures.value c.prio.ensures.range in
    let at = port_read shows c.requires.endpoint c.place-place.ensures.place c.index.ensures in
    let not_now : ¬ (length (list_at c.index.result.now.queued (prio_of c.args.packet)) < 16) =
    λ h. false≢true (sym c.if-not-out_room.true
    ∙ c.out_room.ensures.exact.1
    (subst (λ n. length (list_at c.index.result.now.queued n) < 16) (sym c.prio.ensures.value)
    h)) in
    let none : 16 ≤ length (list_at c.index.result.now.queued (prio_of c.args.packet)) =
    omega (arith, not_now) in
    let room : room_out s.network (port_of c.args.node) (prio_of c.args.packet) ≡ false =
    room_is s.network (port_of c.args.node) (prio_of c.args.packet) few
    ∙ ap (λ (p : PortState). nat_lt (length (list_at p.queued (prio_of c.args.packet))) 16) at
    ∙ le-ltb _ _ none in
    did_full _ _ s c.args.self.now c.args.node c.args.packet shows sent room
    c.write_lack.ensures

pub returns : goal.returns
returns g c = λ s shows sent.
    let few : prio_of c.args.packet < 4 =
    subst (λ n. n < 4) c.prio.ensures.value c.prio.ensures.range in
    let at = port_read
    shows c.requires.endpoint c.place-place.ensures.place c.index_mut.ensures.value in
    let before = port_read shows c.requires.endpoint c.place-place.ensures.place c.index.ensures in
    let some : length (list_at c.index_mut.result.now.queued (prio_of c.args.packet)) < 16 =
    subst (λ (p : PortState). length (list_at p.queued (prio_of c.args.packet)) < 16)
    (sym before ∙ at)
    (subst (λ n. length (list_at c.index.result.now.queued n) < 16) c.prio.ensures.value
    (c.out_room.ensures.exact.0 c.if-not-out_room.false)) in
    let room : room_out s.network (port_of c.args.node) (prio_of c.args.packet) ≡ true =
    room_is s.network (port_of c.args.node) (prio_of c.args.packet) few
    ∙ ap (λ (p : PortState). nat_lt (length (list_at p.queued (prio_of c.args.packet))) 16) at
    ∙ lt-ltb _ _ some in
    did_take _ _ s c.args.self.now c.args.node c.args.packet
    shows sent room few c.requires.endpoint at
    (has_port c.args.self.now (port_of c.args.node) c.args.node
    c.out_put.new.self c.place-place.ensures.place c.requires.endpoint.stands
    (c.deref.ensures.value, c.wake_port.ensures))
    c.out_put.ensures.alike c.out_put.ensures.queued c.out_put.ensures.received c.write_take.ensures
