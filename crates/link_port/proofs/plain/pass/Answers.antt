use Rattle.std.proofs.Common.{sym, ap, ◌∙◌, arith}
use Rattle.rio_packets.specs.Fields.{prio_of}
use Rattle.link_buffers.specs.Queues.{popped}
use Rattle.link_port.specs.Plain.{PlainStores, without}
use Rattle.link_port.proofs.FirstPackets.{first_has_prio}
use Rattle.link_port.proofs.plain.pass.Goals as goal

pub put-requires : goal.put-requires
put-requires c =
    let its =
    first_has_prio _ _ _ c.first_behind.ensures.store c.in_ok-prio.ensures.range
    (sym c.in_ok-packet.ensures.value) in
    let same = ap prio_of c.copy.ensures.same in
    record { room = grind arith }

pub returns-clause-leaves : goal.returns-clause-leaves
returns-clause-leaves c =
    let its =
    first_has_prio _ _ _ c.first_behind.ensures.store c.in_ok-prio.ensures.range
    (sym c.in_ok-packet.ensures.value) in
    ap (λ queued. record { queued = queued; received = c.from.inside.received })
    (c.pop.ensures.popped ∙ ap (popped c.from.inside.queued) (sym its))
    ∙ ap (λ (from : PlainStores). without from c.in_ok-packet.packet) c.from.view_is
