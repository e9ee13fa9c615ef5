use Rattle.std.proofs.Common.{suc}
use Rattle.link_model.specs.declared.event.Event.TheVariants.{Ctl, Pkt}
use Rattle.link_wires.specs.Deliveries.{flow_of}
use Rattle.link_wires.proofs.Leading.{come_missed, come_two}
use Rattle.link_wires.proofs.deliveries.packet_and_symbol.Goals as goal

pub returns-in-Some-clause-shows : goal.returns-in-Some-clause-shows
returns-in-Some-clause-shows c = λ acted at.
    come_missed (flow_of c.args.port.now c.args.kept.now c.args.came.now.moves.items
    c.args.came.now.replies.items acted (suc at)) at (Pkt c.args.ack c.args.came.now.packet)
    (Ctl c.args.symbol)
    c.in-Some.undetected
    c.in_ok-undetected.field-0 c.act_packet.new.port c.act_packet.new.kept
    c.act_packet.new.came.moves.items c.act_packet.new.came.replies.items c.in-Some.is
    (c.in_ok-undetected.ensures.shows acted at)

pub returns-clause-shows : goal.returns-clause-shows
returns-clause-shows c = λ acted at.
    come_two (flow_of c.args.port.now c.args.kept.now c.args.came.now.moves.items
    c.args.came.now.replies.items acted (suc at)) at (Pkt c.args.ack c.args.came.now.packet)
    (Ctl c.args.symbol)
    c.in_ok-undetected.field-0 c.in_ok-found.found c.act_packet.new.port c.act_symbol.new.port
    c.act_packet.new.kept c.act_symbol.new.kept c.act_packet.new.came.moves.items
    c.act_symbol.new.came.moves.items c.act_packet.new.came.replies.items
    c.act_symbol.new.came.replies.items c.in_default.is
    (c.in_ok-undetected.ensures.shows acted at) (λ more. c.in_ok-found.ensures.shows more at)
