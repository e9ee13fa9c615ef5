use Rattle.link_port.specs.Ports.{PortState}
use Rattle.link_port.specs.Streams.{takes_each}
use Rattle.fabric_ports.specs.Outside.{taking_lines}
use Rattle.fabric_ports.proofs.OutsideLaws.{outside_did}
use Rattle.fabric_ports.proofs.OutsidePorts.{each_planned, took_written}
use Rattle.fabric_ports.proofs.fabric.Fabric.outside_takes.Goals as goal

pub returns-clause-took : goal.returns-clause-took
returns-clause-took g c = λ from lines stands.
    let p = c.args.port in
    let chars = c.args.chars.now in
    let x = c.index_mut-end.result.now in
    outside_did c.take_chars.new.end c.wake_switch.new.self c.requires.free stands
    c.place-place.ensures.place c.index_mut-end.ensures.value c.show_port.ensures
    c.wake_switch.ensures (λ (q : PortState). (takes_each q chars).port)
    (λ (q : PortState). taking_lines p q chars) c.take_chars.ensures.state (each_planned x chars)
    (took_written p x chars c.in_ok-replies.replies.items c.take_chars.new.replies.items
    c.as_slice.result.now c.write_got.ensures c.take_chars.ensures.told c.write_sent.ensures
    c.in_ok-replies.ensures.empty c.take_chars.ensures.replies c.as_slice.ensures.value)
