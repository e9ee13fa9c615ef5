use Rattle.link_port.specs.Ports.{PortState}
use Rattle.fabric_ports.specs.Outside.{turns_told}
use Rattle.fabric_ports.proofs.OutsideLaws.{outside_did}
use Rattle.fabric_ports.proofs.OutsidePorts.{turns_planned}
use Rattle.fabric_ports.proofs.fabric.Fabric.outside_turns.Goals as goal

pub returns : goal.returns
returns g c = λ from lines stands.
    let p = c.args.port in
    let count = c.args.count in
    let x = c.index_mut-end.result.now in
    outside_did c.take_turns.new.end c.wake_switch.new.self c.requires.free stands
    c.place-place.ensures.place c.index_mut-end.ensures.value c.show_port.ensures
    c.wake_switch.ensures (λ (q : PortState). (turns_told p q count).port)
    (λ (q : PortState). (turns_told p q count).lines) c.take_turns.ensures.state
    (turns_planned p x count) c.take_turns.ensures.told
