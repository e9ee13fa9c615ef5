use Rattle.host_enumerate.proofs.Prelude.{rules, ◌∙◌, sym, ap, next_port}
use Rattle.host_enumerate.proofs.PlainWalks.{linked-inside, walk-endpoint, walk-discarded, walk-passed}
use Rattle.host_enumerate.proofs.plain.PlainMaint.+walk.Goals as goal

pub index-device-requires : goal.index-device-requires
index-device-requires t c = search (rules, linked-inside)

pub returns-then-not-is_switch : goal.returns-then-not-is_switch
returns-then-not-is_switch t c = search (rules, walk-endpoint)

pub returns-in_err-port : goal.returns-in_err-port
returns-in_err-port t c =
    c.from_residual-in_err-port.ensures
    ∙ walk-discarded c.args.self.now.devices.items c.args.self.now.links.items
    c.args.self.now.host c.args.dest c.args.hops c.args.from c.in_ok-at.at
    c.index-device.result.now c.requires.topology (sym c.peer.ensures ∙ c.in_ok-at.was)
    c.index-device.ensures
    (sym c.if-not-is_switch.ensures) c.if-hops-eq0.false
    (ap (λ n. next_port c.index-device.result.now n) (sym c.from.ensures)
    ∙ (sym c.next_port.ensures.value ∙ c.in_err-port.was))

pub returns : goal.returns
returns t c =
    c.walk.ensures
    ∙ walk-passed c.args.self.now.devices.items c.args.self.now.links.items
    c.args.self.now.host c.args.dest c.args.hops c.in_ok-port.port c.args.from c.in_ok-at.at
    c.index-device.result.now c.requires.topology (sym c.peer.ensures ∙ c.in_ok-at.was)
    c.index-device.ensures
    (sym c.if-not-is_switch.ensures) c.if-hops-eq0.false
    (ap (λ n. next_port c.index-device.result.now n) (sym c.from.ensures)
    ∙ (sym c.next_port.ensures.value ∙ c.in_ok-port.was))
