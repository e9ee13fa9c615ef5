use Rattle.std.proofs.Common.{◌≡◌, ◌<◌, [], length, get_or, rules, arith, sym, subst}
use Rattle.host_enumerate.proofs.LinesLeft.{IsLeft, all_left, next_may, next_left, none_left}
use Rattle.host_enumerate.proofs.devising.Devised.by.Goals as goal

pub loop-numbered-init : goal.loop-numbered-init
loop-numbered-init c =
    let names = c.args.script.now.names.items in
    let lines = c.args.script.now.lines.items in
    subst (λ devices. IsLeft names lines 0 devices c.new-2.result.items) (sym c.new.ensures.items)
    (subst (λ links. IsLeft names lines 0 [] links) (sym c.new-2.ensures.items)
    (all_left names lines c.requires.passes))

pub add-requires : goal.add-requires
add-requires c =
    let script = c.args.script.now in
    let within : c.loop-numbered.numbered-index < length script.lines.items = omega arith in
    let here : c.numbered-item.result ≡ get_or script.lines.items c.loop-numbered.numbered-index
    c.numbered-item.result = search rules in
    next_may script.names.items script.lines.items c.loop-numbered.numbered-index
    c.loop-numbered.devised.devices.items c.loop-numbered.devised.links.items
    c.numbered-item.result within here c.loop-numbered.invariant

pub loop-numbered-preserved : goal.loop-numbered-preserved
loop-numbered-preserved c =
    let script = c.args.script.now in
    let within : c.loop-numbered.numbered-index < length script.lines.items = omega arith in
    let here : c.numbered-item.result ≡ get_or script.lines.items c.loop-numbered.numbered-index
    c.numbered-item.result = search rules in
    next_left script.names.items script.lines.items c.loop-numbered.numbered-index
    c.loop-numbered.devised.devices.items c.loop-numbered.devised.links.items
    c.numbered-item.result within here c.loop-numbered.invariant
    c.add.new.self.devices.items c.add.new.self.links.items
    c.in_ok-add.ensures.devices c.in_ok-add.ensures.links

pub returns-clause-devices : goal.returns-clause-devices
returns-clause-devices c =
    (none_left c.args.script.now.names.items c.args.script.now.lines.items
    c.loop-numbered.numbered-index c.loop-numbered.devised.devices.items
    c.loop-numbered.devised.links.items (omega arith) c.loop-numbered.invariant).0

pub returns-clause-links : goal.returns-clause-links
returns-clause-links c =
    (none_left c.args.script.now.names.items c.args.script.now.lines.items
    c.loop-numbered.numbered-index c.loop-numbered.devised.devices.items
    c.loop-numbered.devised.links.items (omega arith) c.loop-numbered.invariant).1
