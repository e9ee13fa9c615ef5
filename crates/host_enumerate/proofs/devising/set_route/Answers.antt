use Rattle.host_enumerate.proofs.Prelude.{◌<◌, length, arith, routed, changed_at}
use Rattle.host_enumerate.proofs.devising.set_route.Goals as goal

pub returns : goal.returns
returns c =
    let devices = c.args.devices.now.items in
    let at = c.from.ensures in
    let there = c.requires.node in
    let within : c.from.result < length devices = grind (arith, there, at) in
    changed_at devices c.args.node c.from.result c.index_mut.result.now c.set_route.new.self
    (routed c.args.id c.args.port) at within c.index_mut.ensures.value c.set_route.ensures
