use Rattle.host_enumerate.proofs.Prelude.{◌<◌, length, arith, held_by, changed_at}
use Rattle.host_enumerate.proofs.devising.set_lock.Goals as goal

pub returns : goal.returns
returns c =
    let devices = c.args.devices.now.items in
    let at = c.from.ensures in
    let there = c.requires in
    let within : c.from.result < length devices = grind (arith, there, at) in
    changed_at devices c.args.node c.from.result c.index_mut.result.now c.set_lock.new.self
    (held_by c.args.id) at within c.index_mut.ensures.value c.set_lock.ensures
