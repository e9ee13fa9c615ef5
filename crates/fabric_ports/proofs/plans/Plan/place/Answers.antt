use Rattle.std.proofs.Common.{arith}
use Rattle.fabric_ports.proofs.PlaceLaws.{first_within, place_read}
use Rattle.fabric_ports.proofs.plans.Plan.place.Goals as goal

pub index-requires : goal.index-requires
index-requires c =
    let at = first_within 0 c.args.self.now.devices.items c.args.self.now.firsts.items
    c.args.port.node c.args.port.port c.requires.plan.firsts c.requires.port in
    grind (arith, at)

pub overflow_add-result : goal.overflow_add-result
overflow_add-result c =
    let read = place_read _ _ c.args.port c.requires.plan.firsts c.requires.port c.from.ensures
    c.index.ensures c.from-2.ensures in
    let within = read.within in
    let count = c.requires.plan.count in
    grind (arith, within, count)

pub returns-clause-value : goal.returns-clause-value
returns-clause-value c =
    (place_read _ _ c.args.port c.requires.plan.firsts c.requires.port c.from.ensures
    c.index.ensures c.from-2.ensures).is

pub returns-clause-within : goal.returns-clause-within
returns-clause-within c =
    let read = place_read _ _ c.args.port c.requires.plan.firsts c.requires.port c.from.ensures
    c.index.ensures c.from-2.ensures in
    omega (arith, read.within, c.requires.plan.count)
