use Rattle.std.proofs.Common.{◌+◌, ◌<◌, ◌≤◌, length, arith, rules}
use Rattle.fabric_ports.proofs.PlaceLaws.{first_within, place_read}
use Rattle.fabric_ports.proofs.fabric.Fabric.place.Goals as goal

pub index-requires : goal.index-requires
index-requires c =
    let at = first_within 0 c.args.self.now.devices.items c.args.self.now.firsts.items
    c.args.port.node c.args.port.port c.requires.shown.1.firsts c.requires.port in
    let here : c.from.result < length c.args.self.now.firsts.items =
    omega (arith, at, c.from.ensures) in
    search rules

pub overflow_add-result : goal.overflow_add-result
overflow_add-result c =
    let read = place_read _ _ c.args.port c.requires.shown.1.firsts c.requires.port c.from.ensures
    c.index.ensures c.from-2.ensures in
    let sum : c.index.result.now + c.from-2.result ≤ 18446744073709551615 =
    omega (
      arith,
      read.within,
      c.requires.shown.1.count,
      c.args.self.now.ports.ok.0,
      c.len.ensures,
      c.if-prove.false,
    ) in
    search rules

pub returns-clause-place : goal.returns-clause-place
returns-clause-place c =
    (place_read _ _ c.args.port c.requires.shown.1.firsts c.requires.port c.from.ensures
    c.index.ensures c.from-2.ensures).is

pub returns-clause-within : goal.returns-clause-within
returns-clause-within c =
    let read = place_read _ _ c.args.port c.requires.shown.1.firsts c.requires.port c.from.ensures
    c.index.ensures c.from-2.ensures in
    omega (arith, read.within, c.requires.shown.1.count)

pub returns-clause-fits : goal.returns-clause-fits
returns-clause-fits c =
    let read = place_read _ _ c.args.port c.requires.shown.1.firsts c.requires.port c.from.ensures
    c.index.ensures c.from-2.ensures in
    omega (
      arith,
      read.is,
      read.within,
      c.requires.shown.1.count,
      c.args.self.now.ports.ok.0,
      c.len.ensures,
      c.if-prove.false,
    )
