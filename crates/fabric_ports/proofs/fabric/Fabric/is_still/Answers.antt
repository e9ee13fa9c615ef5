use Rattle.std.proofs.Common.{◌<◌, length, rules, arith}
use Rattle.fabric_ports.proofs.IdleLaws.{marks_of_links, marked_still}
use Rattle.fabric_ports.proofs.fabric.Fabric.is_still.Goals as goal

pub index-requires : goal.index-requires
index-requires c =
    let many = marks_of_links c.requires.shown.1 in
    let within = c.requires.within in
    let here : c.args.place < length c.args.self.now.idle.links.items =
    omega (arith, many, within) in
    search rules

pub returns-then-index-clause-still : goal.returns-then-index-clause-still
returns-then-index-clause-still c =
    marked_still c.args.self.now c.args.place c.index.result.now c.requires.within c.index.ensures
    c.if-index.true
