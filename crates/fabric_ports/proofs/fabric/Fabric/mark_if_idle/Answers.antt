use Rattle.std.proofs.Common.{◌<◌, length, rules, arith}
use Rattle.fabric_ports.proofs.IdleLaws.{marks_of_links, link_shows}
use Rattle.fabric_ports.proofs.fabric.Fabric.mark_if_idle.Goals as goal

pub index_mut-requires : goal.index_mut-requires
index_mut-requires c =
    let many = marks_of_links c.requires.shown.1 in
    let within = c.requires.within in
    let here : c.args.place < length c.args.self.now.idle.links.items =
    omega (arith, many, within) in
    search rules

pub returns-clause-shows : goal.returns-clause-shows
returns-clause-shows c = λ s shows.
    link_shows c.args.self.now c.args.place c.is_idle-idle.result s shows c.is_idle-idle.ensures

pub returns-clause-still : goal.returns-clause-still
returns-clause-still c = c.is_idle-idle.ensures
