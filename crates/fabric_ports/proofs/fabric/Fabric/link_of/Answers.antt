use Rattle.std.proofs.Common.{◌<◌, sym, subst, rules, arith, length}
use Rattle.std.proofs.lemmas.Option.{slice_get_within}
use Rattle.fabric_ports.specs.Places.{IsPortOf}
use Rattle.fabric_ports.specs.declared.fabric.Cable.{Cable}
use Rattle.fabric_ports.proofs.EndLaws.{cable_of, linked_port, number_at, number_is, cable_read, end_read, cable_shown, places_found}
use Rattle.fabric_ports.proofs.fabric.Fabric.link_of.Goals as goal

pub place-requires-clause-shown : goal.place-requires-clause-shown
place-requires-clause-shown c = (_, c.requires.stands.shows)

pub place-requires-clause-port : goal.place-requires-clause-port
place-requires-clause-port c = linked_port c.requires

pub index-number-requires : goal.index-number-requires
index-number-requires c =
    let own = cable_of c.requires in
    let at = slice_get_within c.args.self.now.cable_at.items _ own.place (number_at c.requires) in
    let same = c.place.ensures.place in
    let here : c.place.result < length c.args.self.now.cable_at.items =
    omega (arith, at, same) in
    search rules

pub index-cable-requires : goal.index-cable-requires
index-cable-requires c =
    let own = cable_of c.requires in
    let at = slice_get_within c.args.self.now.cables.items own.place own.cable own.at in
    let number = number_is c.requires c.place.ensures.place c.index-number.ensures in
    let here : c.index-number.result.now < length c.args.self.now.cables.items =
    omega (arith, at, number) in
    search rules

pub place-requires-2-clause-shown : goal.place-requires-2-clause-shown
place-requires-2-clause-shown c = (_, c.requires.stands.shows)

pub place-requires-2-clause-port : goal.place-requires-2-clause-port
place-requires-2-clause-port c =
    let own = cable_of c.requires in
    let number = number_is c.requires c.place.ensures.place c.index-number.ensures in
    let same = cable_read c.requires number c.index-cable.ensures in
    subst (λ (d : Cable). IsPortOf c.args.self.now.devices.items d.a) (sym same)
    (cable_shown own.place own.cable c.requires.stands own.at).port_a

pub place-requires-3-clause-shown : goal.place-requires-3-clause-shown
place-requires-3-clause-shown c = (_, c.requires.stands.shows)

pub place-requires-3-clause-port : goal.place-requires-3-clause-port
place-requires-3-clause-port c =
    let own = cable_of c.requires in
    let number = number_is c.requires c.place.ensures.place c.index-number.ensures in
    let same = cable_read c.requires number c.index-cable.ensures in
    subst (λ (d : Cable). IsPortOf c.args.self.now.devices.items d.b) (sym same)
    (cable_shown own.place own.cable c.requires.stands own.at).port_b

pub returns : goal.returns
returns c =
    let number = number_is c.requires c.place.ensures.place c.index-number.ensures in
    places_found (record {
      cable = c.index-number.result.now;
      side = c.side_of.result;
      a = c.place-2.result;
      b = c.place-3.result;
    }) c.requires (end_read c.requires number c.index-cable.ensures c.side_of.ensures)
    c.index-cable.ensures c.place-2.ensures.place c.place-3.ensures.place c.place-2.ensures.within
    c.place-3.ensures.within
