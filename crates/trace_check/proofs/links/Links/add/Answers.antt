use Rattle.std.proofs.Common.{Some, List, Option, length, slice_set, ap, ◌∙◌, arith}
use Rattle.std.proofs.lemmas.List.{length-set}
use Rattle.fabric_script.specs.declared.ports.PortRef.{PortRef}
use Rattle.trace_check.specs.Tables.{table_place}
use Rattle.trace_check.proofs.BuildLaws.{joined_link, joined_new, joined_other}
use Rattle.trace_check.proofs.NetworkLaws.{if_ok_map}
use Rattle.trace_check.proofs.TableLaws.{place_within}
use Rattle.trace_check.proofs.links.Links.add.Goals as goal

pub join-requires : goal.join-requires
join-requires c =
    let may = c.requires in
    let within = place_within (rw c.in-Link.is at may.may.ports).0 in
    let size = may.joined.peers.size in
    omega (arith, within, size)

pub join-requires-in-Link : goal.join-requires-in-Link
join-requires-in-Link c =
    let may = c.requires in
    let within = place_within (rw c.in-Link.is at may.may.ports).1 in
    let size = may.joined.peers.size in
    let same = ap length c.join.ensures
    ∙ length-set c.args.self.now.peers.items (table_place c.in-Link.a) (Some c.in-Link.b) in
    omega (arith, within, size, same)

pub returns-in-Link : goal.returns-in-Link
returns-in-Link c = λ net joined may.
    let a = c.in-Link.a in
    let b = c.in-Link.b in
    let ports = rw c.in-Link.is at may.ports in
    let parts = rw c.in-Link.is at may.may in
    rw c.in-Link.is (joined_link joined ports.0 ports.1 parts.0 parts.1 parts.2
    (c.join-in-Link.ensures
    ∙ ap (λ (l : List (Option PortRef)). slice_set l (table_place b) (Some a)) c.join.ensures))

pub returns-in_default : goal.returns-in_default
returns-in_default c = λ net joined may.
    joined_other c.args.line.now c.in_default.not-Endpoint c.in_default.not-Switch
    c.in_default.not-Link joined

pub returns-in-Endpoint : goal.returns-in-Endpoint
returns-in-Endpoint c =
    if_ok_map c.add_node.result c.add_node.ensures (λ _ peers net joined may.
    joined_new c.in-Endpoint.is peers joined)
