use Rattle.std.proofs.Common.{refl, sym, ap, subst}
use Rattle.rio_packets.specs.LinkForm.{LinkForm}
use Rattle.fabric_script.specs.declared.lines.Line.{Line}
use Rattle.fabric_trace.specs.Events.{IsInRange, IsThere}
use Rattle.fabric_trace.specs.Fold.{edited_by, seen}
use Rattle.fabric_model.specs.Network.{sender_id}
use Rattle.fabric_ports.specs.Events.{body_in}
use Rattle.fabric_ports.specs.declared.answers.Happened.TheVariants.{Other}
use Rattle.fabric_trace.proofs.Traces.Existing.{ready_on}
use Rattle.fabric_ports.proofs.BlockLaws.{begun_same}
use Rattle.fabric_ports.proofs.EditLaws.{edit_of_line}
use Rattle.fabric_ports.proofs.EventLaws.{end_of, ids_are, taken_line, sent_block, evented, ran_evented, answered_so, is_linked, asks_link, asks_some, edits_link, action_answers, edit_answers, edit_unmade}
use Rattle.fabric_ports.proofs.RanLaws.{err_is}
use Rattle.fabric_ports.proofs.fabric.Fabric.event.Goals as goal

pub act-requires-clause-linked : goal.act-requires-clause-linked
act-requires-clause-linked g c =
    let may = c.requires.may in
    let net = (seen may.from may.lines).network in
    is_linked c.in-AtLink.port may.stands (asks_link net c.in-AtLink.port c.in-AtLink.action
    (subst (IsThere net) c.in-AtLink.ensures may.happens.there))

pub act-requires-clause-some : goal.act-requires-clause-some
act-requires-clause-some g c =
    asks_some c.in-AtLink.port c.in-AtLink.action
    (subst IsInRange c.in-AtLink.ensures c.requires.may.happens.range)

pub act-requires-clause-named : goal.act-requires-clause-named
act-requires-clause-named g c =
    rw c.write_begun.ensures.names c.requires.may.names_suffice

pub edit-requires : goal.edit-requires
edit-requires g c =
    let may = c.requires.may in
    let net = (seen may.from may.lines).network in
    is_linked c.in-Edit.port may.stands (edits_link net c.in-Edit.port c.in-Edit.edit
    (subst (IsThere net) c.in-Edit.ensures may.happens.there))

pub returns-in_ok-act-in-AtLink-clause-done : goal.returns-in_ok-act-in-AtLink-clause-done
returns-in_ok-act-in-AtLink-clause-done g c = λ from lines stands.
    answered_so Other c.in-AtLink.ensures (action_answers c.in-AtLink.port c.in-AtLink.action)
    (ran_evented c.in-AtLink.ensures
    (begun_same (seen from lines) c.in-AtLink.port c.in-AtLink.action) stands
    c.write_begun.ensures (c.in_ok-act-in-AtLink.ensures from))

pub returns-in_err-act-in-AtLink-clause-ended : goal.returns-in_err-act-in-AtLink-clause-ended
returns-in_err-act-in-AtLink-clause-ended g c =
    rw (err_is c.from_residual.result c.in_err-act-in-AtLink.field-0.0 c.from_residual.ensures.1)
    (λ from lines stands. ran_evented c.in-AtLink.ensures
    (begun_same (seen from lines) c.in-AtLink.port c.in-AtLink.action) stands
    c.write_begun.ensures (c.in_err-act-in-AtLink.ensures from))

pub returns-in_ok-run-in-Run-clause-done : goal.returns-in_ok-run-in-Run-clause-done
returns-in_ok-run-in-Run-clause-done g c = λ from lines stands.
    answered_so Other c.in-Run.ensures (λ block. refl)
    (ran_evented c.in-Run.ensures refl stands c.write_begun.ensures
    (c.in_ok-run-in-Run.ensures from))

pub returns-in_err-run-in-Run-clause-ended : goal.returns-in_err-run-in-Run-clause-ended
returns-in_err-run-in-Run-clause-ended g c =
    rw (err_is c.from_residual-in_err-run-in-Run.result c.in_err-run-in-Run.field-0.0
    c.from_residual-in_err-run-in-Run.ensures.1)
    (λ from lines stands. ran_evented c.in-Run.ensures refl stands c.write_begun.ensures
    (c.in_err-run-in-Run.ensures from))

pub returns-in_ok-edit-in-Edit-clause-done : goal.returns-in_ok-edit-in-Edit-clause-done
returns-in_ok-edit-in-Edit-clause-done g c = λ from lines stands.
    let port = c.in-Edit.port in
    let edit = c.in-Edit.edit in
    evented Other c.in-Edit.ensures (ap (edited_by (seen from lines)) (edit_of_line port edit))
    stands c.write_begun.ensures (c.in_ok-edit-in-Edit.ensures.done from lines stands)
    (λ block own. (own, edit_answers port edit block))

pub returns-in_err-edit-in-Edit-clause-ended : goal.returns-in_err-edit-in-Edit-clause-ended
returns-in_err-edit-in-Edit-clause-ended g c =
    rw (err_is c.from_residual-in_err-edit-in-Edit.result c.in_err-edit-in-Edit.field-0.0
    c.from_residual-in_err-edit-in-Edit.ensures.1)
    (λ from lines stands. edit_unmade c.args.line.now c.in-Edit.port c.in-Edit.edit
    c.edit.new.writer from lines c.in_err-edit-in-Edit.field-0.0
    c.in-Edit.ensures c.write_begun.ensures c.in_err-edit-in-Edit.ensures.ended)

pub returns-in-Move-clause-done : goal.returns-in-Move-clause-done
returns-in-Move-clause-done g c = λ from lines stands.
    evented Other c.in-Move.ensures refl stands c.write_begun.ensures
    (c.step_or_none.ensures (seen from lines) stands.shows stands.sent
    (ready_on stands.ready stands.made).by_priority) (λ block own. (own, refl))

pub returns-in-Collect-clause-done : goal.returns-in-Collect-clause-done
returns-in-Collect-clause-done g c = λ from lines stands.
    evented c.collect.result c.in-Collect.ensures refl stands c.write_begun.ensures
    (c.collect.ensures (seen from lines) stands.shows stands.sent
    (ready_on stands.ready stands.made).by_priority) (λ block own. own)

pub returns-in-Give-clause-done : goal.returns-in-Give-clause-done
returns-in-Give-clause-done g c = λ from lines stands.
    let may = c.requires.may in
    let s = seen from lines in
    let given = c.in-Give.given in
    let is = c.in-Give.ensures.0 in
    let takes_it = taken_line c.args.line.now given is in
    let end = end_of given.node may.stands.shows
    (takes_it.there (seen may.from may.lines).network may.happens.there) in
    let ids = ids_are c.from.result c.index.result.now stands.shows
    end.device c.from.ensures c.index.ensures in
    evented c.send.result refl (ap (edited_by s) takes_it.edits) stands c.write_begun.ensures
    (c.send.ensures s stands.shows stands.sent)
    (sent_block s _ c.packet_of-packet.result c.send.result takes_it (end.known s stands.shows) ids
    (subst (λ (l : Line). LinkForm (body_in l (sender_id c.index.result.now))
    c.packet_of-packet.result) (sym is) c.packet_of-packet.ensures))
