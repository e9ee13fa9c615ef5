use Rattle.std.proofs.Common.{◌≡◌, true, Some, sym, ap, ◌∙◌, subst, rules, tests}
use Rattle.link_wires.specs.Wires.{fits}
use Rattle.fabric_trace.specs.Fold.{changed, edit_of}
use Rattle.trace_check.specs.States.{IsEditIn}
use Rattle.trace_check.specs.Tables.{IsIn}
use Rattle.trace_check.proofs.AnswerLaws.{edit_made}
use Rattle.trace_check.proofs.StateLaws.{wires_set}
use Rattle.trace_check.proofs.TableLaws.{table_read}
use Rattle.trace_check.proofs.state.State.edit.Goals as goal

pub returns : goal.returns
returns c = λ r is within.
    let port = c.in-Some.port in
    let edit = c.in-Some.edit in
    let some : Some (port, edit) ≡ edit_of c.args.line.now =
    sym c.in-Some.is ∙ c.wire_edit.ensures.edit in
    let in_port : IsIn r.nodes port = subst (IsEditIn r.nodes) (sym some) within in
    let place = c.place_of-place.result in
    let here = c.place_of-place.ensures in
    let wires = c.args.self.now.wires.items in
    let wire = c.index_mut.result.now in
    let before = table_read is.wires
    in_port here c.index_mut.ensures.value in
    let yes : c.in_ok-edit.field-0 ≡ true = search (rules, tests) in
    let fit = subst (λ w. fits edit w ≡ true) before (sym c.in_ok-edit.ensures.fits ∙ yes) in
    edit_made port edit some fit (record {
      links = is.links;
      network = is.network;
      wires = wires_set is.wires in_port here
          (c.in_ok-edit.ensures.changed ∙ ap (changed edit) before);
      runs = is.runs;
    })
