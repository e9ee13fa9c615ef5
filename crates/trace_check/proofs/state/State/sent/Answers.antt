use Rattle.std.proofs.Common.{◌≡◌, ◌++◌, List, true, ap, ◌∙◌, subst, rules, tests}
use Rattle.rio_chars.specs.declared.chars.Char.{Char}
use Rattle.trace_lines.specs.Lines.{Sent, Signed}
use Rattle.trace_check.specs.Checks.{SendMayBe}
use Rattle.trace_check.proofs.AnswerLaws.{sent_stands}
use Rattle.trace_check.proofs.StateLaws.{wires_set}
use Rattle.trace_check.proofs.TableLaws.{table_read}
use Rattle.trace_check.proofs.state.State.sent.Goals as goal

pub returns : goal.returns
returns c = λ r short is is_in.
    let place = c.place_of-place.result in
    let wire = c.index_mut.result.now in
    let here = c.place_of-place.ensures in
    let chars = c.args.chars.items in
    let before = table_read is.wires is_in here c.index_mut.ensures.value in
    let same : c.as_slice-more.result.now ≡ chars = c.as_slice-more.ensures.value in
    let yes : c.may_send.result ≡ true = search (rules, tests) in
    let may = subst (λ (l : List Char). SendMayBe r.net (Signed (Sent c.args.port l)))
    same ((c.may_send.ensures r.nodes r.net is.network is_in).0 yes) in
    sent_stands may (record {
      links = is.links;
      network = is.network;
      wires = wires_set is.wires is_in here
          (c.in_ok-put.ensures ∙ ap (λ (l : List Char). l ++ c.as_slice-more.result.now) before
          ∙ ap (λ (l : List Char). r.wires c.args.port ++ l) same);
      runs = is.runs;
    })
