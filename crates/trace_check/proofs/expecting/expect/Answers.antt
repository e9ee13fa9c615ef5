use Rattle.std.proofs.Common.{◌+◌, ℕ, Err, List, sym, ap, ◌∙◌, subst}
use Rattle.fabric_script.specs.Known.{of_set_up}
use Rattle.fabric_script.specs.Scripts.{RefusedIn}
use Rattle.script_input.specs.Inputs.{Hit, texts_of}
use Rattle.trace_check.proofs.ExpectLaws.{if_some_map}
use Rattle.trace_check.proofs.Telling.{is_input, unlawful_for}
use Rattle.trace_check.proofs.NetworkLaws.{if_ok_map}
use Rattle.script_input.proofs.InputOnce.{not_input}
use Rattle.trace_check.proofs.expecting.expect.Goals as goal

pub returns-in-Ok-clause-told : goal.returns-in-Ok-clause-told
returns-in-Ok-clause-told c =
    let split = c.split_input-lines.ensures in
    if_ok_map c.expect_in.result c.expect_in.ensures.told (λ expected told.
    if_some_map expected told (λ e so. record {
      set_up = c.in-Ok.set_up.lines;
      known = c.in-Ok.set_up.known;
      texts = texts_of c.in-Some.trace.now;
      input = is_input split.set_up c.in-Ok.ensures.spelled split.behind c.in-Some.is;
      place = so.0;
      at = so.1 ∙ ap (λ n. n + 2 + so.0) split.lines;
      so = so.2;
    }))

pub returns-in-Ok-clause-some : goal.returns-in-Ok-clause-some
returns-in-Ok-clause-some c =
    let split = c.split_input-lines.ensures in
    let set_up = c.in-Ok.set_up in
    if_ok_map c.expect_in.result c.expect_in.ensures.some (λ expected some reason hit explained.
    some reason (
      hit.place,
      hit.at ∙ ap (λ n. n + 2 + hit.place) (sym split.lines),
      unlawful_for (is_input split.set_up c.in-Ok.ensures.spelled split.behind c.in-Some.is) hit,
    ) explained)

pub returns-in-Err-Refused-clause-some : goal.returns-in-Err-Refused-clause-some
returns-in-Err-Refused-clause-some c = λ reason hit explained.
    let end = c.in-Err-Refused in
    let refusal = end.field-0-0 in
    absurd (not_input c.args.bytes.now refusal.line refusal.reason hit.set_up hit.known hit.texts
    (Hit (subst (λ (b : List ℕ). RefusedIn of_set_up b refusal.line refusal.reason)
    c.split_input-lines.ensures.set_up (end.ensures.refused refusal (ap Err end.field-0-is))))
    hit.input)
