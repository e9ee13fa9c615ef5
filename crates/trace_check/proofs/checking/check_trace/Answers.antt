use Rattle.std.proofs.Common.{◌≡◌, ◌+◌, ℕ, Err, List, length, option_map, sym, ap, ◌∙◌, subst, rules}
use Rattle.fabric_script.specs.declared.scripts.Refusal.{Refusal}
use Rattle.fabric_script.specs.Known.{of_set_up}
use Rattle.fabric_script.specs.Scripts.{RefusedIn}
use Rattle.trace_check.specs.declared.checking.CheckEnd.TheVariants.{Refused}
use Rattle.script_input.specs.Inputs.{Hit, IsRefusedInput, NotParted, texts_of}
use Rattle.script_input.proofs.InputLaws.{accepted_by, all_set_up}
use Rattle.trace_check.proofs.NetworkLaws.{if_ok_map}
use Rattle.trace_check.proofs.Telling.{is_input, never_unlawful, only_lawful, only_refused, only_unlawful, refusal_of}
use Rattle.trace_check.proofs.checking.check_trace.Goals as goal

-- ---- a trace is there

pub returns-in-Some-clause-lawful : goal.returns-in-Some-clause-lawful
returns-in-Some-clause-lawful c =
    let split = c.split_input-lines.ensures in
    if_ok_map c.check_lines.result c.check_lines.ensures.lawful (λ steps lawful. record {
      set_up = c.in_ok-set_up.set_up.lines;
      known = c.in_ok-set_up.set_up.known;
      texts = texts_of c.in-Some.trace.now;
      input = is_input split.set_up c.in_ok-set_up.ensures.spelled split.behind c.in-Some.is;
      lawful = lawful;
    })

pub returns-in-Some-clause-unlawful : goal.returns-in-Some-clause-unlawful
returns-in-Some-clause-unlawful c = λ unlawful is.
    let split = c.split_input-lines.ensures in
    let stops = c.check_lines.ensures.unlawful unlawful is in record {
      set_up = c.in_ok-set_up.set_up.lines;
      known = c.in_ok-set_up.set_up.known;
      texts = texts_of c.in-Some.trace.now;
      input = is_input split.set_up c.in_ok-set_up.ensures.spelled split.behind c.in-Some.is;
      place = stops.0;
      at = stops.1 ∙ ap (λ n. n + 2 + stops.0) split.lines;
      unlawful = stops.2;
    }

pub returns-in-Some-clause-lawful_only : goal.returns-in-Some-clause-lawful_only
returns-in-Some-clause-lawful_only c =
    only_lawful c.args.bytes.now c.check_lines.result (returns-in-Some-clause-lawful c)
    (returns-in-Some-clause-unlawful c)
    (λ refusal is. absurd (c.check_lines.ensures.no_refusal refusal is))

pub returns-in-Some-clause-unlawful_only : goal.returns-in-Some-clause-unlawful_only
returns-in-Some-clause-unlawful_only c =
    only_unlawful c.args.bytes.now c.check_lines.result (returns-in-Some-clause-lawful c)
    (returns-in-Some-clause-unlawful c)
    (λ refusal is. absurd (c.check_lines.ensures.no_refusal refusal is))

pub returns-in-Some-clause-refused_only : goal.returns-in-Some-clause-refused_only
returns-in-Some-clause-refused_only c =
    only_refused c.args.bytes.now c.check_lines.result (returns-in-Some-clause-lawful c)
    (returns-in-Some-clause-unlawful c)
    (λ refusal is. absurd (c.check_lines.ensures.no_refusal refusal is))

-- ---- the set-up lines are refused

pub returns-in_err-set_up-clause-refused : goal.returns-in_err-set_up-clause-refused
returns-in_err-set_up-clause-refused c = λ refusal is.
    let end = c.in_err-set_up.field-0.0 in
    let same = refusal_of end refusal (search rules) in
    Hit (subst (λ (b : List ℕ). RefusedIn of_set_up b refusal.line refusal.reason)
    c.split_input-lines.ensures.set_up
    (c.in_err-set_up.ensures.refused refusal (ap (λ e. Err e) same)))

pub returns-in_err-set_up-clause-unlawful : goal.returns-in_err-set_up-clause-unlawful
returns-in_err-set_up-clause-unlawful c = λ unlawful is.
    absurd (never_unlawful c.in_err-set_up.field-0.0 unlawful (search rules))

pub returns-in_err-set_up-clause-lawful_only : goal.returns-in_err-set_up-clause-lawful_only
returns-in_err-set_up-clause-lawful_only c =
    only_lawful c.args.bytes.now c.from_residual.result (search rules)
    (returns-in_err-set_up-clause-unlawful c) (returns-in_err-set_up-clause-refused c)

pub returns-in_err-set_up-clause-unlawful_only : goal.returns-in_err-set_up-clause-unlawful_only
returns-in_err-set_up-clause-unlawful_only c =
    only_unlawful c.args.bytes.now c.from_residual.result (search rules)
    (returns-in_err-set_up-clause-unlawful c) (returns-in_err-set_up-clause-refused c)

pub returns-in_err-set_up-clause-refused_only : goal.returns-in_err-set_up-clause-refused_only
returns-in_err-set_up-clause-refused_only c =
    only_refused c.args.bytes.now c.from_residual.result (search rules)
    (returns-in_err-set_up-clause-unlawful c) (returns-in_err-set_up-clause-refused c)

-- ---- no trace is there

pub returns-clause-refused : goal.returns-clause-refused
returns-clause-refused c = λ refusal is.
    let split = c.split_input-lines.ensures in
    let none = sym split.behind
    ∙ ap (λ o. option_map (λ trace. texts_of trace.now) o) c.in-None.is in
    let count : c.split_input-lines.result.2 ≡ length (texts_of c.args.bytes.now)
    = split.lines ∙ ap length (all_set_up (texts_of c.args.bytes.now) none) in
    let hit : Refusal = record { line = c.split_input-lines.result.2 + 1; reason = 15 } in
    let same : hit ≡ refusal = cc (c.unparted.ensures, is) in
    subst (λ r. IsRefusedInput c.args.bytes.now r.line r.reason) same
    (subst (λ n. IsRefusedInput c.args.bytes.now (n + 1) 15) (sym count)
    (NotParted (accepted_by c.args.bytes.now c.split_input-lines.result.0.now
    c.in_ok-set_up.set_up.lines c.in_ok-set_up.set_up.known split.set_up
    c.in_ok-set_up.ensures.spelled) none))

pub returns-clause-lawful_only : goal.returns-clause-lawful_only
returns-clause-lawful_only c =
    only_lawful c.args.bytes.now (Err (Refused c.unparted.result)) tt (λ unlawful is. absurd cc)
    (returns-clause-refused c)

pub returns-clause-unlawful_only : goal.returns-clause-unlawful_only
returns-clause-unlawful_only c =
    only_unlawful c.args.bytes.now (Err (Refused c.unparted.result)) tt (λ unlawful is. absurd cc)
    (returns-clause-refused c)

pub returns-clause-refused_only : goal.returns-clause-refused_only
returns-clause-refused_only c =
    only_refused c.args.bytes.now (Err (Refused c.unparted.result)) tt (λ unlawful is. absurd cc)
    (returns-clause-refused c)
