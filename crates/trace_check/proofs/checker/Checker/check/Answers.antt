use Rattle.std.proofs.Common.{sym, ◌∙◌, subst, arith}
use Rattle.trace_lines.specs.Reads.{line_read}
use Rattle.trace_check.specs.States.{IsReachedState}
use Rattle.trace_check.specs.Taken.{LineIsHit}
use Rattle.trace_check.specs.Told.{LineIsTold}
use Rattle.trace_check.proofs.ExpectLaws.{if_some_map}
use Rattle.trace_check.proofs.TakeLaws.{one_hit, one_read, same_hit}
use Rattle.trace_check.proofs.ToldLaws.{one_told}
use Rattle.trace_check.proofs.checker.Checker.check.Goals as goal

pub check-requires-clause-few : goal.check-requires-clause-few
check-requires-clause-few c =
    let few = c.requires.few in
    let number = c.lines-number.ensures in
    let range = c.lines-number.type_inv in
    omega (arith, few, number, range)

pub returns-in-Some-clause-hit : goal.returns-in-Some-clause-hit
returns-in-Some-clause-hit c = λ hit told.
    let old = c.args.self.now in
    let same = same_hit c.hit_at.result _ c.number.result hit c.hit_at.ensures told in (
      same.0 ∙ c.lines-number.ensures,
      subst (LineIsHit old.set_up old.reader (line_read c.args.line) c.args.short)
          (sym (same.1 ∙ c.number.ensures))
          (one_hit old.set_up old.reader (line_read c.args.line) c.args.short old.ready.orderly
          c.requires.going c.in-Some.fault (rw c.in-Some.is at c.in_ok-fault.ensures.checked)),
    )

pub returns-in-Some-clause-told : goal.returns-in-Some-clause-told
returns-in-Some-clause-told c = λ hit told.
    let old = c.args.self.now in
    let line = line_read c.args.line in
    let same = same_hit c.hit_at.result _ c.number.result hit c.hit_at.ensures told in
    subst (λ n. LineIsTold old.set_up old.reader line n c.expected-expected.result)
    (sym (same.1 ∙ c.number.ensures))
    (one_told old.set_up old.reader line c.args.short c.expected-expected.result c.in-Some.fault
    c.requires.going (rw c.in-Some.is at c.in_ok-fault.ensures.checked)
    (if_some_map c.expected-expected.result c.expected-expected.ensures.told (λ e tells r is.
    tells r (subst (IsReachedState r) (sym c.state.ensures) is)))
    (λ r short fault is. c.expected-expected.ensures.some r short fault
    (subst (IsReachedState r) (sym c.state.ensures) is)))

pub returns-in-None-clause-read : goal.returns-in-None-clause-read
returns-in-None-clause-read c =
    let old = c.args.self.now in
    let checked = c.in_ok-fault.ensures in
    one_read old.set_up old.reader (line_read c.args.line) c.args.short old.ready.orderly
    c.requires.going c.check.new.self (rw c.in-None.is at checked.checked) checked.ended
    checked.steps
