use Rattle.std.proofs.Common.{◌≡◌, ◌+◌, ℕ, List, [], length, Err, refl, sym, ap, ◌∙◌, subst, rules}
use Rattle.std.proofs.lemmas.List.{append-nil}
use Rattle.trace_check.specs.declared.checking.CheckEnd.TheVariants as C
use Rattle.trace_check.specs.Lawful.{IsUnlawful}
use Rattle.trace_check.specs.SoFar.{AreRead}
use Rattle.trace_check.specs.Starting.{net_of}
use Rattle.trace_check.specs.Taken.{IsHitAt}
use Rattle.trace_check.specs.Told.{IsToldAt}
use Rattle.trace_check.proofs.StopLaws.{all_read, none_on}
use Rattle.trace_check.proofs.TakeLaws.{going_on, same_hit}
use Rattle.trace_check.proofs.ToldLaws.{form_told}
use Rattle.trace_check.proofs.checker.Checker.end.Goals as goal

pub returns-in_err-judge-clause-unlawful : goal.returns-in_err-judge-clause-unlawful
returns-in_err-judge-clause-unlawful c = λ hit told texts has.
    let same : c.in_err-judge.field-0.0 ≡ C.Unlawful hit = search rules in
    subst (λ (l : List (List ℕ)). IsHitAt c.args.self.now.set_up l hit) (append-nil texts)
    (c.in_err-judge.ensures.hit hit (ap (λ e. Err e) same) texts [] has refl)

pub returns-in_err-judge-clause-told : goal.returns-in_err-judge-clause-told
returns-in_err-judge-clause-told c = λ hit told texts has.
    let same : c.in_err-judge.field-0.0 ≡ C.Unlawful hit = search rules in
    subst (λ (l : List (List ℕ)).
    IsToldAt c.args.self.now.set_up l hit c.judge.new.self.expected) (append-nil texts)
    (c.in_err-judge.ensures.told hit (ap (λ e. Err e) same) texts [] has)

pub returns-then-has_ended-clause-lawful : goal.returns-then-has_ended-clause-lawful
returns-then-has_ended-clause-lawful c = λ texts has.
    let old = c.args.self.now in
    let reader = c.judge.new.self.reader in
    let ended = sym c.has_ended.ensures ∙ c.if-has_ended.true in
    rw c.steps.ensures (all_read old.ready.orderly
    (subst (λ e. AreRead old.set_up.known (net_of old.set_up) texts [] e reader.steps reader.state)
    ended (c.in_ok-judge.ensures.read texts [] has refl)))

pub returns-clause-unlawful : goal.returns-clause-unlawful
returns-clause-unlawful c = λ hit told texts has.
    let old = c.args.self.now in
    let reader = c.judge.new.self.reader in
    let going = sym c.has_ended.ensures ∙ c.if-has_ended.false in
    let same = same_hit c.bad_form.result _ 21 hit c.bad_form.ensures.hit told in
    let kept = c.judge.ensures.kept in (
      length texts,
      same.0 ∙ ap (λ n. n + 1) (kept.1 ∙ has.count),
      subst (λ n. IsUnlawful old.set_up.known (net_of old.set_up) texts (length texts) n)
          (sym same.1)
          (subst (λ (l : List (List ℕ)).
          IsUnlawful old.set_up.known (net_of old.set_up) l (length texts) 21) (append-nil texts)
          (none_on (going_on old.set_up reader going
          (c.in_ok-judge.ensures.read texts [] has refl)))),
    )

pub returns-clause-told : goal.returns-clause-told
returns-clause-told c = λ hit told texts has.
    let same = same_hit c.bad_form.result _ 21 hit c.bad_form.ensures.hit told in
    form_told c.args.self.now.set_up texts hit c.bad_form.new.self.expected (length texts)
    (same.0 ∙ ap (λ n. n + 1) (c.judge.ensures.kept.1 ∙ has.count)) same.1
    c.bad_form.ensures.untold
