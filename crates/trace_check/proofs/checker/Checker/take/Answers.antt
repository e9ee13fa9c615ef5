use Rattle.std.proofs.Common.{◌≡◌, ◌+◌, ◌++◌, ℕ, List, [], ◌∷◌, length, Err, inl, inr, sym, ap, ◌∙◌, subst, append_assoc, rules}
use Rattle.trace_check.specs.declared.checking.CheckEnd.TheVariants as C
use Rattle.trace_lines.specs.Words.{SpellsLine}
use Rattle.trace_check.specs.Taken.{AreReadTo, AreTaken, IsHitAt, IsHitNext}
use Rattle.trace_check.specs.Told.{IsToldAt, IsToldNext}
use Rattle.trace_check.proofs.NetworkLaws.{if_ok_map}
use Rattle.trace_check.proofs.TakeLaws.{form_hit, hit_more, read_to, same_hit, taken_more}
use Rattle.trace_check.proofs.ToldLaws.{form_told, told_more}
use Rattle.trace_check.proofs.checker.Checker.take.Goals as goal

pub returns-in_err-judge-clause-unlawful : goal.returns-in_err-judge-clause-unlawful
returns-in_err-judge-clause-unlawful c = λ hit told texts has rest.
    let text = c.args.text.now in
    let same : c.in_err-judge.field-0.0 ≡ C.Unlawful hit = search rules in
    subst (λ (l : List (List ℕ)). IsHitAt c.args.self.now.set_up l hit)
    (sym (append_assoc texts (text ∷ []) rest))
    (c.in_err-judge.ensures.hit hit (ap (λ e. Err e) same) texts (text ∷ rest) has
    (c.says_short.ensures rest))

pub returns-then-has_ended-clause-unlawful : goal.returns-then-has_ended-clause-unlawful
returns-then-has_ended-clause-unlawful c = λ hit told texts has.
    let old = c.args.self.now in
    let text = c.args.text.now in
    let reader = c.judge.new.self.reader in
    let same = same_hit c.bad_form.result _ 21 hit c.bad_form.ensures.hit told in
    let kept = c.judge.ensures.kept in
    let ended = sym c.has_ended.ensures ∙ c.if-has_ended.true in
    hit_more old.set_up text texts hit _ (kept.1 ∙ has.count) same.0
    (subst (IsHitNext old.set_up texts text) (sym same.1)
    (form_hit old.set_up reader text texts old.ready.orderly
    (read_to old reader c.says_short.result text texts c.in_ok-judge.ensures.read
    c.says_short.ensures has) (inl ended)))

pub returns-in-Ok-clause-lawful : goal.returns-in-Ok-clause-lawful
returns-in-Ok-clause-lawful c =
    if_ok_map c.take_line.result c.take_line.ensures.taken (λ _ taken texts has.
    let old = c.args.self.now in
    let new = c.take_line.new.self in
    let text = c.args.text.now in
    let reader = c.judge.new.self.reader in
    let kept = c.judge.ensures.kept in
    let then = c.take_line.ensures.kept in
    let are = read_to old reader c.says_short.result text texts c.in_ok-judge.ensures.read
    c.says_short.ensures has in
    taken_more old new text texts (then.0 ∙ kept.0) (then.1 ∙ ap (λ n. n + 1) kept.1)
    has
    (subst (λ s. AreTaken s new.reader (texts ++ text ∷ []) new.waiting) kept.0
    (taken texts text c.in-Ok.ensures.line
    (subst (λ s. AreReadTo s reader texts text) (sym kept.0) are))))

pub returns-in-Ok-clause-unlawful : goal.returns-in-Ok-clause-unlawful
returns-in-Ok-clause-unlawful c = λ hit told texts has.
    let old = c.args.self.now in
    let text = c.args.text.now in
    let reader = c.judge.new.self.reader in
    let kept = c.judge.ensures.kept in
    let hits = c.take_line.ensures.hit hit told in
    let are = read_to old reader c.says_short.result text texts c.in_ok-judge.ensures.read
    c.says_short.ensures has in
    hit_more old.set_up text texts hit _ (kept.1 ∙ has.count) hits.0
    (subst (λ s. IsHitNext s texts text hit.reason) kept.0
    (hits.1 texts text c.in-Ok.ensures.line
    (subst (λ s. AreReadTo s reader texts text) (sym kept.0) are)))

pub returns-in-Err-NoForm-clause-unlawful : goal.returns-in-Err-NoForm-clause-unlawful
returns-in-Err-NoForm-clause-unlawful c = λ hit told texts has.
    let old = c.args.self.now in
    let text = c.args.text.now in
    let reader = c.judge.new.self.reader in
    let same = same_hit c.bad_form-in-Err-NoForm.result _ 21 hit
    c.bad_form-in-Err-NoForm.ensures.hit told in
    let kept = c.judge.ensures.kept in
    hit_more old.set_up text texts hit _ (kept.1 ∙ has.count) same.0
    (subst (IsHitNext old.set_up texts text) (sym same.1)
    (form_hit old.set_up reader text texts old.ready.orderly
    (read_to old reader c.says_short.result text texts c.in_ok-judge.ensures.read
    c.says_short.ensures has) (inr (λ line spells. c.in-Err-NoForm.ensures.no_form
    (ap (λ e. Err e) c.in-Err-NoForm.field-0-is) line
    (subst (λ s. SpellsLine s.known text line) (sym kept.0) spells)))))

-- ---- what would have been lawful

pub returns-in_err-judge-clause-told : goal.returns-in_err-judge-clause-told
returns-in_err-judge-clause-told c = λ hit told texts has rest.
    let text = c.args.text.now in
    let same : c.in_err-judge.field-0.0 ≡ C.Unlawful hit = search rules in
    subst (λ (l : List (List ℕ)).
    IsToldAt c.args.self.now.set_up l hit c.judge.new.self.expected)
    (sym (append_assoc texts (text ∷ []) rest))
    (c.in_err-judge.ensures.told hit (ap (λ e. Err e) same) texts (text ∷ rest) has)

pub returns-then-has_ended-clause-told : goal.returns-then-has_ended-clause-told
returns-then-has_ended-clause-told c = λ hit told texts has rest.
    let same = same_hit c.bad_form.result _ 21 hit c.bad_form.ensures.hit told in
    form_told c.args.self.now.set_up ((texts ++ c.args.text.now ∷ []) ++ rest) hit
    c.bad_form.new.self.expected (length texts)
    (same.0 ∙ ap (λ n. n + 1) (c.judge.ensures.kept.1 ∙ has.count)) same.1
    c.bad_form.ensures.untold

pub returns-in-Ok-clause-told : goal.returns-in-Ok-clause-told
returns-in-Ok-clause-told c = λ hit told texts has.
    let old = c.args.self.now in
    let text = c.args.text.now in
    let new = c.take_line.new.self in
    let reader = c.judge.new.self.reader in
    let kept = c.judge.ensures.kept in
    let are = read_to old reader c.says_short.result text texts c.in_ok-judge.ensures.read
    c.says_short.ensures has in
    told_more old.set_up text texts hit new.expected _ (kept.1 ∙ has.count)
    (c.take_line.ensures.hit hit told).0
    (subst (λ s. IsToldNext s texts text hit.reason new.expected) kept.0
    (c.take_line.ensures.told hit told texts text c.in-Ok.ensures.line
    (subst (λ s. AreReadTo s reader texts text) (sym kept.0) are)))

pub returns-in-Err-NoForm-clause-told : goal.returns-in-Err-NoForm-clause-told
returns-in-Err-NoForm-clause-told c = λ hit told texts has rest.
    let form = c.bad_form-in-Err-NoForm in
    let same = same_hit form.result _ 21 hit form.ensures.hit told in
    form_told c.args.self.now.set_up ((texts ++ c.args.text.now ∷ []) ++ rest) hit
    form.new.self.expected (length texts)
    (same.0 ∙ ap (λ n. n + 1) (c.judge.ensures.kept.1 ∙ has.count)) same.1
    form.ensures.untold
