use Rattle.host_enumerate.proofs.Prelude.{◌≡◌, ◌-◌, length, Some, ap, sym, subst, ◌∙◌, IfOk-weaker, PortRef, entered, answered, after_access, IsAnswered}
use Rattle.host_enumerate.proofs.Opening.{answerable, at_host, same_end}
use Rattle.host_enumerate.proofs.asking.ask.Given as given
use Rattle.host_enumerate.proofs.asking.ask.Goals as goal

pub ask-requires-clause-answered : goal.ask-requires-clause-answered
ask-requires-clause-answered g c =
    let asked = c.requires.askable in
    let same = ap (λ l. length l) c.as_slice-ports.ensures in (
      asked.1,
      subst (λ n. IsAnswered (g.M.Maint.topology c.args.maint.now)
          (g.M.Maint.registers c.args.maint.now) 255 (n - 1) c.args.access asked.1)
          (sym same)
          (answerable c.args.path.now c.args.access
          (g.M.Maint.whole_is_proper c.args.maint.now c.requires.whole)
          asked.2 asked.3 (λ none. c.if-ports-eq0.false (same ∙ none))),
    )

pub returns-then-ports-eq0-clause-answer : goal.returns-then-ports-eq0-clause-answer
returns-then-ports-eq0-clause-answer g c at enters =
    c.own.ensures.answer
    ∙ ap (λ (p : PortRef). (answered (g.M.Maint.registers c.args.maint.now p.node) p.port
    c.args.access).answer)
    (at_host (g.M.Maint.topology c.args.maint.now) c.args.path.now at
    (sym (ap (λ l. length l) c.as_slice-ports.ensures) ∙ c.if-ports-eq0.true) enters)

pub returns-then-ports-eq0-clause-registers : goal.returns-then-ports-eq0-clause-registers
returns-then-ports-eq0-clause-registers g c at enters = λ other.
    ap (λ r. r other) c.own.ensures.registers
    ∙ ap (λ (p : PortRef). after_access (g.M.Maint.registers c.args.maint.now) p c.args.access
    other)
    (at_host (g.M.Maint.topology c.args.maint.now) c.args.path.now at
    (sym (ap (λ l. length l) c.as_slice-ports.ensures) ∙ c.if-ports-eq0.true) enters)

answered_at : (g : given.Over) (c : goal.After-ask g) (at : PortRef)
    → entered (g.M.Maint.topology c.args.maint.now) c.args.path.now ≡ Some at
    → IsAnswered (g.M.Maint.topology c.args.maint.now) (g.M.Maint.registers c.args.maint.now) 255
    (length c.as_slice-ports.result.now - 1) c.args.access at
answered_at g c at enters =
    let asked = c.requires.askable in
    let same = ap (λ l. length l) c.as_slice-ports.ensures in
    subst (λ p. IsAnswered (g.M.Maint.topology c.args.maint.now)
    (g.M.Maint.registers c.args.maint.now) 255 (length c.as_slice-ports.result.now - 1)
    c.args.access p)
    (same_end (g.M.Maint.topology c.args.maint.now) c.args.path.now asked.1 at asked.2.leads enters)
    (subst (λ n. IsAnswered (g.M.Maint.topology c.args.maint.now)
    (g.M.Maint.registers c.args.maint.now) 255 (n - 1) c.args.access asked.1)
    (sym same)
    (answerable c.args.path.now c.args.access
    (g.M.Maint.whole_is_proper c.args.maint.now c.requires.whole)
    asked.2 asked.3 (λ none. c.if-ports-eq0.false (same ∙ none))))

pub returns-clause-answer : goal.returns-clause-answer
returns-clause-answer g c = IfOk-weaker c.ask.result
    _ _
    (λ answer said at enters. said at (answered_at g c at enters))
    c.ask.ensures.answer

pub returns-clause-registers : goal.returns-clause-registers
returns-clause-registers g c = IfOk-weaker c.ask.result
    _ _
    (λ _ said at enters other. ap (λ r. r other) (said at (answered_at g c at enters)))
    c.ask.ensures.registers
