use Rattle.std.proofs.Common.{◌≡◌, sym, ◌∙◌, subst, rules, tests}
use Rattle.trace_lines.specs.Reads.{line_read}
use Rattle.trace_check.specs.States.{IsLineIn, IsReachedState, SparesAt}
use Rattle.trace_check.proofs.ExpectLaws.{if_some_map}
use Rattle.trace_check.proofs.LineIn.{line_in}
use Rattle.trace_check.proofs.Exclusive.{same_line}
use Rattle.trace_check.proofs.reader.Reader.expected.Goals as goal

pub returns-in-Ok-clause-told : goal.returns-in-Ok-clause-told
returns-in-Ok-clause-told c =
    let known = c.args.set_up.now.known in
    let line = line_read c.in-Ok.line in
    let spelled = c.in-Ok.ensures.line in
    if_some_map c.expected.result c.expected.ensures.told (λ e tells. (
      search (rules, tests),
      sym c.has_ended.ensures ∙ c.if-has_ended.false,
      λ r is nodes. (
        line,
        spelled,
        tells r (subst (IsReachedState r) (sym c.state.ensures) is)
            (subst (λ n. IsLineIn n line) (sym nodes) (line_in known line spelled.fits)),
      ),
    ))

pub returns-in-Ok-clause-some : goal.returns-in-Ok-clause-some
returns-in-Ok-clause-some c = λ asked goes r is nodes told.
    let known = c.args.set_up.now.known in
    let line = line_read c.in-Ok.line in
    let spelled = c.in-Ok.ensures.line in
    let same : told.line ≡ line = same_line
    c.requires.orderly told.spelled spelled in
    c.expected.ensures.some r told.short told.fault
    (subst (IsReachedState r) (sym c.state.ensures) is)
    (subst (λ n. IsLineIn n line) (sym nodes) (line_in known line spelled.fits)) told.explained
    (λ stands. told.hits (subst (λ l. SparesAt r l told.short told.fault) (sym same) stands))
