use Rattle.std.proofs.Common.{◌/◌, ◌%◌, true≢false, sym, ap, ◌∙◌, arith}
use Rattle.code_groups.specs.Groups.{disparity_after}
use Rattle.code_groups.proofs.TableLaws.{sent_zero, sent_has, sent_parts, level-lt, level-same}
use Rattle.code_groups.proofs.codec.encode.Goals as goal

pub disparity_of-requires : goal.disparity_of-requires
disparity_of-requires c =
    let is = c.entry_of-entry.ensures in
    let has = sent_has c.args.before c.args.c (λ zero. c.if-entry-eq0.false (is ∙ zero)) in
    let parts = sent_parts c.args.before c.args.c has in
    let few = level-lt (disparity_after c.args.before c.args.c) in
    let same = ap (λ n. n / 1024) is ∙ parts.1 in
    omega (arith, same, few)

pub returns-then-entry-eq0-clause-some : goal.returns-then-entry-eq0-clause-some
returns-then-entry-eq0-clause-some c =
    let none =
    sent_zero c.args.before c.args.c (sym c.entry_of-entry.ensures ∙ c.if-entry-eq0.true) in
    ((λ e. absurd (true≢false (sym e))), (λ h. sym none ∙ h))

pub returns-else-entry-eq0-clause-group : goal.returns-else-entry-eq0-clause-group
returns-else-entry-eq0-clause-group c =
    let is = c.entry_of-entry.ensures in
    let has = sent_has c.args.before c.args.c (λ zero. c.if-entry-eq0.false (is ∙ zero)) in
    ap (λ n. n % 1024) is ∙ (sent_parts c.args.before c.args.c has).0

pub returns-else-entry-eq0-clause-disparity : goal.returns-else-entry-eq0-clause-disparity
returns-else-entry-eq0-clause-disparity c =
    let is = c.entry_of-entry.ensures in
    let has = sent_has c.args.before c.args.c (λ zero. c.if-entry-eq0.false (is ∙ zero)) in
    level-same c.disparity_of.result (disparity_after c.args.before c.args.c) _
    c.disparity_of.ensures
    (ap (λ n. n / 1024) is ∙ (sent_parts c.args.before c.args.c has).1)
