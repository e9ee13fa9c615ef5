use Rattle.std.proofs.Common.{length, sym, ap, ◌∙◌, rules, tests}
use Rattle.std.proofs.lemmas.List.{length-map}
use Rattle.std.proofs.lemmas.Iterator.Consumers.{YieldsList-turn, YieldsList-end}
use Rattle.rio_cli.proofs.WordLaws.{lines-road}
use Rattle.rio_cli.proofs.RefusalLaws.{line-there, line-none, last-left, before-left}
use Rattle.rio_cli.proofs.refusal.line_at.Goals as goal

pub returns-then-left-le1 : goal.returns-then-left-le1
returns-then-left-le1 c =
    let all =
    lines-road c.args.bytes.now c.loop-text.yielded _ c.loop-text.yielded_by (search rules)
    (search rules) (search rules) (λ x r q k. search (rules, tests)) in
    let turn =
    YieldsList-turn all c.loop-text.yielded _ c.loop-text.yielded_by _ _ c.in-Some.text
    c.in-Some.is c.next.ensures.steps in
    let h = c.loop-text.invariant in
    line-there c.args.bytes.now c.args.line (length c.loop-text.yielded) c.in-Some.text.now
    (last-left c.args.line c.loop-text.left (length c.loop-text.yielded) h.counted h.some
    c.if-left-le1.true) turn.0 turn.1

pub returns : goal.returns
returns c =
    let all =
    lines-road c.args.bytes.now c.loop-text.yielded _ c.loop-text.yielded_by (search rules)
    (search rules) (search rules) (λ x r q k. search (rules, tests)) in
    let end =
    YieldsList-end all c.loop-text.yielded _ c.loop-text.yielded_by _ _ c.in-None.is
    c.next.ensures.steps in
    let h = c.loop-text.invariant in
    line-none c.args.bytes.now c.args.line (length c.loop-text.yielded)
    (ap length (sym end.0) ∙ length-map c.loop-text.yielded (λ t. t.now))
    (before-left c.args.line c.loop-text.left (length c.loop-text.yielded) h.counted h.some)
