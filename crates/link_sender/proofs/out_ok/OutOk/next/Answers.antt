use Rattle.std.proofs.Common.{◌<◌, ◌≤◌, Bool, cond, length, Some, None, sym, ◌∙◌, ap, arith}
use Rattle.link_buffers.specs.Priorities.{lists_without, highest}
use Rattle.link_model.specs.Output.{credited, startable}
use Rattle.link_model.specs.Outstanding.{Outstanding}
use Rattle.link_model.specs.Window.{window}
use Rattle.link_model.proofs.WindowFacts.{window_is, startable-full, startable-open}
use Rattle.link_sender.proofs.out_ok.OutOk.next.Goals as goal

pub returns-then-len-ge-WINDOW-clause-prio : goal.returns-then-len-ge-WINDOW-clause-prio
returns-then-len-ge-WINDOW-clause-prio c =
    let long = ap (λ w. length w.prios) c.self.view_is in
    let full : window ≤ length c.args.self.now.prios = omega (arith, window_is) in
    sym (startable-full c.args.self.now _ full)

pub returns-clause-few : goal.returns-clause-few
returns-clause-few c =
    let long = ap (λ w. length w.prios) c.self.view_is in
    omega (arith, window_is)

pub returns-clause-prio : goal.returns-clause-prio
returns-clause-prio c =
    let w = c.self.inside.outstanding in
    let prio = c.in_ok-next.next.prio in
    let few : length w.prios < window = omega (arith, window_is) in
    let found =
    ap (λ prios. highest (lists_without prios c.args.store.now)) (sym c.prios.ensures.value)
    ∙ sym c.in_ok-next.ensures.highest in
    let credit = ap (λ (b : Bool). cond b (Some prio) None) c.if-not-has_credit.ensures in
    sym (startable-open w _ few ∙ ap (credited w) found ∙ sym credit)
    ∙ ap (λ (v : Outstanding). startable v (highest (lists_without v.prios c.args.store.now)))
    c.self.view_is
