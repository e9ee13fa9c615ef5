use Rattle.std.proofs.Common.{sym, ◌∙◌, ap, subst}
use Rattle.link_buffers.specs.Priorities.{Covers}
use Rattle.link_buffers.proofs.PriorityLaws.{Covers-highest}
use Rattle.link_model.specs.Outstanding.{Outstanding, with_next}
use Rattle.link_sender.proofs.out_ok.OutOk.turn.Goals as goal

pub returns-clause-covered : goal.returns-clause-covered
returns-clause-covered c =
    let w = c.args.self in
    let prio = c.in-Some.next.prio in
    let is = c.push.ensures ∙ ap (λ (v : Outstanding). with_next v prio) c.self.view_is in
    subst (λ (v : Outstanding). Covers v.prios c.args.store.now) (sym is)
    (Covers-highest w.prios prio c.args.store.now c.requires (sym c.in-Some.ensures.waiting))
