use Rattle.std.proofs.Common.{false, sym, ◌∙◌}
use Rattle.live_fabric.specs.Lines.{Taken}
use Rattle.live_fabric.specs.Holding.{LiveHolds, MayBeCarried}
use Rattle.live_fabric.specs.Answers.{Happens, HappensWhole}
use Rattle.live_fabric.proofs.AnsweringLaws.{on_each}
use Rattle.live_fabric.proofs.QuietLaws.{happens_whole}
use Rattle.live_fabric.proofs.quiet.happen_whole.Goals as goal

pub returns-clause-happens : goal.returns-clause-happens
returns-clause-happens g c =
    let live = c.args.live.now in
    let now = c.happen-told.new.live in
    let event = c.args.event.now in
    let out = c.args.outbox.now in
    let mid = c.happen-told.new.outbox in
    let last = c.flush.new.self in
    on_each
    (λ told. (taken : Taken) → LiveHolds live taken → MayBeCarried taken event
    → Happens false taken c.args.number event out mid now told)
    (λ told. (taken : Taken) → LiveHolds live taken → MayBeCarried taken event
    → HappensWhole taken c.args.number event out.written last.written now told)
    c.happen-told.result
    (λ told was taken holds may. happens_whole taken c.args.number event now told out
    mid last c.requires.empty (was taken holds may) c.flush.ensures.written
    (sym (sym c.if-failed.false ∙ c.failed.ensures)) c.flush.ensures.empty)
    c.happen-told.ensures.happens
