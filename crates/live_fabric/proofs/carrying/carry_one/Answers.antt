use Rattle.std.proofs.Common.{◌∷◌, [], sym, subst}
use Rattle.live_fabric.specs.Course.{EventsDone}
use Rattle.live_fabric.proofs.AnsweringLaws.{on_err}
use Rattle.live_fabric.proofs.CourseLaws.{one_done, one_breaks}
use Rattle.live_fabric.proofs.carrying.carry_one.Goals as goal

pub returns-in_err-told-clause-breaks : goal.returns-in_err-told-clause-breaks
returns-in_err-told-clause-breaks g c =
    on_err c.from_residual.result
    (λ taken holds may. one_breaks c.args.telling.quiet taken c.args.telling.number
    c.args.event.now c.args.outbox.now c.carry_out.new.outbox c.args.live.now holds
    (c.in_err-told.ensures.short taken holds may))

pub returns-clause-done : goal.returns-clause-done
returns-clause-done g c = λ taken holds may.
    let telling = c.args.telling in
    let now = c.carry_out.new.live in
    subst (λ after. EventsDone telling.quiet taken telling.number (c.args.event.now ∷ [])
    c.args.outbox.now c.carry_out.new.outbox now after) (sym c.after_told.ensures)
    (one_done telling.quiet taken telling.number c.args.event.now c.args.outbox.now
    c.carry_out.new.outbox c.args.live.now now c.in_ok-told.told holds
    (c.in_ok-told.ensures.happens taken holds may))
