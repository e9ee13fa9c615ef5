use Rattle.std.proofs.Common.{◌∷◌, [], sym, ap, ◌∙◌, subst}
use Rattle.fabric_script.specs.declared.lines.Line.TheVariants.{Collect}
use Rattle.live_fabric.specs.AskCourse.{as_reply, RoundDone}
use Rattle.live_fabric.proofs.AnsweringLaws.{on_err}
use Rattle.live_fabric.proofs.AskLaws.{collected_done, collected_stops}
use Rattle.live_fabric.proofs.CourseLaws.{one_breaks}
use Rattle.live_fabric.proofs.asking.collect_reply.Goals as goal

pub returns-in_err-happened-clause-breaks : goal.returns-in_err-happened-clause-breaks
returns-in_err-happened-clause-breaks g c =
    on_err c.from_residual.result
    (λ taken holds may. one_breaks c.args.telling.quiet taken c.args.telling.number
    (Collect c.args.ask.host) c.args.outbox.now c.carry_out.new.outbox c.args.live.now holds
    (c.in_err-happened.ensures.short taken holds may))

pub returns-in-Did-clause-done : goal.returns-in-Did-clause-done
returns-in-Did-clause-done g c = λ taken holds may.
    let telling = c.args.telling in
    let ask = c.args.ask in
    let out = c.args.outbox.now in
    let next = c.carry_out.new.outbox in
    let now = c.carry_out.new.live in
    subst (λ reply. RoundDone telling.quiet taken telling.number ask.tid (Collect ask.host ∷ [])
    out next now reply) (sym (c.as_reply.ensures ∙ ap as_reply c.reply_by.ensures))
    (collected_done telling.quiet taken telling.number ask.tid ask.host out next c.args.live.now
    now holds c.in-Did.happened
    (rw c.in-Did.is at (c.in_ok-happened.ensures.happens taken holds may)))

pub returns-clause-done : goal.returns-clause-done
returns-clause-done g c = λ taken holds may.
    let telling = c.args.telling in
    collected_stops telling.quiet taken telling.number c.args.ask.tid c.args.ask.host
    c.args.outbox.now c.carry_out.new.outbox c.args.live.now c.carry_out.new.live holds
    (rw c.in-Undetected.is at (c.in_ok-happened.ensures.happens taken holds may))
