use Rattle.std.proofs.Common.{map}
use Rattle.fabric_script.specs.declared.lines.Line.TheVariants.{Collect, Run}
use Rattle.live_fabric.specs.Course.{EventsDone, EventsBreak}
use Rattle.live_fabric.specs.Holding.{LiveHolds, MayCollect}
use Rattle.live_fabric.specs.Lines.{Taken}
use Rattle.live_fabric.specs.Served.{round_events}
use Rattle.live_fabric.proofs.AnsweringLaws.{on_err, on_each, on_each_err}
use Rattle.live_fabric.proofs.CourseLaws.{course_begins, course_goes, course_stops, course_breaks, course_done, course_fails}
use Rattle.live_fabric.proofs.TakenLaws.{may_run, may_collect_still}
use Rattle.live_fabric.proofs.carrying.carry_round.Goals as goal

pub returns-in_err-carry_out-clause-breaks : goal.returns-in_err-carry_out-clause-breaks
returns-in_err-carry_out-clause-breaks g c =
    on_err c.from_residual.result
    (λ taken holds may.
    let telling = c.args.telling in
    let nodes = c.args.nodes.now in
    course_breaks telling.quiet taken telling.number (round_events nodes) c.args.outbox.now (Run 1)
    (map Collect nodes) c.args.outbox.now c.carry_out.new.outbox c.args.live.now
    (course_begins telling.quiet taken telling.number (round_events nodes) c.args.outbox.now
    c.args.live.now holds)
    (c.in_err-carry_out.ensures.short taken holds (may_run taken)))

pub returns-in-Did-clause-done : goal.returns-in-Did-clause-done
returns-in-Did-clause-done g c =
    let telling = c.args.telling in
    let nodes = c.args.nodes.now in
    let out = c.args.outbox.now in
    let mid = c.carry_out.new.outbox in
    let next = c.collect_all.new.outbox in
    let now = c.collect_all.new.live in
    on_each
    (λ after. (taken : Taken) → LiveHolds c.carry_out.new.live taken → MayCollect taken nodes
    → EventsDone telling.quiet taken telling.number (map Collect nodes) mid next now after)
    (λ after. (taken : Taken) → LiveHolds c.args.live.now taken → MayCollect taken nodes
    → EventsDone telling.quiet taken telling.number (round_events nodes) out next now after)
    c.collect_all.result
    (λ after done taken holds may.
    let happens =
    rw c.in-Did.is at (c.in_ok-carry_out.ensures.happens taken holds (may_run taken)) in
    let course =
    course_goes telling.quiet taken telling.number (round_events nodes) out (Run 1)
    (map Collect nodes) out mid c.args.live.now c.carry_out.new.live c.in-Did.field-0
    (course_begins telling.quiet taken telling.number (round_events nodes) out c.args.live.now
    holds) happens in
    course_done telling.quiet taken telling.number (round_events nodes) out (map Collect nodes) mid
    next c.carry_out.new.live now after course
    (done course.mid course.holds (may_collect_still taken course.mid nodes course.same may)))
    c.collect_all.ensures.done

pub returns-in-Did-clause-breaks : goal.returns-in-Did-clause-breaks
returns-in-Did-clause-breaks g c =
    let telling = c.args.telling in
    let nodes = c.args.nodes.now in
    let out = c.args.outbox.now in
    let mid = c.carry_out.new.outbox in
    let next = c.collect_all.new.outbox in
    on_each_err
    ((taken : Taken) → LiveHolds c.carry_out.new.live taken → MayCollect taken nodes
    → EventsBreak telling.quiet taken telling.number (map Collect nodes) mid next)
    ((taken : Taken) → LiveHolds c.args.live.now taken → MayCollect taken nodes
    → EventsBreak telling.quiet taken telling.number (round_events nodes) out next)
    c.collect_all.result
    (λ breaks taken holds may.
    let happens =
    rw c.in-Did.is at (c.in_ok-carry_out.ensures.happens taken holds (may_run taken)) in
    let course =
    course_goes telling.quiet taken telling.number (round_events nodes) out (Run 1)
    (map Collect nodes) out mid c.args.live.now c.carry_out.new.live c.in-Did.field-0
    (course_begins telling.quiet taken telling.number (round_events nodes) out c.args.live.now
    holds) happens in
    course_fails telling.quiet taken telling.number (round_events nodes) out (map Collect nodes) mid
    next c.carry_out.new.live course
    (breaks course.mid course.holds (may_collect_still taken course.mid nodes course.same may)))
    c.collect_all.ensures.breaks

pub returns-in-Undetected-clause-done : goal.returns-in-Undetected-clause-done
returns-in-Undetected-clause-done g c = λ taken holds may.
    let telling = c.args.telling in
    let nodes = c.args.nodes.now in
    course_stops telling.quiet taken telling.number (round_events nodes) c.args.outbox.now (Run 1)
    (map Collect nodes) c.args.outbox.now c.carry_out.new.outbox c.args.live.now
    c.carry_out.new.live
    (course_begins telling.quiet taken telling.number (round_events nodes) c.args.outbox.now
    c.args.live.now holds)
    (rw c.in-Undetected.is at (c.in_ok-carry_out.ensures.happens taken holds (may_run taken)))
