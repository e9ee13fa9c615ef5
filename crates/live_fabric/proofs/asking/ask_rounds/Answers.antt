use Rattle.std.proofs.Common.{◌≡◌, ◌<◌, ◌-◌, ◌+◌, subst, arith}
use Rattle.live_fabric.specs.AskCourse.{RoundsCourse}
use Rattle.live_fabric.specs.Asking.{ask_round, most_ask_rounds}
use Rattle.live_fabric.proofs.AnsweringLaws.{on_err}
use Rattle.live_fabric.proofs.RoundLaws.{rounds_begin, rounds_next, rounds_go, rounds_end, rounds_break, rounds_over, may_ask_still}
use Rattle.live_fabric.proofs.asking.ask_rounds.Goals as goal

pub loop-init : goal.loop-init
loop-init g c = record {
  course = λ taken holds may missing.
      rounds_begin c.args.telling.quiet taken c.args.telling.number c.args.ask.tid
      (ask_round c.args.nodes.now c.args.ask.host) most_ask_rounds c.args.outbox.now
      c.args.live.now holds missing;
}

pub ask_round-requires : goal.ask_round-requires
ask_round-requires g c =
    let may = c.requires in
    let course = c.loop.invariant.course may.0 may.1 may.2 may.3 in (
      course.mid,
      course.holds,
      may_ask_still may.0 course.mid c.args.nodes.now c.args.ask.host course.same may.2,
    )

pub returns-in_err-reply-clause-breaks : goal.returns-in_err-reply-clause-breaks
returns-in_err-reply-clause-breaks g c =
    on_err c.from_residual.result
    (λ taken holds may missing.
    let telling = c.args.telling in
    let ask = c.args.ask in
    let round = ask_round c.args.nodes.now ask.host in
    let k = c.loop.counter in
    let within : k < most_ask_rounds = omega arith in
    let course =
    rounds_next telling.quiet taken telling.number ask.tid round most_ask_rounds c.args.outbox.now k
    c.loop.outbox c.loop.live within (c.loop.invariant.course taken holds may missing) in
    rounds_break telling.quiet taken telling.number ask.tid round most_ask_rounds c.args.outbox.now
    (most_ask_rounds - (k + 1)) c.loop.outbox c.ask_round.new.outbox c.loop.live course
    (c.in_err-reply.ensures.breaks course.mid course.holds
    (may_ask_still taken course.mid c.args.nodes.now ask.host course.same may)))

pub returns-in_default-clause-done : goal.returns-in_default-clause-done
returns-in_default-clause-done g c = λ taken holds may missing.
    let telling = c.args.telling in
    let ask = c.args.ask in
    let round = ask_round c.args.nodes.now ask.host in
    let k = c.loop.counter in
    let within : k < most_ask_rounds = omega arith in
    let course =
    rounds_next telling.quiet taken telling.number ask.tid round most_ask_rounds c.args.outbox.now k
    c.loop.outbox c.loop.live within (c.loop.invariant.course taken holds may missing) in
    rounds_end telling.quiet taken telling.number ask.tid round most_ask_rounds c.args.outbox.now
    (most_ask_rounds - (k + 1)) c.loop.outbox c.ask_round.new.outbox c.loop.live
    c.ask_round.new.live c.in_ok-reply.reply c.in_default.not-Missing course
    (c.in_ok-reply.ensures.done course.mid course.holds
    (may_ask_still taken course.mid c.args.nodes.now ask.host course.same may))

pub loop-preserved : goal.loop-preserved
loop-preserved g c = record {
  course = λ taken holds may missing.
      let telling = c.args.telling in
      let ask = c.args.ask in
      let round = ask_round c.args.nodes.now ask.host in
      let k = c.loop.counter in
      let within : k < most_ask_rounds = omega arith in
      let course =
      rounds_next telling.quiet taken telling.number ask.tid round most_ask_rounds
      c.args.outbox.now k c.loop.outbox c.loop.live within
      (c.loop.invariant.course taken holds may missing) in
      rounds_go telling.quiet taken telling.number ask.tid round most_ask_rounds c.args.outbox.now
      (most_ask_rounds - (k + 1)) c.loop.outbox c.ask_round.new.outbox c.loop.live
      c.ask_round.new.live course
      (rw c.in-Missing.is at (c.in_ok-reply.ensures.done course.mid course.holds
      (may_ask_still taken course.mid c.args.nodes.now ask.host course.same may)));
}

pub returns-clause-done : goal.returns-clause-done
returns-clause-done g c = λ taken holds may missing.
    let telling = c.args.telling in
    let ask = c.args.ask in
    let round = ask_round c.args.nodes.now ask.host in
    let none : most_ask_rounds - c.loop.counter ≡ 0 = omega arith in
    rounds_over telling.quiet taken telling.number ask.tid round most_ask_rounds c.args.outbox.now
    c.loop.outbox c.loop.live
    (subst (λ k. RoundsCourse telling.quiet taken telling.number ask.tid round most_ask_rounds k
    c.args.outbox.now c.loop.outbox c.loop.live) none
    (c.loop.invariant.course taken holds may missing))
