use Rattle.std.proofs.Common.{◌≡◌, ◌<◌, ◌-◌, ◌+◌, subst, arith}
use Rattle.live_fabric.specs.Course.{EventsCourse}
use Rattle.live_fabric.specs.Served.{round_events, rounds}
use Rattle.live_fabric.proofs.AnsweringLaws.{on_err}
use Rattle.live_fabric.proofs.CourseLaws.{course_begins, course_round, course_goes_on, course_stops_in, course_breaks_in, course_ends}
use Rattle.live_fabric.proofs.TakenLaws.{may_collect_still}
use Rattle.live_fabric.proofs.carrying.carry_rounds.Goals as goal

pub loop-init : goal.loop-init
loop-init g c = record {
  course = λ taken holds may.
      let telling = c.args.telling in
      let round = round_events c.args.nodes.now in
      let none : c.args.count ≡ c.args.count - 0 = omega arith in
      subst (λ n. EventsCourse telling.quiet taken telling.number (rounds c.args.count round)
      (rounds n round) c.args.outbox.now c.args.outbox.now c.args.live.now) none
      (course_begins telling.quiet taken telling.number (rounds c.args.count round)
      c.args.outbox.now c.args.live.now holds);
}

pub carry_round-requires : goal.carry_round-requires
carry_round-requires g c =
    let may = c.requires in
    let course = c.loop.invariant.course may.0 may.1 may.2 in (
      course.mid,
      course.holds,
      may_collect_still may.0 course.mid c.args.nodes.now course.same may.2,
    )

pub returns-in_err-carry_round-clause-breaks : goal.returns-in_err-carry_round-clause-breaks
returns-in_err-carry_round-clause-breaks g c =
    on_err c.from_residual.result
    (λ taken holds may.
    let telling = c.args.telling in
    let nodes = c.args.nodes.now in
    let round = round_events nodes in
    let n = c.args.count in
    let k = c.loop.counter in
    let within : k < n = omega arith in
    let course =
    course_round telling.quiet taken telling.number (rounds n round) c.args.outbox.now round n k
    c.loop.outbox c.loop.live within (c.loop.invariant.course taken holds may) in
    course_breaks_in telling.quiet taken telling.number (rounds n round) c.args.outbox.now round
    (rounds (n - (k + 1)) round) c.loop.outbox c.carry_round.new.outbox c.loop.live course
    (c.in_err-carry_round.ensures.breaks course.mid course.holds
    (may_collect_still taken course.mid nodes course.same may)))

pub returns-in-Undetected-clause-done : goal.returns-in-Undetected-clause-done
returns-in-Undetected-clause-done g c = λ taken holds may.
    let telling = c.args.telling in
    let nodes = c.args.nodes.now in
    let round = round_events nodes in
    let n = c.args.count in
    let k = c.loop.counter in
    let within : k < n = omega arith in
    let course =
    course_round telling.quiet taken telling.number (rounds n round) c.args.outbox.now round n k
    c.loop.outbox c.loop.live within (c.loop.invariant.course taken holds may) in
    course_stops_in telling.quiet taken telling.number (rounds n round) c.args.outbox.now round
    (rounds (n - (k + 1)) round) c.loop.outbox c.carry_round.new.outbox c.loop.live
    c.carry_round.new.live course
    (rw c.in-Undetected.is at (c.in_ok-carry_round.ensures.done course.mid course.holds
    (may_collect_still taken course.mid nodes course.same may)))

pub loop-preserved : goal.loop-preserved
loop-preserved g c = record {
  course = λ taken holds may.
      let telling = c.args.telling in
      let nodes = c.args.nodes.now in
      let round = round_events nodes in
      let n = c.args.count in
      let k = c.loop.counter in
      let within : k < n = omega arith in
      let course =
      course_round telling.quiet taken telling.number (rounds n round) c.args.outbox.now round n k
      c.loop.outbox c.loop.live within (c.loop.invariant.course taken holds may) in
      course_goes_on telling.quiet taken telling.number (rounds n round) c.args.outbox.now round
      (rounds (n - (k + 1)) round) c.loop.outbox c.carry_round.new.outbox c.loop.live
      c.carry_round.new.live course
      (rw c.in-On.is at (c.in_ok-carry_round.ensures.done course.mid course.holds
      (may_collect_still taken course.mid nodes course.same may)));
}

pub returns-clause-done : goal.returns-clause-done
returns-clause-done g c = λ taken holds may.
    let telling = c.args.telling in
    let round = round_events c.args.nodes.now in
    let n = c.args.count in
    let none : n - c.loop.counter ≡ 0 = omega arith in
    course_ends telling.quiet taken telling.number (rounds n round) c.args.outbox.now c.loop.outbox
    c.loop.live
    (subst (λ k. EventsCourse telling.quiet taken telling.number (rounds n round) (rounds k round)
    c.args.outbox.now c.loop.outbox c.loop.live) none
    (c.loop.invariant.course taken holds may))
