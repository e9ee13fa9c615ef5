use Rattle.std.proofs.Common.{ℕ, ◌<◌, ◌+◌, List, length, map, drop, get_or, subst, arith}
use Rattle.std.proofs.lemmas.List.{drop_all}
use Rattle.fabric_script.specs.declared.lines.Line.TheVariants.{Collect}
use Rattle.live_fabric.specs.Course.{EventsCourse}
use Rattle.live_fabric.proofs.AnsweringLaws.{on_err}
use Rattle.live_fabric.proofs.CourseLaws.{course_begins, course_node, course_goes, course_stops, course_breaks, course_ends}
use Rattle.live_fabric.proofs.TakenLaws.{may_still}
use Rattle.live_fabric.proofs.carrying.collect_all.Goals as goal

pub loop-node-init : goal.loop-node-init
loop-node-init g c = record {
  course = λ taken holds may. course_begins c.args.telling.quiet taken c.args.telling.number
      (map Collect c.args.nodes.now) c.args.outbox.now c.args.live.now holds;
}

pub returns-in_err-carry_out-clause-breaks : goal.returns-in_err-carry_out-clause-breaks
returns-in_err-carry_out-clause-breaks g c =
    on_err c.from_residual.result
    (λ taken holds may.
    let telling = c.args.telling in
    let nodes = c.args.nodes.now in
    let i = c.loop-node.node-index in
    let within : i < length nodes = omega arith in
    let course =
    course_node telling.quiet taken telling.number (map Collect nodes) c.args.outbox.now nodes i
    c.loop-node.outbox c.loop-node.live within (c.loop-node.invariant.course taken holds may) in
    course_breaks telling.quiet taken telling.number (map Collect nodes) c.args.outbox.now
    (Collect (get_or nodes i 0)) (map Collect (drop (i + 1) nodes)) c.loop-node.outbox
    c.carry_out.new.outbox c.loop-node.live course
    (c.in_err-carry_out.ensures.short course.mid course.holds
    (may_still taken course.mid (Collect (get_or nodes i 0)) course.same (may i 0 within))))

pub returns-in-Undetected-clause-done : goal.returns-in-Undetected-clause-done
returns-in-Undetected-clause-done g c = λ taken holds may.
    let telling = c.args.telling in
    let nodes = c.args.nodes.now in
    let i = c.loop-node.node-index in
    let within : i < length nodes = omega arith in
    let course =
    course_node telling.quiet taken telling.number (map Collect nodes) c.args.outbox.now nodes i
    c.loop-node.outbox c.loop-node.live within (c.loop-node.invariant.course taken holds may) in
    course_stops telling.quiet taken telling.number (map Collect nodes) c.args.outbox.now
    (Collect (get_or nodes i 0)) (map Collect (drop (i + 1) nodes)) c.loop-node.outbox
    c.carry_out.new.outbox c.loop-node.live c.carry_out.new.live course
    (rw c.in-Undetected.is at (c.in_ok-carry_out.ensures.happens course.mid course.holds
    (may_still taken course.mid (Collect (get_or nodes i 0)) course.same (may i 0 within))))

pub loop-node-preserved : goal.loop-node-preserved
loop-node-preserved g c = record {
  course = λ taken holds may.
      let telling = c.args.telling in
      let nodes = c.args.nodes.now in
      let i = c.loop-node.node-index in
      let within : i < length nodes = omega arith in
      let course =
      course_node telling.quiet taken telling.number (map Collect nodes) c.args.outbox.now nodes i
      c.loop-node.outbox c.loop-node.live within (c.loop-node.invariant.course taken holds may) in
      course_goes telling.quiet taken telling.number (map Collect nodes) c.args.outbox.now
      (Collect (get_or nodes i 0)) (map Collect (drop (i + 1) nodes)) c.loop-node.outbox
      c.carry_out.new.outbox c.loop-node.live c.carry_out.new.live c.in-Did.field-0 course
      (rw c.in-Did.is at (c.in_ok-carry_out.ensures.happens course.mid course.holds
      (may_still taken course.mid (Collect (get_or nodes i 0)) course.same (may i 0 within))));
}

pub returns-clause-done : goal.returns-clause-done
returns-clause-done g c = λ taken holds may.
    let telling = c.args.telling in
    let nodes = c.args.nodes.now in
    let all = drop_all c.loop-node.node-index nodes (omega arith) in
    course_ends telling.quiet taken telling.number (map Collect nodes) c.args.outbox.now
    c.loop-node.outbox c.loop-node.live
    (subst (λ (left : List ℕ). EventsCourse telling.quiet taken telling.number (map Collect nodes)
    (map Collect left) c.args.outbox.now c.loop-node.outbox c.loop-node.live) all
    (c.loop-node.invariant.course taken holds may))
