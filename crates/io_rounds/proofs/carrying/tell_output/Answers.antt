use Rattle.std.proofs.Common.{◌≤◌, ◌+◌, length, ap, sym, subst, arith}
use Rattle.io_rounds.specs.Course.{IoAt, IoArrived, IoStopped}
use Rattle.io_rounds.specs.Drives.{first_state}
use Rattle.io_rounds.specs.Turns.{MayBegin}
use Rattle.io_rounds.proofs.StateLaws.{finishes}
use Rattle.io_rounds.proofs.DriveLaws.{lines_from, lines_begin, line_next, line_may, lines_end, arrived_stopped, item_here, item_within}
use Rattle.io_rounds.proofs.carrying.tell_output.Goals as goal

pub loop-numbered-init : goal.loop-numbered-init
loop-numbered-init g c =
    lines_begin c.args.output.now
    c.args.script.now.script.names.items c.args.script.now.script.lines.items
    c.args.script.now.lines.items c.args.course.now c.requires.begins

pub carry-requires : goal.carry-requires
carry-requires g c =
    let io = c.args.script.now.lines.items in
    let i = c.loop-numbered.numbered-index in
    let item = c.numbered-item.result in
    subst (λ n. MayBegin n c.loop-numbered.course item.io) (sym c.deref.ensures.value)
    (line_may c.args.output.now
    c.args.script.now.script.names.items c.args.script.now.script.lines.items io i item
    c.loop-numbered.output c.loop-numbered.course
    (item_within io _ i c.deref-numbered-items.ensures.value c.loop-numbered-test.true)
    (item_here io _ i item c.deref-numbered-items.ensures.value c.numbered-item.is) c.requires.fit
    c.loop-numbered.invariant)

pub returns-in_err-carry-clause-front : goal.returns-in_err-carry-clause-front
returns-in_err-carry-clause-front g c =
    let names = c.args.script.now.script.names.items in
    let script = c.args.script.now.script.lines.items in
    let io = c.args.script.now.lines.items in
    let i = c.loop-numbered.numbered-index in
    let item = c.numbered-item.result in
    let done = c.loop-numbered.invariant in
    subst (λ n. IoStopped c.args.output.now c.carry.new.output n
    script (first_state names io)) c.deref.ensures.value
    (c.in_err-carry.ensures.ended script c.args.output.now (first_state names io) done.state
    (lines_from io (i + 1))
    (subst (λ n. IoAt c.args.output.now c.loop-numbered.output n
    script (first_state names io) done.state c.loop-numbered.course) (sym c.deref.ensures.value)
    done.at)
    (line_next c.args.output.now names script io i item
    c.loop-numbered.output c.loop-numbered.course
    (item_within io _ i c.deref-numbered-items.ensures.value c.loop-numbered-test.true)
    (item_here io _ i item c.deref-numbered-items.ensures.value c.numbered-item.is) done))

pub returns-then-failed-clause-front : goal.returns-then-failed-clause-front
returns-then-failed-clause-front g c =
    let names = c.args.script.now.script.names.items in
    let script = c.args.script.now.script.lines.items in
    let io = c.args.script.now.lines.items in
    let i = c.loop-numbered.numbered-index in
    let item = c.numbered-item.result in
    let done = c.loop-numbered.invariant in
    arrived_stopped
    (subst (λ n. IoArrived c.args.output.now c.carry.new.output n
    script (first_state names io) (lines_from io (i + 1)) c.carry.new.self) c.deref.ensures.value
    (c.in_ok-carry.ensures.done script c.args.output.now (first_state names io) done.state
    (lines_from io (i + 1))
    (subst (λ n. IoAt c.args.output.now c.loop-numbered.output n
    script (first_state names io) done.state c.loop-numbered.course) (sym c.deref.ensures.value)
    done.at)
    (line_next c.args.output.now names script io i item
    c.loop-numbered.output c.loop-numbered.course
    (item_within io _ i c.deref-numbered-items.ensures.value c.loop-numbered-test.true)
    (item_here io _ i item c.deref-numbered-items.ensures.value c.numbered-item.is) done)))

pub returns-clause-done : goal.returns-clause-done
returns-clause-done g c =
    let names = c.args.script.now.script.names.items in
    let script = c.args.script.now.script.lines.items in
    let io = c.args.script.now.lines.items in
    let done = c.loop-numbered.invariant in
    let whole : length io ≤ c.loop-numbered.numbered-index =
    omega (arith, ap length c.deref-numbered-items.ensures.value, c.loop-numbered-test.false) in
    finishes done.at
    (lines_end c.args.output.now names script io
    c.loop-numbered.numbered-index c.loop-numbered.output c.loop-numbered.course whole done)
    c.write.ensures

pub returns-clause-front : goal.returns-clause-front
returns-clause-front g c =
    let names = c.args.script.now.script.names.items in
    let script = c.args.script.now.script.lines.items in
    let io = c.args.script.now.lines.items in
    let done = c.loop-numbered.invariant in
    let whole : length io ≤ c.loop-numbered.numbered-index =
    omega (arith, ap length c.deref-numbered-items.ensures.value, c.loop-numbered-test.false) in
    arrived_stopped (finishes done.at
    (lines_end c.args.output.now names script io
    c.loop-numbered.numbered-index c.loop-numbered.output c.loop-numbered.course whole done)
    c.write.ensures)
