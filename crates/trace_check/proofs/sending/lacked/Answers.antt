use Rattle.std.proofs.Common.{sym, subst, rules}
use Rattle.std.specs.List.{AllByRecursion}
use Rattle.link_model.specs.Said.{said}
use Rattle.fabric_model.proofs.Lists.{all-append}
use Rattle.fabric_trace.specs.Owned.{HasEvent}
use Rattle.trace_check.specs.Expecting.{OneIsLacked}
use Rattle.trace_check.specs.Running.{told_events}
use Rattle.trace_check.proofs.HearingLaws.{said_none, said_on}
use Rattle.trace_check.proofs.LackLaws.{lacked_behind, lacked_front}
use Rattle.trace_check.proofs.sending.lacked.Goals as goal

pub loop-left-init : goal.loop-left-init
loop-left-init c = search rules

pub returns-in-Some-clause-lacked : goal.returns-in-Some-clause-lacked
returns-in-Some-clause-lacked c = λ net p is.
    let run = c.read_run-count in
    let rest = c.split_at.result.1.now in
    let told = told_events run.result.1 run.new.self.ended in
    let on = said_on c.loop-left.framer.place c.loop-left.left.now rest run.result.1 run.new.self
    run.ensures.told run.ensures.state (search rules) in
    let prio = c.in-Some.prio in
    let one = rw c.in-Some.is at (c.lacked_at_end-ended.ensures.lacked net p is) in
    (c.loop-left.invariant net p is).1 prio (subst (OneIsLacked net p prio) (sym on)
    (lacked_front net p prio told (said run.new.self.place rest) one))

pub loop-left-preserved : goal.loop-left-preserved
loop-left-preserved c = λ net p is.
    let run = c.read_run-count in
    let rest = c.split_at.result.1.now in
    let told = told_events run.result.1 run.new.self.ended in
    let behind = said run.new.self.place rest in
    let on = said_on c.loop-left.framer.place c.loop-left.left.now rest run.result.1 run.new.self
    run.ensures.told run.ensures.state (search rules) in
    let first = rw c.in_default.is at (c.lacked_at_end-ended.ensures.lacked net p is) in (
      λ all. (c.loop-left.invariant net p is).0
          (subst (AllByRecursion (HasEvent net p)) (sym on)
          (all-append (HasEvent net p) told behind first all)),
      λ prio one. (c.loop-left.invariant net p is).1 prio
          (subst (OneIsLacked net p prio) (sym on) (lacked_behind net p prio told behind one)),
    )

pub returns-clause-lacked : goal.returns-clause-lacked
returns-clause-lacked c = λ net p is.
    let none = said_none c.loop-left.framer.place c.loop-left.left.now (search rules) in
    (c.loop-left.invariant net p is).0 (subst (AllByRecursion (HasEvent net p)) (sym none) tt)
