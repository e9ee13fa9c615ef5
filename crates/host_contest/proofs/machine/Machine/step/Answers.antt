use Rattle.host_contest.proofs.Prelude.{◌∙◌, sym, machine_of}
use Rattle.host_contest.proofs.Stepping.{few, answered_so, can_after}
use Rattle.host_contest.proofs.machine.Machine.step.Goals as goal

pub told-requires-clause-few : goal.told-requires-clause-few
told-requires-clause-few g c =
    few (g.M.Maint.topology c.args.maint.now) (g.M.Maint.registers c.args.maint.now)
    c.args.self.now c.requires.can

pub returns-in-Ok-clause-can : goal.returns-in-Ok-clause-can
returns-in-Ok-clause-can g c =
    let view = g.M.Maint.topology c.args.maint.now in
    let r = g.M.Maint.registers c.args.maint.now in
    let new = g.M.Maint.registers c.reach.new.maint in
    let wanted = sym c.in-Some.is ∙ c.wants.ensures.wanted view in
    let there = c.requires.reach c.in-Some.asked (sym wanted) in
    can_after view r new c.args.self.now c.told.new.self c.requires.can
    (answered_so (machine_of view c.args.self.now) (machine_of view c.told.new.self) r new
    c.in-Some.asked there.0 c.in_ok-answer.answer wanted there.1.leads
    (c.in_ok-answer.ensures.answer there.0 there.1)
    (c.in_ok-answer.ensures.registers there.0 there.1) (c.in-Ok.ensures view))
