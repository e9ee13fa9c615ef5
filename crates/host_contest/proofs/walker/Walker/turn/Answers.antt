use Rattle.host_contest.proofs.Prelude.{◌∙◌, sym, ap, machine_of}
use Rattle.host_contest.specs.Walkers.{machine_in}
use Rattle.host_contest.proofs.Machines.{clear_is}
use Rattle.host_contest.proofs.Stepping.{with_walker, can_same, came_from}
use Rattle.host_contest.proofs.walker.Walker.turn.Goals as goal

pub returns-in-Ok-clause-turned : goal.returns-in-Ok-clause-turned
returns-in-Ok-clause-turned g c =
    let view = g.M.Maint.topology c.args.maint.now in
    let new = g.M.Maint.registers c.turn.new.maint in
    ap (with_walker new)
    (c.list_entries.ensures.machine view ∙ ap (machine_of view) c.note.ensures.machine)
    ∙ c.in_ok-turn.ensures.turned

pub returns-in-Ok-clause-answer : goal.returns-in-Ok-clause-answer
returns-in-Ok-clause-answer g c =
    let view = g.M.Maint.topology c.args.maint.now in
    c.came_of-turn.ensures view c.args.self.now.machine
    (c.is_empty-was_clear.ensures ∙ clear_is c.args.self.now.machine.todo)
    ∙ ap (came_from (machine_in view c.args.self.now))
    (sym (c.list_entries.ensures.machine view ∙ ap (machine_of view) c.note.ensures.machine))

pub returns-in-Ok-clause-can : goal.returns-in-Ok-clause-can
returns-in-Ok-clause-can g c =
    let view = g.M.Maint.topology c.args.maint.now in
    can_same view (g.M.Maint.registers c.turn.new.maint) c.turn.new.self
    c.list_entries.new.self.machine
    (c.list_entries.ensures.machine view ∙ ap (machine_of view) c.note.ensures.machine)
    c.in_ok-turn.ensures.can
