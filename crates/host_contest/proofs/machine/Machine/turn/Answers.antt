use Rattle.host_contest.proofs.Prelude.{true, ◌∙◌, stepped, locked_on, walker_turned, machine_of, state_in}
use Rattle.host_contest.proofs.Machines.{on_ok}
use Rattle.host_contest.proofs.Stepping.{turned_first, chain, begun_at_host, host_after, locked_at_host, same_views}
use Rattle.host_contest.proofs.machine.Machine.turn.Goals as goal

pub lock_on-requires-clause-host : goal.lock_on-requires-clause-host
lock_on-requires-clause-host g c =
    let view = g.M.Maint.topology c.args.maint.now in
    let w = machine_of view c.args.self.now in
    host_after view (g.M.Maint.topology c.step-2.new.maint) (g.M.Maint.registers c.args.maint.now)
    (g.M.Maint.registers c.step-2.new.maint) (record w { begun = true }) c.step-2.new.self
    c.in_ok-step.ensures.went.topology c.in_ok-step.ensures.stepped
    (begun_at_host w (c.requires.reach.first c.if-self.false))

pub lock_on-requires-2-clause-host : goal.lock_on-requires-2-clause-host
lock_on-requires-2-clause-host g c =
    locked_at_host (g.M.Maint.topology c.step-2.new.maint)
    (g.M.Maint.topology c.lock_on.new.maint)
    (g.M.Maint.registers c.step-2.new.maint) (g.M.Maint.registers c.lock_on.new.maint)
    c.step-2.new.self c.lock_on.new.self c.in_ok-lock_on.ensures.went.topology
    c.in_ok-lock_on.ensures.stepped
    (let view = g.M.Maint.topology c.args.maint.now in
    let w = machine_of view c.args.self.now in
    host_after view (g.M.Maint.topology c.step-2.new.maint)
    (g.M.Maint.registers c.args.maint.now)
    (g.M.Maint.registers c.step-2.new.maint) (record w { begun = true }) c.step-2.new.self
    c.in_ok-step.ensures.went.topology c.in_ok-step.ensures.stepped
    (begun_at_host w (c.requires.reach.first c.if-self.false)))

pub returns-clause-turned : goal.returns-clause-turned
returns-clause-turned g c =
    let view = g.M.Maint.topology c.args.maint.now in
    let w = machine_of view c.args.self.now in
    let r = g.M.Maint.registers c.args.maint.now in
    let one = g.M.Maint.registers c.step-2.new.maint in
    let two = g.M.Maint.registers c.lock_on.new.maint in
    let three = g.M.Maint.registers c.lock_on-2.new.maint in
    let second = c.in_ok-lock_on.ensures.went.topology ∙ c.in_ok-step.ensures.went.topology in
    on_ok c.lock_on-2.result (λ last.
    chain locked_on (stepped (record w { begun = true }) r)
    (state_in view one c.step-2.new.self) (state_in view two c.lock_on.new.self)
    (state_in view three c.lock_on-2.new.self) (walker_turned w r)
    c.in_ok-step.ensures.stepped
    (same_views view (g.M.Maint.topology c.step-2.new.maint) one two c.step-2.new.self
    c.lock_on.new.self c.in_ok-step.ensures.went.topology c.in_ok-lock_on.ensures.stepped)
    (same_views view (g.M.Maint.topology c.lock_on.new.maint) two three c.lock_on.new.self
    c.lock_on-2.new.self second last)
    (turned_first w r c.if-self.false)) c.lock_on-2.ensures.stepped
