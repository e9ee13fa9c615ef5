use Rattle.host_enumerate.proofs.Carrying.{answered_none, answered_on}
use Rattle.host_enumerate.proofs.Clearing.{has_cleared-none, has_cleared-next, cleared_askable}
use Rattle.host_enumerate.proofs.setting.clear_entries.Goals as goal

pub loop-id-init : goal.loop-id-init
loop-id-init g c = record {
  goes_on = answered_none g.M.Maint c.args.maint.now c.requires.whole;
  cleared = has_cleared-none (g.M.Maint.topology c.args.maint.now)
      (g.M.Maint.registers c.args.maint.now) c.args.host_id c.args.path.now;
}

pub set_entry-requires-clause-askable : goal.set_entry-requires-clause-askable
set_entry-requires-clause-askable g c =
    let asked = c.requires.askable in
    let found = cleared_askable (g.M.Maint.registers c.loop-id.maint) c.loop-id.id
    c.loop-id.invariant.goes_on.topology asked.1 asked.2 asked.3 c.loop-id.invariant.cleared in
    (c.args.host_id, asked.0, found.0, found.1, found.2)

pub loop-id-preserved : goal.loop-id-preserved
loop-id-preserved g c = record {
  goes_on = answered_on c.loop-id.invariant.goes_on c.in_ok-set_entry.ensures.went;
  cleared = has_cleared-next (g.M.Maint.topology c.args.maint.now)
      (g.M.Maint.topology c.loop-id.maint) (g.M.Maint.registers c.args.maint.now)
      (g.M.Maint.registers c.loop-id.maint) (g.M.Maint.registers c.set_entry.new.maint)
      c.args.host_id c.args.path.now c.loop-id.id
      (g.M.Maint.whole_is_proper c.args.maint.now c.requires.whole)
      (g.M.Maint.whole_fits c.args.maint.now c.requires.whole) c.loop-id.invariant.goes_on.topology
      c.loop-id-test.true c.loop-id.invariant.cleared c.in_ok-set_entry.ensures.registers;
}
