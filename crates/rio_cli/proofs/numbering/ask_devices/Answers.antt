use Rattle.std.proofs.Common.{ℕ, ◌≤◌, rules, sym, subst, ◌∙◌, ap}
use Rattle.rio_chars.specs.Faults.{Rose}
use Rattle.fabric_script.specs.declared.lines.Script.{Script}
use Rattle.fabric_trace.specs.Runs.{start}
use Rattle.fabric_maint.specs.Going.{MaintRestsAt}
use Rattle.rio_cli.specs.Numbering.{registers_for, Maps}
use Rattle.rio_cli.proofs.numbering.ask_devices.Goals as goal

pub number_by-requires : goal.number_by-requires
number_by-requires g c =
    let new = c.new-maint.ensures in
    let maint = c.new-maint.result in
    record {
      whole = new.whole;
      rests = subst (λ h. MaintRestsAt h (start maint.script.now.lines.items) maint.fabric.now)
          (sym new.host_is)
          (subst (λ s. MaintRestsAt c.args.host (start s.lines.items) maint.fabric.now)
          (sym new.script) new.rests);
      registers = new.registers ∙ ap (λ s. registers_for s.lines.items) (sym new.script);
      untagged = new.untagged;
      has_id = new.host_has_id;
      first = new.first;
      follows = new.follows;
    }

pub returns-clause-maps : goal.returns-clause-maps
returns-clause-maps g c =
    let made = c.new-maint.ensures in
    let first = c.new-maint.result in
    let Told : Script → ℕ → g.row.K.Denot → g.row.K.Denot → Type 0 =
    λ s host from to. Maps s.names.items s.lines.items host (g.K.Sink.written from)
    (g.K.Sink.written to) c.number_by.result in
    subst (Told c.args.script.now c.args.host c.args.sink.now) (sym (search rules))
    (subst (λ from. Told c.args.script.now c.args.host from c.number_by.new.maint.sink.now)
    made.sink_is
    (subst (λ host. Told c.args.script.now host first.sink.now c.number_by.new.maint.sink.now)
    made.host_is
    (subst (λ s. Told s first.host first.sink.now c.number_by.new.maint.sink.now) made.script
    c.number_by.ensures.maps)))

pub returns-clause-rose : goal.returns-clause-rose
returns-clause-rose g c fault =
    subst (λ to. Rose (g.K.Sink.faults c.args.sink.now) (g.K.Sink.faults to)) (sym (search rules))
    (subst (λ from. Rose (g.K.Sink.faults from) (g.K.Sink.faults c.number_by.new.maint.sink.now))
    c.new-maint.ensures.sink_is (c.number_by.ensures.rose fault))

pub returns-clause-counts : goal.returns-clause-counts
returns-clause-counts g c other =
    ap g.K.Sink.faults (search rules) ∙ c.number_by.ensures.counts other
    ∙ ap g.K.Sink.faults c.new-maint.ensures.sink_is

pub returns-clause-never_falls : goal.returns-clause-never_falls
returns-clause-never_falls g c =
    subst (λ to. g.K.Sink.faults c.args.sink.now ≤ g.K.Sink.faults to) (sym (search rules))
    (subst (λ from. g.K.Sink.faults from ≤ g.K.Sink.faults c.number_by.new.maint.sink.now)
    c.new-maint.ensures.sink_is c.number_by.ensures.never_falls)
