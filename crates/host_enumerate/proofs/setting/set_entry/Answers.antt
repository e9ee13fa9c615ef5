use Rattle.host_enumerate.proofs.Prelude.{◌≡◌, ◌%◌, slice_set, true, sym, subst, refl, IfOk-weaker, PortRef, Registers, is_switch, IsAskable, IsWritable}
use Rattle.host_enumerate.proofs.Opening.{same_end}
use Rattle.host_enumerate.proofs.Entries.{Leaves, askable-written, selectable, settable, selected, still_switch, entry-left}
use Rattle.host_enumerate.proofs.setting.set_entry.Goals as goal

pub write-requires-clause-askable : goal.write-requires-clause-askable
write-requires-clause-askable g c =
    let asked = c.requires.askable in (
      asked.0,
      asked.1,
      record (g.M.Maint.registers c.args.maint.now asked.1.node) {
        select = c.from.result % 0x400;
      },
      asked.2,
      selectable (g.M.Maint.topology c.args.maint.now) (g.M.Maint.registers c.args.maint.now)
          c.args.path.now asked.1 c.from.result asked.4 asked.3,
    )

pub write-requires-2-clause-askable : goal.write-requires-2-clause-askable
write-requires-2-clause-askable g c =
    let asked = c.requires.askable in
    let topology = c.in_ok-write.ensures.went.topology in
    let old = g.M.Maint.registers c.args.maint.now in
    let mid = g.M.Maint.registers c.write.new.maint in
    let first = selected (g.M.Maint.topology c.args.maint.now) old mid c.args.path.now asked.1
    c.from.result c.in_ok-write.ensures.registers asked.2.leads asked.4 in
    let there : Registers = record (mid asked.1.node) {
      routes = slice_set (mid asked.1.node).routes (mid asked.1.node).select
          (c.from-2.result % 0x100);
    } in (
      asked.0,
      asked.1,
      there,
      subst (λ t. IsAskable t mid asked.0 c.args.path.now asked.1) (sym topology)
          (askable-written mid (record (old asked.1.node) { select = c.from.result % 0x400 })
          asked.2 first asked.3 (λ _. refl)),
      subst (λ t. IsWritable t mid c.args.path.now asked.1 0x74 c.from-2.result there)
          (sym topology)
          (settable (g.M.Maint.topology c.args.maint.now) mid c.args.path.now asked.1
          c.from-2.result (still_switch old mid asked.1.node c.from.result asked.4 first) asked.3),
    )

pub returns-clause-registers : goal.returns-clause-registers
returns-clause-registers g c =
    let asked = c.requires.askable in
    let topology = g.M.Maint.topology c.args.maint.now in
    let old = g.M.Maint.registers c.args.maint.now in
    let mid = g.M.Maint.registers c.write.new.maint in
    let new = g.M.Maint.registers c.write-2.new.maint in
    IfOk-weaker c.write-2.result
    _ _
    (λ _ said at enters.
    entry-left topology old mid new c.args.path.now at c.args.id c.args.port c.from.result
    c.from-2.result c.in_ok-write.ensures.registers
    (subst (λ t. Leaves t mid new c.args.path.now 0x74 c.from-2.result)
    c.in_ok-write.ensures.went.topology said) enters
    (subst (λ (p : PortRef). is_switch (old p.node) ≡ true)
    (same_end topology c.args.path.now asked.1 at asked.2.leads enters) asked.4)
    c.from.ensures c.from-2.ensures c.ranges.id.fits c.ranges.port.fits)
    c.write-2.ensures.registers
