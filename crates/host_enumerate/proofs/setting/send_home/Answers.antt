use Rattle.host_enumerate.proofs.Prelude.{◌%◌, ap, subst, ◌∙◌, PortRef, Registers, Switch, entered, Becomes, SwitchIsSetUp, with_entry, IsCleared}
use Rattle.host_enumerate.proofs.Opening.{same_end}
use Rattle.host_enumerate.proofs.SettingUp.{IsInformed, IsStage, informed, stage_askable, stage_read, default-writable, stage_default, stage_cleared, set_up}
use Rattle.host_enumerate.proofs.setting.send_home.Given.{Over}
use Rattle.host_enumerate.proofs.setting.send_home.Goals.{In_ok-information, In_ok-clear_entries}
use Rattle.host_enumerate.proofs.setting.send_home.Goals as goal

-- what the switch told
told : (g : Over) (c : In_ok-information g)
    → IsInformed (g.M.Maint.registers c.args.maint.now c.requires.askable.0.node)
    c.requires.askable.0.port c.in_ok-information.information
told g c =
    informed c.args.path.now (g.M.Maint.whole_is_proper c.args.maint.now c.requires.whole)
    (g.M.Maint.whole_fits c.args.maint.now c.requires.whole) c.requires.askable.1.leads
    c.requires.askable.3
    (c.in_ok-information.ensures.value c.requires.askable.0 c.requires.askable.1.leads)

-- the default port is written, and the entries are cleared
cleared : (g : Over) (c : In_ok-clear_entries g)
    → IsInformed (g.M.Maint.registers c.args.maint.now c.requires.askable.0.node)
    c.requires.askable.0.port c.in_ok-information.information
    → (held : Registers)
    × IsStage (g.M.Maint.topology c.args.maint.now) (g.M.Maint.topology c.clear_entries.new.maint)
    (g.M.Maint.registers c.args.maint.now) (g.M.Maint.registers c.clear_entries.new.maint)
    c.requires.askable.0 held
    × IsCleared c.args.host_id 63
    (record (g.M.Maint.registers c.args.maint.now c.requires.askable.0.node) {
      default_port = c.requires.askable.0.port;
    })
    held
cleared g c said =
    let at = c.requires.askable.0 in
    let stage = stage_default (g.M.Maint.registers c.write.new.maint) c.args.path.now
    (c.from.ensures ∙ said.entry) said.few c.in_ok-write.ensures.went.topology c.requires.askable.3
    c.requires.askable.1.leads
    (stage_read at c.in_ok-information.ensures.went.topology c.in_ok-information.ensures.registers)
    c.in_ok-write.ensures.registers in
    let found = c.in_ok-clear_entries.ensures.registers at
    (ap (λ t. entered t c.args.path.now) stage.stays ∙ c.requires.askable.1.leads) in
    let next = stage_cleared c.in_ok-clear_entries.ensures.went.topology stage found.1 found.2 in
    (found.0, next.0, next.1)

pub overflow_cast-ports : goal.overflow_cast-ports
overflow_cast-ports g c =
    record { fits = (told g (goal.at.overflow_cast-ports g c).In_ok-information).few_ports }

pub write-requires-clause-askable : goal.write-requires-clause-askable
write-requires-clause-askable g c =
    let said = told g (goal.at.write-requires-clause-askable g c).In_ok-information in
    let at = c.requires.askable.0 in
    let mid = g.M.Maint.registers c.read.new.maint in
    let asked = stage_askable c.requires.askable.1 c.requires.askable.2 c.requires.askable.3
    (stage_read at c.in_ok-information.ensures.went.topology
    c.in_ok-information.ensures.registers) in (
      c.args.host_id,
      at,
      record (mid at.node) { default_port = at.port },
      asked.0,
      default-writable (g.M.Maint.topology c.read.new.maint) mid c.args.path.now at
          (c.from.ensures ∙ said.entry) said.few asked.2 asked.1,
    )

pub clear_entries-requires-clause-askable : goal.clear_entries-requires-clause-askable
clear_entries-requires-clause-askable g c =
    let said = told g (goal.at.clear_entries-requires-clause-askable g c).In_ok-information in
    let at = c.requires.askable.0 in
    let asked = stage_askable c.requires.askable.1 c.requires.askable.2 c.requires.askable.3
    (stage_default (g.M.Maint.registers c.write.new.maint) c.args.path.now
    (c.from.ensures ∙ said.entry) said.few
    c.in_ok-write.ensures.went.topology c.requires.askable.3 c.requires.askable.1.leads
    (stage_read at c.in_ok-information.ensures.went.topology c.in_ok-information.ensures.registers)
    c.in_ok-write.ensures.registers) in
    (at, asked.0, asked.1, asked.2)

pub set_entry-requires-clause-askable : goal.set_entry-requires-clause-askable
set_entry-requires-clause-askable g c =
    let here = goal.at.set_entry-requires-clause-askable g c in
    let next = cleared g here.In_ok-clear_entries (told g here.In_ok-information) in
    let asked = stage_askable c.requires.askable.1 c.requires.askable.2 c.requires.askable.3
    next.1 in
    (c.args.host_id, c.requires.askable.0, asked.0, asked.1, asked.2)

pub returns-clause-kind : goal.returns-clause-kind
returns-clause-kind g c at enters =
    let topology = g.M.Maint.topology c.args.maint.now in
    let old = g.M.Maint.registers c.args.maint.now in
    let said = told g (goal.at.returns-clause-kind g c).In_ok-information in
    let here = same_end topology c.args.path.now c.requires.askable.0 at
    c.requires.askable.1.leads enters in
    ap (λ n. Switch n (c.in_ok-information.information % 256)) said.ports
    ∙ (ap (λ n. Switch (old c.requires.askable.0.node).ports n) said.entry
    ∙ ap (λ (p : PortRef). Switch (old p.node).ports p.port) here)

pub returns-clause-registers : goal.returns-clause-registers
returns-clause-registers g c goal_at enters =
    let here = goal.at.returns-clause-registers g c in
    let at = c.requires.askable.0 in
    let topology = g.M.Maint.topology c.args.maint.now in
    let old = g.M.Maint.registers c.args.maint.now in
    let end = g.M.Maint.registers c.set_entry.new.maint in
    let said = told g here.In_ok-information in
    let next = cleared g here.In_ok-clear_entries said in
    let done = set_up end c.args.path.now
    (g.M.Maint.whole_is_proper c.args.maint.now c.requires.whole)
    (g.M.Maint.whole_fits c.args.maint.now c.requires.whole) c.requires.host said.entry
    c.requires.askable.1.leads next.1 next.2
    (c.in_ok-set_entry.ensures.registers at
    (ap (λ t. entered t c.args.path.now) next.1.stays ∙ c.requires.askable.1.leads)) in
    subst (λ (p : PortRef). (held : Registers) × Becomes old end p.node held
    × SwitchIsSetUp c.args.host_id p.port (old p.node) held)
    (same_end topology c.args.path.now at goal_at c.requires.askable.1.leads enters)
    (with_entry next.0 c.args.host_id at.port, done.0, done.1)
