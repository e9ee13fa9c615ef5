use Rattle.host_enumerate.proofs.Prelude.{◌-◌, length, take, drop, subst, IfOk-weaker, PortRef, HasNewId}
use Rattle.host_enumerate.proofs.Opening.{same_end}
use Rattle.host_enumerate.proofs.Giving.{id-writable, id-left, first_and_rest, whole_path, rest_askable, rest_once, id-given}
use Rattle.host_enumerate.proofs.setting.give_id.Goals as goal

pub write-requires-clause-askable : goal.write-requires-clause-askable
write-requires-clause-askable g c =
    let asked = c.requires.askable in (
      asked.0,
      asked.1,
      record (g.M.Maint.registers c.args.maint.now asked.1.node) { base_id = c.args.id },
      asked.2,
      id-writable (g.M.Maint.topology c.args.maint.now) (g.M.Maint.registers c.args.maint.now)
          c.args.path.now asked.1 c.from.ensures c.requires.id asked.4 asked.3 c.requires.away,
    )

pub set_entries-requires-clause-askable : goal.set_entries-requires-clause-askable
set_entries-requires-clause-askable g c =
    let asked = c.requires.askable in
    let topology = g.M.Maint.topology c.args.maint.now in
    let old = g.M.Maint.registers c.args.maint.now in
    let mid = g.M.Maint.registers c.write.new.maint in
    let slice = c.as_slice.result.now in
    let tail = take (length slice - 1) (drop 1 slice) in
    let parts = first_and_rest
    c.as_slice.ensures c.in-len1-up.len_at_least c.onward-front.ensures c.of_host.ensures in (
      asked.0,
      asked.1,
      rest_askable mid c.args.id c.onward-front.result tail c.in_ok-write.ensures.went.topology
          (whole_path parts.0 parts.1) c.requires.away asked.2 asked.3
          (id-left topology old mid c.args.path.now
          c.in_ok-write.ensures.registers asked.2.leads c.from.ensures c.requires.id asked.4),
      asked.5,
    )

pub set_entries-requires-clause-once : goal.set_entries-requires-clause-once
set_entries-requires-clause-once g c =
    let slice = c.as_slice.result.now in
    let tail = take (length slice - 1) (drop 1 slice) in
    let parts = first_and_rest
    c.as_slice.ensures c.in-len1-up.len_at_least c.onward-front.ensures c.of_host.ensures in
    rest_once c.onward-front.result tail c.in_ok-write.ensures.went.topology
    (whole_path parts.0 parts.1) c.requires.once

pub returns-clause-registers : goal.returns-clause-registers
returns-clause-registers g c =
    let asked = c.requires.askable in
    let topology = g.M.Maint.topology c.args.maint.now in
    let now = g.M.Maint.topology c.write.new.maint in
    let old = g.M.Maint.registers c.args.maint.now in
    let mid = g.M.Maint.registers c.write.new.maint in
    let new = g.M.Maint.registers c.set_entries.new.maint in
    let slice = c.as_slice.result.now in
    let tail = take (length slice - 1) (drop 1 slice) in
    let parts = first_and_rest
    c.as_slice.ensures c.in-len1-up.len_at_least c.onward-front.ensures c.of_host.ensures in
    IfOk-weaker c.set_entries.result
    _ _
    (λ _ others at enters.
    subst (λ (p : PortRef). HasNewId topology old new c.args.path.now p.node c.args.id)
    (same_end topology c.args.path.now asked.1 at asked.2.leads enters)
    (id-given old asked.1.node c.in_ok-write.ensures.went.topology parts.0 parts.1
    (id-left topology old mid c.args.path.now
    c.in_ok-write.ensures.registers asked.2.leads c.from.ensures c.requires.id asked.4) others))
    c.set_entries.ensures.registers
