use Rattle.std.proofs.Common.{◌+◌, ◌∙◌, length}
use Rattle.host_enumerate.proofs.Tagging.{tag-writable, tagged, tagged_askable, taken_in}
use Rattle.host_enumerate.proofs.taking.take_in.Goals as goal

pub write-requires-clause-askable : goal.write-requires-clause-askable
write-requires-clause-askable g c =
    let at = c.requires.askable.0 in
    let old = g.M.Maint.registers c.args.maint.now in
    let devices = c.args.numbering.now.devices.items in (
      c.args.numbering.now.host_id,
      at,
      record (old at.node) { tag = length devices + 1 },
      c.requires.askable.1,
      tag-writable (g.M.Maint.topology c.args.maint.now) old c.args.path.now at
          devices (c.len.ensures ∙ c.args.numbering.now.devices.ok.0) c.requires.askable.2,
    )

pub prepare-requires-clause-askable : goal.prepare-requires-clause-askable
prepare-requires-clause-askable g c =
    let at = c.requires.askable.0 in
    let topology = g.M.Maint.topology c.args.maint.now in
    let old = g.M.Maint.registers c.args.maint.now in
    let devices = c.args.numbering.now.devices.items in
    let found = tagged_askable (g.M.Maint.registers c.write.new.maint)
    (length devices + 1) c.in_ok-write.ensures.went.topology c.requires.askable.1
    c.requires.askable.2
    (tagged topology old (g.M.Maint.registers c.write.new.maint) c.args.path.now
    devices (c.len.ensures ∙ c.args.numbering.now.devices.ok.0) c.in_ok-write.ensures.registers
    c.requires.askable.1.leads) in
    (at, found.0, found.1)

pub returns-in-Ok-clause-taken : goal.returns-in-Ok-clause-taken
returns-in-Ok-clause-taken g c at enters =
    taken_in
    c.args.numbering.now.host_id c.args.numbering.now.next_id c.prepare.new.numbering.next_id
    c.args.numbering.now.devices.items (g.M.Maint.registers c.args.maint.now)
    (g.M.Maint.registers c.write.new.maint) (g.M.Maint.registers c.prepare.new.maint)
    c.args.path.now c.in_ok-kind.kind c.in_ok-write.ensures.went.topology
    (c.len.ensures ∙ c.args.numbering.now.devices.ok.0) enters c.in_ok-write.ensures.registers
    c.in_ok-kind.ensures.kind
