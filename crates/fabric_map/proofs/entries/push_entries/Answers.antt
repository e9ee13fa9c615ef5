use Rattle.std.proofs.Common.{◌++◌, ◌∙◌, ap, arith}
use Rattle.fabric_map.proofs.EntryLaws.{entries_at-switch}
use Rattle.fabric_map.proofs.entries.push_entries.Goals as goal

pub returns : goal.returns
returns c =
    c.loop-id.invariant
    ∙ ap (λ l. c.args.entries.now.items ++ l)
    (entries_at-switch c.args.devices.now c.args.device.now c.in-Switch.ports c.in-Switch.entry
    c.loop-id.id c.in-Switch.is (omega (arith, c.loop-id-test.false, c.loop-id.auto.id-end)))
