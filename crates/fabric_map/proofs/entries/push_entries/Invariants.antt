use Rattle.std.proofs.Common.{◌≡◌, ◌++◌}
use Rattle.fabric_map.proofs.EntryLaws.{entries_below}
use Rattle.fabric_map.proofs.entries.push_entries.Given as goal

abbrev pub invariant-loop-id : goal.invariant-loop-id
invariant-loop-id l =
    l.entries.items ≡ l.fn.entries.items ++ entries_below l.devices l.device l.entry l.id
