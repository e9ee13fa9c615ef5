use Rattle.host_enumerate.proofs.Prelude.{take, flat_map, Writes, entry_text}
use Rattle.host_enumerate.proofs.map_lines.write_entries.Given as goal

abbrev pub invariant-loop-entry : goal.invariant-loop-entry
invariant-loop-entry g l =
    Writes l.initial.outbox l.outbox
    (flat_map entry_text (take l.entry-index l.entries))
