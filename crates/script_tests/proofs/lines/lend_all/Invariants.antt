use Rattle.std.proofs.Common.{◌≡◌, take}
use Rattle.script_tests.proofs.lines.lend_all.Given as goal

abbrev pub invariant-loop-note : goal.invariant-loop-note
invariant-loop-note g l = record {
  grown : g.W.Watch.grew l.initial.watch (take l.note-index l.notes) l.watch;
  counts : g.W.Watch.faults l.watch ≡ g.W.Watch.faults l.initial.watch;
}
