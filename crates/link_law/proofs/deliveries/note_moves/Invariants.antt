use Rattle.link_law.proofs.Prelude.{◌≡◌, take, map, move_note}
use Rattle.link_law.proofs.deliveries.note_moves.Given as goal

abbrev pub invariant-loop-step : goal.invariant-loop-step
invariant-loop-step g l = record {
  grown : g.W.Watch.grew l.initial.watch (map (move_note l.to) (take l.step-index l.moves)) l.watch;
  counts : g.W.Watch.faults l.watch ≡ g.W.Watch.faults l.initial.watch;
  side : l.to ≡ l.initial.to;
}
