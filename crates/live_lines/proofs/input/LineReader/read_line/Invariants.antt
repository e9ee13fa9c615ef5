use Rattle.std.proofs.Common.{◌≡◌, ◌≤◌, ◌-◌, ◌++◌, ℕ, List, length}
use Rattle.std.specs.Io.KnownBytes.{Consumes}
use Rattle.live_lines.specs.Lines.{HasNoFeed}
use Rattle.live_lines.proofs.input.LineReader.read_line.Given as goal

abbrev pub invariant-loop-self : goal.invariant-loop-self
invariant-loop-self g l = record {
  read : (taken : List ℕ)
      × Consumes (g.S.Source.left l.initial.source) (g.S.Source.left l.source) taken
      × (l.initial.self ++ taken ≡ l.line.items ++ l.self);
  no_feed : HasNoFeed l.line.items;
  within : length l.line.items ≤ 4194305;
  counts : g.S.Source.faults l.source ≡ g.S.Source.faults l.initial.source;
}

abbrev pub decreases-loop-self : goal.decreases-loop-self
decreases-loop-self g l = 4194305 - length l.line.items
