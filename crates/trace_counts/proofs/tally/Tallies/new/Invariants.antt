use Rattle.std.proofs.Common.{◌≡◌, replicate}
use Rattle.trace_counts.specs.Sums.{nothing_done}
use Rattle.trace_counts.proofs.tally.Tallies.new.Given as goal

abbrev pub invariant-loop : goal.invariant-loop
invariant-loop l = l.items.items ≡ replicate l.counter nothing_done
