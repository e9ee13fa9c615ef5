use Rattle.std.proofs.Common.{◌≡◌, length}
use Rattle.link_model.specs.Places.{place_after}
use Rattle.link_model.specs.Said.{said}
use Rattle.trace_counts.specs.Sums.{noted_all}
use Rattle.trace_counts.proofs.tally.PortTally.send.Given as goal

abbrev pub invariant-loop-left : goal.invariant-loop-left
invariant-loop-left l =
    (noted_all l.self-inside.sums (said l.self-inside.framer.place l.left)
    ≡ noted_all l.initial.self-inside.sums (said l.initial.self-inside.framer.place l.initial.left))
    × (place_after l.self-inside.framer.place l.left
    ≡ place_after l.initial.self-inside.framer.place l.initial.left)

abbrev pub decreases-loop-left : goal.decreases-loop-left
decreases-loop-left l = length l.left
