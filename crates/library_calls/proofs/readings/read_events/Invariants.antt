use Rattle.std.proofs.Common.{length}
use Rattle.library_calls.proofs.ReadingLaws.{ReadsOn}
use Rattle.library_calls.proofs.readings.read_events.Given as goal

abbrev pub invariant-loop-left : goal.invariant-loop-left
invariant-loop-left l =
    ReadsOn l.initial.framer.place l.fn.numbers l.left l.framer.place l.place l.events
    l.initial.room l.room

abbrev pub decreases-loop-left : goal.decreases-loop-left
decreases-loop-left l = length l.left
