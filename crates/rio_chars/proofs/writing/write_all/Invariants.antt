use Rattle.std.proofs.Common.{◌≡◌, length}
use Rattle.rio_chars.specs.Fronts.{AppendsFront}
use Rattle.rio_chars.proofs.writing.write_all.Given as goal

abbrev pub invariant-loop-rest : goal.invariant-loop-rest
invariant-loop-rest g l =
    (f : AppendsFront (g.K.Sink.written l.initial.sink) (g.K.Sink.written l.sink) l.initial.bytes)
    × (f.rest ≡ l.rest)
    × (g.K.Sink.faults l.sink ≡ g.K.Sink.faults l.initial.sink)

abbrev pub decreases-loop-rest : goal.decreases-loop-rest
decreases-loop-rest g l = length l.rest
