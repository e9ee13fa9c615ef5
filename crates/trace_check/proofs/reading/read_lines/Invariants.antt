use Rattle.trace_check.specs.Starting.{net_of}
use Rattle.trace_check.proofs.StopLaws.{IsAhead, left_ahead}
use Rattle.trace_check.proofs.reading.read_lines.Given as goal

abbrev pub invariant-loop-ahead : goal.invariant-loop-ahead
invariant-loop-ahead l =
    IsAhead l.fn.set_up.known (net_of l.fn.set_up) l.fn.bytes l.fn.first l.number l.ahead
    l.reader.ended l.reader.steps l.reader.state

abbrev pub decreases-loop-ahead : goal.decreases-loop-ahead
decreases-loop-ahead l = left_ahead l.ahead
