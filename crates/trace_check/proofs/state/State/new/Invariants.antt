use Rattle.trace_check.proofs.NewState.{AreNew}
use Rattle.trace_check.proofs.state.State.new.Given as goal

abbrev pub invariant-loop : goal.invariant-loop
invariant-loop l = AreNew l.counter l.wires.items l.hearings.items
