use Rattle.fabric_trace.proofs.Traces.Existing.{good_of}
use Rattle.fabric_ask.proofs.Stilling.{ask_still}
use Rattle.fabric_ask.proofs.laws.without_edits_nothing_is_undetected.Goals as goal

pub returns : goal.returns
returns c = λ host request s lines ready none quiet ask.
    ask_still host request s lines (good_of ready) none quiet ask
