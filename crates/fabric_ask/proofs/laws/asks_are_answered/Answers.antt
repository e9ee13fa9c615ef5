use Rattle.fabric_trace.proofs.Traces.Existing.{good_of}
use Rattle.fabric_ask.proofs.Answering.{is_replied, goes_there}
use Rattle.fabric_ask.proofs.laws.asks_are_answered.Goals as goal

pub returns-clause-replied : goal.returns-clause-replied
returns-clause-replied c = λ host request noise s lines at ready none clear laid low reads ask still
    trip. is_replied host request noise s lines (good_of ready) none clear laid
    ready.formed.registers low reads ask still at trip

pub returns-clause-only_then : goal.returns-clause-only_then
returns-clause-only_then c = λ host request noise s lines front packet ready none clear laid low
    reads ask still whole. goes_there host request noise s lines (good_of ready) none clear laid
    ready.formed.registers low reads ask still front packet whole
