use Rattle.fabric_trace.proofs.Traces.Existing.{good_of}
use Rattle.fabric_trace.proofs.Links.Ways.{made_ways}
use Rattle.fabric_trace.proofs.laws.no_sender_fails_within_a_delivery.Goals as goal

pub returns : goal.returns
returns c = λ s lines ready made. made_ways (good_of ready) made
