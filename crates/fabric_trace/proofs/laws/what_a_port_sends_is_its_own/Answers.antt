use Rattle.fabric_trace.proofs.Traces.Existing.{good_of}
use Rattle.fabric_trace.proofs.Shown.Sending.{made_owned}
use Rattle.fabric_trace.proofs.laws.what_a_port_sends_is_its_own.Goals as goal

pub returns : goal.returns
returns c = λ s lines ready made. made_owned (good_of ready) made
