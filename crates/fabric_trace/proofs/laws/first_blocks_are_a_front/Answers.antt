use Rattle.fabric_trace.proofs.Traces.Unique.{first_blocks_front}
use Rattle.fabric_trace.proofs.laws.first_blocks_are_a_front.Goals as goal

pub returns : goal.returns
returns c = first_blocks_front
