use Rattle.fabric_trace.proofs.Traces.Tracing.{block_exists}
use Rattle.fabric_trace.proofs.Traces.Unique.{block_one}
use Rattle.fabric_trace.proofs.laws.one_block.Goals as goal

pub returns : goal.returns
returns c = record { one = block_one; some = block_exists }
