use Rattle.std.proofs.Common.{false}
use Rattle.fabric_trace.proofs.Frees.Notings.{made_noted}
use Rattle.fabric_trace.proofs.laws.frees_stand_in_deliveries.Goals as goal

pub returns : goal.returns
returns c = λ net lines p made. made_noted p false made
