use Rattle.std.proofs.Common.{refl}
use Rattle.fabric_model.proofs.Around.{around_proper, through_legal}
use Rattle.fabric_model.proofs.examples.through_switches.Goals as goal

pub returns : goal.returns
returns c = record { proper = around_proper; legal = through_legal; gone = refl }
