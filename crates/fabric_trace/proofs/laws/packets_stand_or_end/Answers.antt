use Rattle.fabric_trace.proofs.SetUps.Balancing.{runs_stand, runs_balance}
use Rattle.fabric_trace.proofs.laws.packets_stand_or_end.Goals as goal

pub returns : goal.returns
returns c = record { stand = runs_stand; balance = runs_balance }
