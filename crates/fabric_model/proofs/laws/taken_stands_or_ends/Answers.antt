use Rattle.fabric_model.proofs.Stocks.{steps_balance, taken_balance}
use Rattle.fabric_model.proofs.laws.taken_stands_or_ends.Goals as goal

pub returns : goal.returns
returns c = record { any = steps_balance; all = taken_balance }
