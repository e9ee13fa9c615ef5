use Rattle.fabric_model.proofs.Tables.{by_tables}
use Rattle.fabric_model.proofs.laws.by_tables.Goals as goal

pub returns : goal.returns
returns c = λ start steps end legal. by_tables start steps end legal
