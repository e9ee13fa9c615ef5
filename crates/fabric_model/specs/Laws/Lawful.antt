-- All laws of legal steps together: the headline of the steps that a trace says.
use Rattle.std.specs.Prelude.{List}
use Rattle.fabric_model.specs.Network.{Network}
use Rattle.fabric_model.specs.Steps.{Step, LegalFrom}
use Rattle.fabric_model.specs.Laws.Holding.{HoldingExactly}
use Rattle.fabric_model.specs.Laws.Leaving.{Once, Unchanged}
use Rattle.fabric_model.specs.Laws.Freeing.{FreedAfterHeld}
use Rattle.fabric_model.specs.Laws.Tables.{ByTables}
use Rattle.fabric_model.specs.Laws.Flows.{InOrder}

-- The steps are a legal run of plain first-in first-out queues that hold exactly the packets taken.
-- Each packet leaves at most once, where the tables name, unchanged but for its hop count, and in
-- order per flow while the routes stand, and no port frees it before the next hop holds it.
pub record Lawful (start : Network) (steps : List Step) (end : Network) : Type 0 where
  pub legal : LegalFrom start steps end
  pub holding_exactly : HoldingExactly start steps end
  pub once : Once start steps
  pub unchanged : Unchanged start steps
  pub freed_after_held : FreedAfterHeld start steps
  pub by_tables : ByTables start steps
  pub in_order : InOrder start steps
