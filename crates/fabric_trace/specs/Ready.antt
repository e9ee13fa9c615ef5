-- A state that a trace may go on from, whatever came before it.
use Rattle.std.specs.Prelude.{◌≡◌, None}
use Rattle.fabric_model.specs.Laws.Forms.{IsFormed}
use Rattle.fabric_model.specs.Laws.Priorities.{ByPriority}
use Rattle.fabric_model.specs.Laws.Proper.{AreProper}
use Rattle.fabric_trace.specs.Known.{Seen}
use Rattle.fabric_trace.specs.Links.{AreLinks}

-- All that the network holds is in its link form, in lists of its own priority, and each number of
-- a device fits its register. Each port stands in at most one link. The two ports of each link are
-- sound with the wires between them, while every event that was acted on was sent.
pub record IsReady (s : Seen) : Type 0 where
  pub formed : IsFormed s.network
  pub by_priority : ByPriority s.network
  pub proper : AreProper s.network.links
  pub links : s.undetected ≡ None → AreLinks s
