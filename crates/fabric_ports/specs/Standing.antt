-- The lines for which a fabric stands.
use Rattle.std.specs.Prelude.{◌≡◌, List, None}
use Rattle.fabric_trace.specs.Fold.{seen}
use Rattle.fabric_trace.specs.Known.{Seen}
use Rattle.trace_lines.specs.Lines.{TraceLine}
use Rattle.fabric_trace.specs.Parts.{Made}
use Rattle.fabric_trace.specs.Ready.{IsReady}
use Rattle.fabric_ports.specs.Showing.{ShowsFabric}
use Rattle.fabric_ports.specs.declared.fabric.Fabric.{Fabric}

-- From a state that a trace may go on from, these lines were made of parts, every event that was
-- acted on was sent, and the fabric shows what is known after them.
pub record Stands (from : Seen) (lines : List TraceLine) (fabric : Fabric) : Type 0 where
  pub ready : IsReady from
  pub made : Made from lines
  pub sent : (seen from lines).undetected ≡ None
  pub shows : ShowsFabric fabric (seen from lines)

-- it stands for some lines
abbrev pub StandsForLines : Fabric → Type 0
StandsForLines fabric = (from : Seen) × (lines : List TraceLine) × Stands from lines fabric
