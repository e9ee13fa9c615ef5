-- How a trace ends early.
use Rattle.std.specs.Prelude.{◌≡◌, ◌<◌, ℕ, List, [], ◌∷◌, length}
use Rattle.trace_lines.specs.Lines.{Undetected as UndetectedLine}
use Rattle.trace_lines.specs.Writing.{Adds}
use Rattle.trace_lines.specs.declared.writer.TraceWriter.{TraceWriter}
use Rattle.fabric_ports.specs.declared.answers.FabricEnd.{FabricEnd}
use Rattle.fabric_ports.specs.declared.answers.FabricEnd.TheVariants.{Undetected, Failed, NoMemory}
use Rattle.fabric_replay.specs.declared.replaying.ReplayEnd.{ReplayEnd}
use Rattle.fabric_replay.specs.declared.replaying.ReplayEnd.TheVariants as Ends

-- the port that it tells of is of a node that has a name
abbrev pub EndIsNamed : List (List ℕ) → FabricEnd → Type 0
EndIsNamed names (Undetected port event) = port.node < length names
EndIsNamed names Failed = Unit {0}
EndIsNamed names NoMemory = Unit {0}

-- a replay ends for the reason that an event did, and the last line tells of an event that was not
-- sent
abbrev pub EndsBy : FabricEnd → ℕ → {K : Type 0} → TraceWriter K → TraceWriter K → ReplayEnd
    → Type 0
EndsBy (Undetected port event) line old new result =
    (result ≡ Ends.Undetected line port event) × Adds old new (UndetectedLine line port event ∷ [])
EndsBy Failed line old new result = (result ≡ Ends.WriteFault) × (new ≡ old)
EndsBy NoMemory line old new result = (result ≡ Ends.NoMemory) × (new ≡ old)
