-- A host's own registers, which the host changes without a step.
use Rattle.std.specs.Prelude.{◌≢◌, ℕ, List, [], ◌∷◌, ⊤}
use Rattle.maint_registers.specs.Devices.{Registers}
use Rattle.fabric_model.specs.Steps.{Leave, Answer, AtNode, ByDevice}
use Rattle.fabric_trace.specs.Known.{Seen}
use Rattle.fabric_trace.specs.Settings.{with_change}
use Rattle.trace_lines.specs.Lines.{TraceLine, Stepped}

-- what is known, with these registers for the host
abbrev pub with_own : ℕ → Registers → Seen → Seen
with_own host device s = record s { network = with_change s.network host (λ other. device) }

-- the registers of the host answer nothing
abbrev pub NoAnswer : ℕ → TraceLine → Type 0
NoAnswer host (Stepped (ByDevice (Answer p packet response))) = p.node ≢ host
NoAnswer host line = ⊤

abbrev pub NeverAnswers : ℕ → List TraceLine → Type 0
NeverAnswers host [] = ⊤
NeverAnswers host (line ∷ lines) = NoAnswer host line × NeverAnswers host lines

-- The host collects nothing: no packet leaves there, and its registers answer none.
abbrev pub IsElsewhere : ℕ → TraceLine → Type 0
IsElsewhere host (Stepped (AtNode (Leave n packet))) = n ≢ host
IsElsewhere host (Stepped (ByDevice (Answer p packet response))) = p.node ≢ host
IsElsewhere host line = ⊤

abbrev pub CollectsNothing : ℕ → List TraceLine → Type 0
CollectsNothing host [] = ⊤
CollectsNothing host (line ∷ lines) = IsElsewhere host line × CollectsNothing host lines
