-- What `run` does: rounds, in each of which every link settles in the order of its line, and then
-- every switch in the order of its line makes steps until no packet of it can go.
use Rattle.std.specs.Prelude.{◌≡◌, ℕ, zero, suc, List, [], ◌∷◌, ◌++◌, Option, Some, None, MatchBool}
use Rattle.link_machine.specs.Rest.{IsSettled}
use Rattle.maint_registers.specs.Devices.{Registers, is_switch}
use Rattle.fabric_script.specs.declared.ports.PortRef.{PortRef}
use Rattle.fabric_model.specs.Steps.{DeviceStep, ByDevice}
use Rattle.trace_lines.specs.Lines.{NoStep, TraceLine, Stepped, Lacked}
use Rattle.fabric_trace.specs.Known.{UndetectedAt, Seen, link_at}
use Rattle.fabric_trace.specs.Fold.{seen_line, seen}
use Rattle.fabric_trace.specs.Served.{IsMove}

-- More follows while every event that was acted on was sent; else the last part.
abbrev pub Follows : Option UndetectedAt → (List TraceLine → Type 0)
    → (UndetectedAt → List TraceLine → Type 0)
    → List TraceLine → Type 0
Follows None More Last rest = More rest
Follows (Some found) More Last rest = Last found rest

abbrev pub NamesNothing : UndetectedAt → List TraceLine → Type 0
NamesNothing found lines = lines ≡ []

-- Lines, and more behind them while every event that was acted on was sent.
abbrev pub Joined : (List TraceLine → Type 0) → (Seen → List TraceLine → Type 0) → Seen
    → List TraceLine → Type 0
Joined First More s lines = (first : List TraceLine) × (rest : List TraceLine)
    × (lines ≡ first ++ rest) × First first
    × Follows (seen s first).undetected (More (seen s first)) NamesNothing rest

-- What is said of the lines in which a link settles: its ends, and what is known before.
abbrev pub AtLink : Type 1
AtLink = Seen → PortRef → PortRef → List TraceLine → Type 0

-- one link after another settles
abbrev pub SettleAll : AtLink → List (PortRef × PortRef) → Seen → List TraceLine → Type 0
SettleAll Link [] s lines = lines ≡ []
SettleAll Link (link ∷ links) s lines =
    Joined (Link s link.0 link.1) (SettleAll Link links) s lines

-- A switch makes one step after another, until no packet of it can go.
pub data ServesAll : Seen → ℕ → List TraceLine → Type 0 where
  ServeRests : {s : Seen} {node : ℕ} {lines : List TraceLine}
      → IsMove s.network node (Lacked NoStep ∷ [])
      → lines ≡ [] → ServesAll s node lines
  ServeGoes : {s : Seen} {node : ℕ} {lines : List TraceLine} (step : DeviceStep)
      (rest : List TraceLine)
      → IsMove s.network node (Stepped (ByDevice step) ∷ [])
      → lines ≡ Stepped (ByDevice step) ∷ rest
      → ServesAll (seen_line s (Stepped (ByDevice step))) node rest → ServesAll s node lines

-- of these devices, of which the first is this node, one switch after another
abbrev pub ServeNodes : ℕ → List Registers → Seen → List TraceLine → Type 0
ServeNodes node [] s lines = lines ≡ []
ServeNodes node (device ∷ devices) s lines = MatchBool (is_switch device)
    (Joined (ServesAll s node) (ServeNodes (suc node) devices) s lines)
    (ServeNodes (suc node) devices s lines)

-- one round
abbrev pub Round : AtLink → Seen → List TraceLine → Type 0
Round Link s lines = Joined (SettleAll Link s.network.links s)
    (λ t rest. ServeNodes 0 t.network.registers t rest) s lines

-- so many rounds
abbrev pub Rounds : AtLink → ℕ → Seen → List TraceLine → Type 0
Rounds Link zero s lines = lines ≡ []
Rounds Link (suc n) s lines = Joined (Round Link s) (Rounds Link n) s lines

-- the link settles, and is at rest then if every event that was acted on was sent
abbrev pub SettlesTo : AtLink → AtLink
SettlesTo Link s a b lines = Link s a b lines
    × ((seen s lines).undetected ≡ None → IsSettled (link_at (seen s lines) a b))
