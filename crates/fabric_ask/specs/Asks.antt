-- The lines of an ask: a request is taken, and then rounds are made until the host holds a packet.
use Rattle.std.specs.Prelude.{◌≡◌, ℕ, zero, suc, ◌==◌, ◌||◌, nat_lt, Bool, false, List, [], ◌∷◌, MatchBool}
use Rattle.maint_registers.specs.Devices.{Registers, is_switch}
use Rattle.maint_packets.specs.declared.request.Request.{Request}
use Rattle.rio_chars.specs.declared.edit.Edit.{Edit}
use Rattle.fabric_script.specs.declared.ports.PortRef.{PortRef}
use Rattle.fabric_model.specs.Network.{port_of, held}
use Rattle.fabric_model.specs.Steps.{Step}
use Rattle.fabric_trace.specs.Blocks.{Asks}
use Rattle.fabric_trace.specs.Fold.{seen_line}
use Rattle.fabric_trace.specs.Known.{Seen}
use Rattle.trace_lines.specs.Lines.{Full, Empty, TraceLine, Stepped, Lacked}
use Rattle.fabric_trace.specs.Rounds.{Joined, ServeNodes}
use Rattle.fabric_trace.specs.Served.{IsCollect}
use Rattle.fabric_ask.specs.Noise.{IsCarry}

-- one link after another carries what it can; the edits that are given, and those that are left
abbrev pub CarryAll : List (PortRef × PortRef) → List Edit → List Edit → Seen → List TraceLine
    → Type 0
CarryAll [] noise left s lines = (lines ≡ []) × (left ≡ noise)
CarryAll (link ∷ links) noise left s lines = (mid : List Edit)
    × Joined (IsCarry noise mid s link.0 link.1) (CarryAll links mid left) s lines

-- An endpoint collects one packet after another, until it holds none or has no room for an answer.
pub data CollectsAll : Seen → ℕ → List TraceLine → Type 0 where
  CollectRests : {s : Seen} {node : ℕ} {lines : List TraceLine}
      → IsCollect s.network node (Lacked Empty ∷ []) → lines ≡ [] → CollectsAll s node lines
  CollectGoes : {s : Seen} {node : ℕ} {lines : List TraceLine} (step : Step) (rest : List TraceLine)
      → IsCollect s.network node (Stepped step ∷ []) → lines ≡ Stepped step ∷ rest
      → CollectsAll (seen_line s (Stepped step)) node rest → CollectsAll s node lines
  CollectStops : {s : Seen} {node : ℕ} {lines : List TraceLine}
      → IsCollect s.network node (Lacked Full ∷ []) → lines ≡ Lacked Full ∷ []
      → CollectsAll s node lines

-- of these devices, of which the first is this node, one endpoint after another but the host
abbrev pub CollectNodes : ℕ → ℕ → List Registers → Seen → List TraceLine → Type 0
CollectNodes host node [] s lines = lines ≡ []
CollectNodes host node (device ∷ devices) s lines = MatchBool (is_switch device || (node == host))
    (CollectNodes host (suc node) devices s lines)
    (Joined (CollectsAll s node) (CollectNodes host (suc node) devices) s lines)

-- switches serve, and then endpoints collect
abbrev pub Handles : ℕ → Seen → List TraceLine → Type 0
Handles host s lines = Joined (λ first. ServeNodes 0 s.network.registers s first)
    (λ t rest. CollectNodes host 0 t.network.registers t rest) s lines

-- one round
abbrev pub AskRound : ℕ → List Edit → List Edit → Seen → List TraceLine → Type 0
AskRound host noise left s lines =
    Joined (CarryAll s.network.links noise left s) (Handles host) s lines

-- whether a node holds a packet
abbrev pub holds_some : ℕ → Seen → Bool
holds_some node s = nat_lt 0 (held s.network (port_of node))

-- at most so many rounds, until the host holds a packet, which it collects
abbrev pub AskRounds : ℕ → ℕ → List Edit → Seen → List TraceLine → Type 0
AskRounds host zero noise s lines = lines ≡ []
AskRounds host (suc n) noise s lines = (left : List Edit)
    × Joined (AskRound host noise left s) (λ t rest. MatchBool (holds_some host t)
    (IsCollect t.network host rest) (AskRounds host n left t rest)) s lines

-- so many rounds, after none of which the host holds a packet; the edits that are given, and left
abbrev pub Unheld : ℕ → ℕ → List Edit → List Edit → Seen → List TraceLine → Type 0
Unheld host zero noise left s lines = (lines ≡ []) × (left ≡ noise)
Unheld host (suc n) noise left s lines = (mid : List Edit)
    × Joined (AskRound host noise mid s)
    (λ t rest. (holds_some host t ≡ false) × Unheld host n mid left t rest) s lines

-- how many rounds an ask makes at most
abbrev pub most_rounds : ℕ
most_rounds = 520

-- the host's request is taken, and then come the rounds
abbrev pub IsAsk : ℕ → Request → List Edit → Seen → List TraceLine → Type 0
IsAsk host request noise s lines =
    Joined (Asks s host request) (AskRounds host most_rounds noise) s lines
