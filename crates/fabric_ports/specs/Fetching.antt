-- What an ask tells, and what it answers of it.
use Rattle.std.specs.Prelude.{◌≡◌, ◌≢◌, ℕ, List, [], ◌∷◌, ◌++◌, Option, Some, None, Result, Ok, Err, IfOk, ⊤}
use Rattle.maint_packets.specs.Responses.{response_of}
use Rattle.maint_packets.specs.declared.request.Request.{Request}
use Rattle.maint_packets.specs.declared.response.Response.{Response}
use Rattle.rio_chars.specs.declared.edit.Edit.{Edit}
use Rattle.fabric_model.specs.Steps.{Leave, AtNode}
use Rattle.trace_lines.specs.Lines.{TraceLine, Stepped}
use Rattle.fabric_ask.specs.Asks.{AskRounds, IsAsk}
use Rattle.fabric_ports.specs.declared.answers.FabricEnd.{FabricEnd}
use Rattle.fabric_ports.specs.declared.answers.FabricEnd.TheVariants as Ends
use Rattle.fabric_ports.specs.declared.answers.Happened.{Happened}
use Rattle.fabric_ports.specs.declared.answers.Happened.TheVariants.{Left}
use Rattle.fabric_ports.specs.declared.asking.AskEnd.{AskEnd}
use Rattle.fabric_ports.specs.declared.asking.AskEnd.TheVariants.{Unanswered, Undetected, WriteFault, NoMemory}
use Rattle.fabric_ports.specs.Ran.{Kind}
use Rattle.fabric_ports.specs.Spending.{RoundsSpend, AskSpends}

-- ---- what leaves at the host

-- the packet that left, if one did
abbrev pub left_of : Happened → Option (List ℕ)
left_of (Left packet) = Some packet
left_of _ = None

-- no packet leaves at the host in a line, in any of these lines
abbrev pub NoLeave : ℕ → TraceLine → Type 0
NoLeave host (Stepped (AtNode (Leave n packet))) = n ≢ host
NoLeave host line = ⊤

abbrev pub NoneLeaves : ℕ → List TraceLine → Type 0
NoneLeaves host [] = ⊤
NoneLeaves host (line ∷ lines) = NoLeave host line × NoneLeaves host lines

-- this packet leaves at the host in the last line, or none in any
abbrev pub Leaves : ℕ → Option (List ℕ) → List TraceLine → Type 0
Leaves host None lines = NoneLeaves host lines
Leaves host (Some packet) lines =
    (front : List TraceLine) × (lines ≡ front ++ Stepped (AtNode (Leave host packet)) ∷ [])

-- The lines of at most so many rounds, and of an ask; and if the call came to its end, what leaves
-- in them, and which edits are left.
abbrev pub RoundsLeave : ℕ → ℕ → List Edit → List Edit → Result (Option (List ℕ)) FabricEnd → Kind
RoundsLeave host rounds noise left told s lines = AskRounds host rounds noise s lines
    × IfOk told (λ packet. Leaves host packet lines × RoundsSpend host rounds noise left s lines)

abbrev pub AskLeaves : ℕ → Request → List Edit → List Edit → Result (Option (List ℕ)) FabricEnd
    → Kind
AskLeaves host request noise left told s lines = IsAsk host request noise s lines
    × IfOk told (λ packet. Leaves host packet lines × AskSpends host request noise left s lines)

-- ---- what is answered

-- the response, if there is one
abbrev pub response_or_end : Option Response → Result Response AskEnd
response_or_end None = Err Unanswered
response_or_end (Some response) = Ok response

-- the response that a packet carries
abbrev pub response_in : Option (List ℕ) → Option Response
response_in None = None
response_in (Some packet) = response_of packet

-- by what left at the host, or why its lines have ended
abbrev pub ask_answer : Result (Option (List ℕ)) FabricEnd → Result Response AskEnd
ask_answer (Ok left) = response_or_end (response_in left)
ask_answer (Err (Ends.Undetected port event)) = Err (Undetected port event)
ask_answer (Err Ends.Failed) = Err WriteFault
ask_answer (Err Ends.NoMemory) = Err NoMemory
