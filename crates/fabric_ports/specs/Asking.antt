-- What an ask over a fabric needs, and how it ends.
use Rattle.std.specs.Prelude.{◌≡◌, ℕ, ◌≤◌, List, ◌++◌, length, Option, Some, None}
use Rattle.std.specs.Io.KnownBytes.{Appends}
use Rattle.rio_chars.specs.Fronts.{AppendsFront}
use Rattle.maint_packets.specs.declared.request.Request.{Request}
use Rattle.maint_packets.specs.declared.response.Response.{Response}
use Rattle.link_model.specs.declared.event.Event.{Event}
use Rattle.rio_chars.specs.declared.edit.Edit.{Edit}
use Rattle.fabric_script.specs.declared.ports.PortRef.{PortRef}
use Rattle.fabric_model.specs.Network.{Network}
use Rattle.fabric_trace.specs.Fold.{seen}
use Rattle.fabric_trace.specs.Known.{Seen}
use Rattle.trace_lines.specs.Lines.{TraceLine}
use Rattle.fabric_trace.specs.Parts.{Made}
use Rattle.trace_lines.specs.Text.{trace_text}
use Rattle.fabric_ask.specs.Answered.{IsRoundTrip, after_request, response_home}
use Rattle.fabric_ask.specs.Asks.{IsAsk}
use Rattle.fabric_ask.specs.Course.{IsLaid}
use Rattle.fabric_ask.specs.Only.{IsClear}
use Rattle.fabric_ask.specs.Own.{NeverAnswers}
use Rattle.fabric_ask.specs.Quiet.{AreQuiet}
use Rattle.fabric_ports.specs.Spending.{AskSpends}
use Rattle.fabric_ports.specs.Standing.{Stands}
use Rattle.fabric_ports.specs.declared.asking.AskEnd.{AskEnd}
use Rattle.fabric_ports.specs.declared.asking.AskEnd.TheVariants.{Unanswered, Undetected, WriteFault, NoMemory}
use Rattle.fabric_ports.specs.declared.fabric.Fabric.{Fabric}

-- ---- before

-- The fabric stands for these lines, and no packet is in its network. Links join ports of devices,
-- and the host is an endpoint.
pub record CanAsk (host : ℕ) (from : Seen) (lines : List TraceLine) (fabric : Fabric) : Type 0
  where
    pub stands : Stands from lines fabric
    pub clear : IsClear (seen from lines).network
    pub laid : IsLaid (seen from lines).network.registers (seen from lines).network.links host

-- for some lines
abbrev pub MayAsk : ℕ → Fabric → Type 0
MayAsk host fabric = (from : Seen) × (lines : List TraceLine) × CanAsk host from lines fabric

-- ---- afterwards

-- a request goes to a device and the response comes back, in this network
abbrev pub Returns : Network → ℕ → Request → PortRef → Type 0
Returns net host request at = IsRoundTrip net.registers net.links host request at

-- The lines of an ask were written. By the tables the request goes to the device of a port, and
-- this is the response of that device as it comes back. `left` are the edits of the noise that are
-- left. The fabric stands for the lines with those of the ask, and the host may ask again. The
-- host's own registers answered nothing.
pub record Replied (names : List (List ℕ)) (written written_after : Option (List ℕ)) (host : ℕ)
    (request : Request) (noise left : List Edit) (from : Seen) (lines : List TraceLine)
    (fabric : Fabric) (response : Response) : Type 0 where
  pub block : List TraceLine
  pub told : Appends written written_after (trace_text names block)
  pub is : IsAsk host request noise (seen from lines) block
  pub spends : AskSpends host request noise left (seen from lines) block
  pub again : CanAsk host from (lines ++ block) fabric
  pub quiet : AreQuiet (seen from (lines ++ block)).network.links (seen from (lines ++ block))
  pub at : PortRef
  pub trip : Returns (seen from lines).network host request at
  pub response_is : response
      ≡ response_home (seen from lines).network.registers (seen from lines).network.links host
      request at
  pub registers : (seen from (lines ++ block)).network.registers
      ≡ after_request (seen from lines).network.registers at request
  pub links : (seen from (lines ++ block)).network.links ≡ (seen from lines).network.links
  pub own : NeverAnswers host block

-- The host's registers answer nothing before the last of these lines.
pub record NeverBefore (host : ℕ) (block : List TraceLine) : Type 0 where
  pub front : List TraceLine
  pub last : List TraceLine
  pub whole : block ≡ front ++ last
  pub one : length last ≤ 1
  pub own : NeverAnswers host front

-- The lines of an ask were written, and every event that was acted on was sent. By the tables the
-- request goes to no other device from which the response comes back.
pub record Lost (names : List (List ℕ)) (written written_after : Option (List ℕ)) (host : ℕ)
    (request : Request) (noise : List Edit) (from : Seen) (lines : List TraceLine) : Type 0 where
  pub block : List TraceLine
  pub told : Appends written written_after (trace_text names block)
  pub is : IsAsk host request noise (seen from lines) block
  pub sent : (seen from (lines ++ block)).undetected ≡ None
  pub lost : (at : PortRef) → ¬ Returns (seen from lines).network host request at
  pub own : NeverBefore host block

-- The lines of an ask were written, up to an event that was acted on and not sent, which is this
-- one.
pub record AskedUndetected (names : List (List ℕ)) (written written_after : Option (List ℕ))
    (host : ℕ) (request : Request) (noise : List Edit) (from : Seen) (lines : List TraceLine)
    (port : PortRef) (event : Event) : Type 0 where
  pub block : List TraceLine
  pub told : Appends written written_after (trace_text names block)
  pub is : IsAsk host request noise (seen from lines) block
  pub made : Made from (lines ++ block)
  pub found : (seen from (lines ++ block)).undetected
      ≡ Some (record { port = port; event = event })
  pub own : NeverAnswers host block

-- The first lines of an ask were written.
pub record AskedFront (names : List (List ℕ)) (written written_after : Option (List ℕ)) (host : ℕ)
    (request : Request) (noise : List Edit) (from : Seen) (lines : List TraceLine) : Type 0 where
  pub block : List TraceLine
  pub front : List TraceLine
  pub rest : List TraceLine
  pub told : Appends written written_after (trace_text names front)
  pub is : IsAsk host request noise (seen from lines) block
  pub whole : block ≡ front ++ rest

-- A front of the text of an ask was written, which may end in a line.
pub record AskedTextFront (names : List (List ℕ)) (written written_after : Option (List ℕ))
    (host : ℕ) (request : Request) (noise : List Edit) (from : Seen) (lines : List TraceLine)
    : Type 0 where
  pub block : List TraceLine
  pub told : AppendsFront written written_after (trace_text names block)
  pub is : IsAsk host request noise (seen from lines) block

-- by why the ask has no answer
abbrev pub AskEnds : List (List ℕ) → Option (List ℕ) → Option (List ℕ) → ℕ → Request → List Edit
    → Seen → List TraceLine → AskEnd → Type 0
AskEnds names written after host request noise from lines Unanswered =
    Lost names written after host request noise from lines
AskEnds names written after host request noise from lines (Undetected port event) =
    AskedUndetected names written after host request noise from lines port event
AskEnds names written after host request noise from lines WriteFault =
    AskedTextFront names written after host request noise from lines
AskEnds names written after host request noise from lines NoMemory =
    AskedFront names written after host request noise from lines
