-- What an event of a script needs of a fabric, and what it did.
use Rattle.std.specs.Prelude.{◌≡◌, ◌≢◌, ◌≤◌, ℕ, Bool, true, false, List, [], ◌∷◌, length, None, Result}
use Rattle.rio_packets.specs.Fields.{body_of}
use Rattle.maint_packets.specs.Requests.{request_body}
use Rattle.maint_packets.specs.declared.request.Op.{Op}
use Rattle.maint_packets.specs.declared.request.Op.TheVariants as Ops
use Rattle.maint_packets.specs.declared.request.Request.{Request}
use Rattle.fabric_script.specs.Lines.{is_event}
use Rattle.fabric_script.specs.declared.lines.Line.{Line}
use Rattle.fabric_script.specs.declared.lines.Line.TheVariants.{Send, Read, Write, Pump, Deliver, Alter, Erase, Insert, Timeout, Settle, Collect, Send16, Read16, Write16}
use Rattle.fabric_model.specs.Network.{Network}
use Rattle.fabric_model.specs.Steps.{Leave, Answer, AtNode, ByDevice}
use Rattle.fabric_trace.specs.Blocks.{IsBlock}
use Rattle.fabric_trace.specs.Events.{MayHappen}
use Rattle.fabric_trace.specs.Fold.{seen}
use Rattle.fabric_trace.specs.Known.{Seen}
use Rattle.trace_lines.specs.Lines.{Full as NoRoom, NoStep, TraceLine, Begun, Stepped, Lacked}
use Rattle.fabric_trace.specs.Served.{IsMove}
use Rattle.trace_lines.specs.Writing.{Adds}
use Rattle.trace_lines.specs.declared.writer.TraceWriter.{TraceWriter}
use Rattle.fabric_ports.specs.declared.answers.FabricEnd.{FabricEnd}
use Rattle.fabric_ports.specs.declared.answers.Happened.{Happened}
use Rattle.fabric_ports.specs.declared.answers.Happened.TheVariants.{Took, Full, Left, Answered, Empty, Other}
use Rattle.fabric_ports.specs.declared.fabric.Fabric.{Fabric}
use Rattle.fabric_ports.specs.Ran.{Kind, RanBehind}
use Rattle.fabric_ports.specs.Showing.{ShowsFabric}
use Rattle.fabric_ports.specs.Standing.{Stands}

-- ---- before

-- The fabric stands for some lines, and the event may follow them. Each device of the fabric has a
-- name, and a byte tells them apart.
pub record MayFollow (fabric : Fabric) (names : List (List ℕ)) (line : Line) : Type 0 where
  pub from : Seen
  pub lines : List TraceLine
  pub stands : Stands from lines fabric
  pub happens : MayHappen names (seen from lines).network line
  pub event : is_event line ≡ true
  pub names_suffice : length fabric.devices.items ≤ length names
  pub few_names : length names ≤ 256

-- a request with IDs of a size, from this source
abbrev pub request_by : ℕ → ℕ → Bool → ℕ → ℕ → ℕ → ℕ → Op → Request
request_by source prio large dest hop tid offset op = record {
  prio = prio;
  dest = dest;
  source = source;
  large = large;
  op = op;
  tid = tid;
  hop = hop;
  offset = offset;
}

-- the body of the packet that a line has taken, from a source with these IDs, by their size
abbrev pub body_in : Line → (Bool → ℕ) → List ℕ
body_in (Send node prio ftype dest hex) ids = body_of prio ftype false dest (ids false) hex
body_in (Read node prio dest hop tid offset) ids =
    request_body (request_by (ids false) prio false dest hop tid offset Ops.Read)
body_in (Write node prio dest hop tid offset value) ids =
    request_body (request_by (ids false) prio false dest hop tid offset (Ops.Write value))
body_in (Send16 node prio ftype dest hex) ids = body_of prio ftype true dest (ids true) hex
body_in (Read16 node prio dest hop tid offset) ids =
    request_body (request_by (ids true) prio true dest hop tid offset Ops.Read)
body_in (Write16 node prio dest hop tid offset value) ids =
    request_body (request_by (ids true) prio true dest hop tid offset (Ops.Write value))
body_in _ ids = []

-- it is done at a link
abbrev pub IsAtLink : Line → Type 0
IsAtLink (Pump port n) = Unit {0}
IsAtLink (Deliver port n) = Unit {0}
IsAtLink (Alter port place ch) = Unit {0}
IsAtLink (Erase port place n) = Unit {0}
IsAtLink (Insert port place ch) = Unit {0}
IsAtLink (Timeout port) = Unit {0}
IsAtLink (Settle port) = Unit {0}
IsAtLink _ = ⊥

-- ---- afterwards

-- what a line answers that has a packet taken, by the lines of its block
abbrev pub answer_taken : List TraceLine → Happened
answer_taken (Lacked NoRoom ∷ block) = Full
answer_taken _ = Took

-- what a `collect` answers
abbrev pub answer_collected : List TraceLine → Happened
answer_collected (Stepped (AtNode (Leave n packet)) ∷ block) = Left packet
answer_collected (Stepped (ByDevice (Answer port packet response)) ∷ block) = Answered
answer_collected (Lacked NoRoom ∷ block) = Full
answer_collected _ = Empty

-- what an event answers, by the lines of its block
abbrev pub happened : Line → List TraceLine → Happened
happened (Send node prio ftype dest hex) block = answer_taken block
happened (Read node prio dest hop tid offset) block = answer_taken block
happened (Write node prio dest hop tid offset value) block = answer_taken block
happened (Send16 node prio ftype dest hex) block = answer_taken block
happened (Read16 node prio dest hop tid offset) block = answer_taken block
happened (Write16 node prio dest hop tid offset value) block = answer_taken block
happened (Collect node) block = answer_collected block
happened _ block = Other

-- A call wrote lines which are such, and the fabric shows what is known after them. `s` is what was
-- known before.
pub record Did (Is : List TraceLine → Type 0) {K : Type 0} (old new : TraceWriter K) (s : Seen)
    (fabric : Fabric) : Type 0 where
  pub block : List TraceLine
  pub adds : Adds old new block
  pub is : Is block
  pub sent : (seen s block).undetected ≡ None
  pub shows : ShowsFabric fabric (seen s block)

-- A switch made a step, which is this block; or it can make none, and nothing was written.
abbrev pub IsSwitchStep : Network → ℕ → Bool → List TraceLine → Type 0
IsSwitchStep net node true block = IsMove net node block × (block ≢ Lacked NoStep ∷ [])
IsSwitchStep net node false block = IsMove net node (Lacked NoStep ∷ []) × (block ≡ [])

-- the event has no other block
abbrev pub IsOnlyBlock : Seen → Line → List TraceLine → Type 0
IsOnlyBlock s line block = (other : List TraceLine) → IsBlock s line other → other ≡ block

-- the block of an event, which has no other
abbrev pub IsOwnBlock : Line → Kind
IsOwnBlock line s block = IsBlock s line block × IsOnlyBlock s line block

-- that block, and what the event answers by it
abbrev pub IsAnsweredBlock : Line → Happened → Kind
IsAnsweredBlock line answer s block =
    IsBlock s line block × IsOnlyBlock s line block × (answer ≡ happened line block)

-- behind these lines an event told the line with which it begins, and lines of a kind behind it
abbrev pub Evented : Line → Kind → {K : Type 0} → TraceWriter K → TraceWriter K → Seen
    → List TraceLine → Result Fabric FabricEnd → Type 0
Evented line Is old new from lines end = RanBehind (Begun line ∷ []) Is old new from lines end

-- behind whatever lines a fabric stood for before
abbrev pub FabricEvented : Line → Kind → Fabric → {K : Type 0} → TraceWriter K → TraceWriter K
    → Result Fabric FabricEnd → Type 0
FabricEvented line Is fabric old new end = (from : Seen) (lines : List TraceLine)
    → Stands from lines fabric → Evented line Is old new from lines end
