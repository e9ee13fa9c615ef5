-- Which lines each event makes, from what is known before it.
use Rattle.std.specs.Prelude.{◌≡◌, ℕ, Bool, true, false, List, [], ◌∷◌, Option, Some, None, if◌then◌else◌}
use Rattle.rio_packets.specs.Fields.{prio_of, body_of}
use Rattle.rio_packets.specs.LinkForm.{LinkForm}
use Rattle.maint_packets.specs.Requests.{request_body}
use Rattle.maint_packets.specs.declared.request.Op.{Op}
use Rattle.maint_packets.specs.declared.request.Op.TheVariants as Ops
use Rattle.maint_packets.specs.declared.request.Request.{Request}
use Rattle.link_watch.specs.declared.side.Side.TheVariants.{A}
use Rattle.link_wires.specs.Wires.{fits}
use Rattle.rio_chars.specs.declared.edit.Edit.{Edit}
use Rattle.link_machine.specs.Calls.{has_chars, pump_notes, delivery_notes, is_silent, time_out_notes}
use Rattle.link_machine.specs.Acts.{Act, At, acts_notes}
use Rattle.link_machine.specs.Settling.{Settles}
use Rattle.fabric_script.specs.declared.ports.PortRef.{PortRef}
use Rattle.fabric_script.specs.declared.lines.Line.{Line}
use Rattle.fabric_script.specs.declared.lines.Line.TheVariants.{Send, Read, Write, Pump, Deliver, Alter, Erase, Insert, Timeout, Settle, Move, Collect, Run, Send16, Read16, Write16}
use Rattle.fabric_model.specs.Network.{Network, IsEndpoint, port_of, room_out, id_of, link_in}
use Rattle.fabric_model.specs.Steps.{Take, AtNode}
use Rattle.trace_lines.specs.Lines.{Full, Short, Early, TraceLine, Stepped, Lacked}
use Rattle.trace_lines.specs.Notes.{lines_of}
use Rattle.fabric_trace.specs.Known.{Seen, peer_of, link_at}
use Rattle.fabric_trace.specs.Fold.{edit_of}
use Rattle.fabric_trace.specs.Rounds.{Rounds}
use Rattle.fabric_trace.specs.Served.{IsMove, IsCollect}

-- ---- at a node

-- the lines where this packet is to be taken
abbrev pub take_lines : Seen → ℕ → List ℕ → List TraceLine
take_lines s node packet =
    if room_out s.network (port_of node) (prio_of packet)
    then Stepped (AtNode (Take node packet)) ∷ []
    else Lacked Full ∷ []

-- The packet is the link form of this body.
pub record SendsBody (s : Seen) (node : ℕ) (body : List ℕ) (block : List TraceLine) : Type 0 where
  pub packet : List ℕ
  pub endpoint : IsEndpoint s.network node
  pub form : LinkForm body packet
  pub lines : block ≡ take_lines s node packet

-- a packet with the bytes that the line spells, and the endpoint's ID of its size as source
abbrev pub IsSend : Seen → ℕ → ℕ → ℕ → Bool → ℕ → List ℕ → List TraceLine → Type 0
IsSend s node prio ftype large dest rest block =
    SendsBody s node (body_of prio ftype large dest (id_of s.network node large) rest) block

-- the request of a line, with the endpoint's ID of its size as source
abbrev pub request_from : Network → ℕ → ℕ → Bool → ℕ → ℕ → ℕ → ℕ → Op → Request
request_from net node prio large dest hop tid offset op = record {
  prio = prio;
  dest = dest;
  source = id_of net node large;
  large = large;
  op = op;
  tid = tid;
  hop = hop;
  offset = offset;
}

-- a packet that carries a request
abbrev pub Asks : Seen → ℕ → Request → List TraceLine → Type 0
Asks s node request block = SendsBody s node (request_body request) block

-- ---- at a link

-- turns of a port, whose peer is q
abbrev pub pumps : Seen → PortRef → ℕ → PortRef → List TraceLine
pumps s p n q = lines_of p q (pump_notes A n (link_at s p q))

-- characters of the wire of p come to q
abbrev pub delivers : Seen → PortRef → ℕ → PortRef → List TraceLine
delivers s p n q =
    if has_chars A n (link_at s p q)
    then lines_of p q (delivery_notes A n (link_at s p q))
    else Lacked Short ∷ []

abbrev pub time_out_lines : Seen → PortRef → PortRef → List TraceLine
time_out_lines s p q =
    if is_silent (link_at s p q)
    then lines_of p q (time_out_notes A (link_at s p q))
    else Lacked Early ∷ []

-- an edit fits the wire as it was before, or it does not
abbrev pub edits : Seen → Option (PortRef × Edit) → List TraceLine
edits s None = []
edits s (Some edit) = if fits edit.1 (s.wires edit.0).chars then [] else Lacked Short ∷ []

-- The link of two ports settles: what is done is of the schedule, and is noted.
pub record IsSettle (s : Seen) (a b : PortRef) (block : List TraceLine) : Type 0 where
  pub acts : List Act
  pub settles : Settles (At (link_at s a b)) acts
  pub lines : block ≡ lines_of a b (acts_notes (At (link_at s a b)) acts)

-- ---- every event

-- by the peer of the line's port: a port with no link has no block
abbrev pub WithPeer : Option PortRef → (PortRef → List TraceLine) → List TraceLine → Type 0
WithPeer None lines block = ⊥
WithPeer (Some q) lines block = block ≡ lines q

-- by the link of the line's port, its first end first
abbrev pub WithLink : Option (PortRef × PortRef) → (PortRef → PortRef → List TraceLine → Type 0)
    → List TraceLine → Type 0
WithLink None Block block = ⊥
WithLink (Some link) Block block = Block link.0 link.1 block

-- These are the lines of the event, behind the line with which it begins. Lines of set-up have
-- none.
abbrev pub IsBlock : Seen → Line → List TraceLine → Type 0
IsBlock s (Send node prio ftype dest hex) block = IsSend s node prio ftype false dest hex block
IsBlock s (Read node prio dest hop tid offset) block =
    Asks s node (request_from s.network node prio false dest hop tid offset Ops.Read) block
IsBlock s (Write node prio dest hop tid offset value) block =
    Asks s node (request_from s.network node prio false dest hop tid offset (Ops.Write value)) block
IsBlock s (Send16 node prio ftype dest hex) block = IsSend s node prio ftype true dest hex block
IsBlock s (Read16 node prio dest hop tid offset) block =
    Asks s node (request_from s.network node prio true dest hop tid offset Ops.Read) block
IsBlock s (Write16 node prio dest hop tid offset value) block =
    Asks s node (request_from s.network node prio true dest hop tid offset (Ops.Write value)) block
IsBlock s (Move node) block = IsMove s.network node block
IsBlock s (Collect node) block = IsCollect s.network node block
IsBlock s (Pump port n) block = WithPeer (peer_of s port) (pumps s port n) block
IsBlock s (Deliver port n) block = WithPeer (peer_of s port) (delivers s port n) block
IsBlock s (Alter port place ch) block = block ≡ edits s (edit_of (Alter port place ch))
IsBlock s (Erase port place n) block = block ≡ edits s (edit_of (Erase port place n))
IsBlock s (Insert port place ch) block = block ≡ edits s (edit_of (Insert port place ch))
IsBlock s (Timeout port) block = WithPeer (peer_of s port) (time_out_lines s port) block
IsBlock s (Settle port) block = WithLink (link_in s.network.links port) (IsSettle s) block
IsBlock s (Run n) block = Rounds IsSettle n s block
IsBlock s _ block = ⊥
