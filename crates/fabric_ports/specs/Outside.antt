-- A port without a link, beside a device outside the fabric: what it takes from there and sends
-- there, and for what the fabric stands afterwards.
use Rattle.std.specs.Prelude.{◌≡◌, ℕ, zero, suc, ◌+◌, List, [], ◌∷◌, ◌++◌, map, take, None, if◌then◌else◌}
use Rattle.rio_chars.specs.declared.chars.Char.{Char}
use Rattle.link_buffers.specs.Queues.{list_at, packet_count}
use Rattle.link_port.specs.Ports.{PortState}
use Rattle.link_port.specs.Steps.{takes}
use Rattle.link_port.specs.Streams.{takes_each}
use Rattle.link_port.specs.Turns.{turns_to, turn_sends, timed_out}
use Rattle.link_wires.specs.Deliveries.{moves_of}
use Rattle.link_wires.specs.Wires.{answers}
use Rattle.link_wires.specs.declared.moves.Move.{Move}
use Rattle.link_wires.specs.declared.moves.Move.TheVariants.{Held, Freed}
use Rattle.fabric_script.specs.declared.ports.PortRef.{PortRef}
use Rattle.fabric_model.specs.Laws.Nodes.{IsPortOf}
use Rattle.fabric_model.specs.Network.{Item, Lanes, Network, same_port, with_lent}
use Rattle.fabric_model.specs.Steps.{Hold, Free, Linked}
use Rattle.fabric_trace.specs.Fold.{seen}
use Rattle.fabric_trace.specs.Known.{Seen, peer_of, port_seen, with_half}
use Rattle.fabric_trace.specs.Settings.{with_end}
use Rattle.fabric_trace.specs.Views.{half_of}
use Rattle.trace_lines.specs.Lines.{Sent, Got, Fired, TraceLine, Stepped, Signed}
use Rattle.trace_lines.specs.Writing.{Adds}
use Rattle.trace_lines.specs.declared.writer.TraceWriter.{TraceWriter}
use Rattle.fabric_ports.specs.Standing.{Stands}
use Rattle.fabric_ports.specs.declared.fabric.Fabric.{Fabric}

-- ---- before

-- it is a port of a device, and has no link
pub record IsFreePort (s : Seen) (port : PortRef) : Type 0 where
  pub at_device : IsPortOf s.network.registers port
  pub unlinked : peer_of s port ≡ None

-- the fabric stands for some lines, and the port has no link then
pub record PortIsFree (fabric : Fabric) (port : PortRef) : Type 0 where
  pub from : Seen
  pub lines : List TraceLine
  pub stands : Stands from lines fabric
  pub free : IsFreePort (seen from lines) port

-- ---- what is known if a port stands so

-- these packets, as items that were taken at a port, and numbered from this number on
abbrev pub numbered_items : PortRef → ℕ → List (List ℕ) → List Item
numbered_items p number [] = []
numbered_items p number (packet ∷ packets) =
    record { number = number; port = p; taken = packet; now = packet }
    ∷ numbered_items p (suc number) packets

-- four lists of packets, as lanes; the numbers of a list go on after those of the lists before it
abbrev pub numbered_lanes : PortRef → ℕ → List (List (List ℕ)) → ℕ → List Item
numbered_lanes p number lists r =
    numbered_items p (number + packet_count (take r lists)) (list_at lists r)

-- the lanes of all ports, with these at one port
abbrev pub with_own_lanes : Lanes → PortRef → (ℕ → List Item) → Lanes
with_own_lanes lanes p own q = if same_port q p then own else lanes q

-- The network, in which a port holds the packets of this state and has those to send, with numbers
-- that were not given before. It has lent none: no port of the fabric is the next hop.
abbrev pub network_outside : PortRef → PortState → Network → Network
network_outside p port net =
    let held = packet_count port.received.lists in
    record net {
      received = with_own_lanes net.received p (numbered_lanes p net.given port.received.lists);
      waiting = with_own_lanes net.waiting p (numbered_lanes p (net.given + held) port.queued);
      lent = with_lent net.lent p [];
      given = net.given + held + packet_count port.queued;
    }

-- what is known, and the port stands in this state; all other ports and all wires are as they were
abbrev pub seen_outside : PortRef → PortState → Seen → Seen
seen_outside p port s = record s {
  network = network_outside p port s.network;
  halves = with_half s.halves p (half_of port);
}

-- ---- lines

-- the packet that a port held, or one that it freed
abbrev pub move_told : PortRef → Move → TraceLine
move_told p (Held packet) = Stepped (Linked (Hold p packet))
move_told p (Freed packet) = Stepped (Linked (Free p packet))

-- what a port got from outside, and what it sent there, if there are characters
abbrev pub got_told : PortRef → List Char → List TraceLine
got_told p [] = []
got_told p (c ∷ chars) = Signed (Got p (c ∷ chars)) ∷ []

abbrev pub sent_told : PortRef → List Char → List TraceLine
sent_told p [] = []
sent_told p (c ∷ chars) = Signed (Sent p (c ∷ chars)) ∷ []

-- what characters, one after another, had a port hold and free, in the order of a delivery
unfoldable pub moves_made : PortState → List Char → List Move
moves_made port [] = []
moves_made port (c ∷ chars) = moves_of (takes port c) ++ moves_made (takes port c).port chars

-- the lines of a port that takes characters: it got them; what it held and freed, in order; then
-- the symbols that answer, as one
abbrev pub taking_lines : PortRef → PortState → List Char → List TraceLine
taking_lines p port chars =
    got_told p chars ++ (map (move_told p) (moves_made port chars)
    ++ sent_told p (answers (takes_each port chars).replies).chars)

-- a port after turns, and the lines of what it sent in them
pub record TurnsTold : Type 0 where
  pub port : PortState
  pub lines : List TraceLine

-- A turn that sends this, after which the port stands here, and those after it. A turn that sends
-- nothing is the last.
abbrev pub turns_past : PortRef → List Char → PortState → TurnsTold → TurnsTold
turns_past p [] port rest = record { port = port; lines = [] }
turns_past p (c ∷ chars) port rest =
    record { port = rest.port; lines = Signed (Sent p (c ∷ chars)) ∷ rest.lines }

-- at most so many turns, one after another
unfoldable pub turns_told : PortRef → PortState → ℕ → TurnsTold
turns_told p port zero = record { port = port; lines = [] }
turns_told p port (suc count) =
    turns_past p (turn_sends port).chars (turns_to port) (turns_told p (turns_to port) count)

-- ---- afterwards

-- A port without a link went on to this state: the fabric stands from what was known, with it, and
-- these lines were written.
pub record OutsideDid (port : PortRef) (next : PortState) (told : List TraceLine) (from : Seen)
    (lines : List TraceLine) (fabric : Fabric) {K : Type 0} (before after : TraceWriter K) : Type 0
  where
    pub stands : Stands (seen_outside port next (seen from lines)) [] fabric
    pub adds : Adds before after told

-- it took characters
abbrev pub OutsideTook : PortRef → List Char → Seen → List TraceLine → Fabric → {K : Type 0}
    → TraceWriter K → TraceWriter K → Type 0
OutsideTook port chars from lines fabric before after =
    let state = port_seen (seen from lines) port in
    OutsideDid port (takes_each state chars).port (taking_lines port state chars) from lines fabric
    before after

-- it took at most so many turns
abbrev pub OutsideTurned : PortRef → ℕ → Seen → List TraceLine → Fabric → {K : Type 0}
    → TraceWriter K → TraceWriter K → Type 0
OutsideTurned port count from lines fabric before after =
    let turned = turns_told port (port_seen (seen from lines) port) count in
    OutsideDid port turned.port turned.lines from lines fabric before after

-- its time-out fired
abbrev pub OutsideTimedOut : PortRef → Seen → List TraceLine → Fabric → {K : Type 0}
    → TraceWriter K → TraceWriter K → Type 0
OutsideTimedOut port from lines fabric before after =
    OutsideDid port (timed_out (port_seen (seen from lines) port)) (Signed (Fired port) ∷ []) from
    lines fabric before after

-- its device shows from now on that the port has a link
abbrev pub OutsideJoined : PortRef → Seen → List TraceLine → Fabric → Type 0
OutsideJoined port from lines fabric =
    let s = seen from lines in Stands (record s { network = with_end s.network port }) [] fabric
