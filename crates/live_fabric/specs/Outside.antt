-- What comes of a line of a device outside, and what is told of it.
use Rattle.std.specs.Prelude.{◌≡◌, ◌≤◌, ◌<◌, ℕ, Bool, false, length, List, [], ◌∷◌, ◌++◌, Option, None}
use Rattle.std.specs.Io.KnownBytes.{Appends}
use Rattle.rio_chars.specs.Written.{Outgoing, Writes}
use Rattle.link_port.specs.Streams.{takes_each}
use Rattle.link_port.specs.Turns.{timed_out}
use Rattle.fabric_script.specs.declared.ports.PortRef.{PortRef}
use Rattle.fabric_model.specs.Network.{peer_in}
use Rattle.fabric_trace.specs.Events.{IsNodePort, port_counts}
use Rattle.fabric_trace.specs.Known.{Seen, port_seen}
use Rattle.fabric_trace.specs.Runs.{bare, set_up_all}
use Rattle.fabric_trace.specs.Settings.{with_end}
use Rattle.trace_lines.specs.Lines.{TraceLine, Signed, Fired}
use Rattle.trace_lines.specs.Lines.{Sent as Sends}
use Rattle.trace_lines.specs.Text.{trace_text}
use Rattle.trace_lines.specs.Writing.{Adds}
use Rattle.trace_lines.specs.declared.writer.TraceWriter.{TraceWriter}
use Rattle.fabric_trace.specs.Fold.{seen}
use Rattle.fabric_ports.specs.declared.fabric.Fabric.{Fabric}
use Rattle.fabric_ports.specs.Outside.{PortIsFree, seen_outside, taking_lines, turns_told}
use Rattle.fabric_ports.specs.Standing.{Stands}
use Rattle.outside_lines.specs.declared.facing.Facing.{Facing}
use Rattle.outside_lines.specs.declared.reading.OutsideLine.{OutsideLine}
use Rattle.outside_lines.specs.declared.reading.OutsideLine.TheVariants.{External, Sent, Pump, Timeout}
use Rattle.live_fabric.specs.declared.live.Live.{Live}
use Rattle.live_fabric.specs.Lines.{Taken, seen_so_far, taken_anew}
use Rattle.live_fabric.specs.Telling.{lines_told}
use Rattle.live_fabric.specs.Holding.{IsFaced, LiveHolds}

-- ---- what comes of it

-- the port of the fabric
abbrev pub port_of_line : OutsideLine → PortRef
port_of_line (External at) = at.port
port_of_line (Sent at chars) = at.port
port_of_line (Pump port count) = port
port_of_line (Timeout port) = port

-- What is known after it: the device of the port shows that the port has a link; or the port stands
-- as the step tables lead it.
abbrev pub after_outside : OutsideLine → Seen → Seen
after_outside (External at) s = record s { network = with_end s.network at.port }
after_outside (Sent at chars) s =
    seen_outside at.port (takes_each (port_seen s at.port) chars.items).port s
after_outside (Pump port count) s =
    seen_outside port (turns_told port (port_seen s port) count).port s
after_outside (Timeout port) s = seen_outside port (timed_out (port_seen s port)) s

-- the lines that are told of it
abbrev pub outside_told : OutsideLine → Seen → List TraceLine
outside_told (External at) s = []
outside_told (Sent at chars) s =
    Signed (Sends at.device chars.items)
    ∷ taking_lines at.port (port_seen s at.port) chars.items
outside_told (Pump port count) s = (turns_told port (port_seen s port) count).lines
outside_told (Timeout port) s = Signed (Fired port) ∷ []

-- the ports that face out after it
abbrev pub facing_after : OutsideLine → List Facing → List Facing
facing_after (External at) facing = facing ++ at ∷ []
facing_after _ facing = facing

-- what was taken after it: the trace begins anew
abbrev pub taken_outside : Taken → OutsideLine → Taken
taken_outside taken line =
    record (taken_anew taken (after_outside line (seen_so_far taken))) {
      facing = facing_after line taken.facing;
    }

-- the text of what is told of it
abbrev pub outside_answer : Bool → Taken → OutsideLine → List ℕ
outside_answer quiet taken line =
    trace_text taken.known.names (lines_told quiet (outside_told line (seen_so_far taken)))

-- ---- a fabric does it

-- the node of a device that sends has a name
abbrev pub IsSenderNamed : List (List ℕ) → OutsideLine → Type 0
IsSenderNamed names (Sent at chars) = at.device.node < length names
IsSenderNamed names _ = Unit {0}

-- the fabric may do it: its port is there and has no link, and nodes have names
pub record MayGoOn (fabric : Fabric) (names : List (List ℕ)) (line : OutsideLine) : Type 0 where
  pub free : PortIsFree fabric (port_of_line line)
  pub named : length fabric.devices.items ≤ length names
  pub sender : IsSenderNamed names line

-- it has done it
pub record OutsideActed (line : OutsideLine) (from : Seen) (lines : List TraceLine)
    (fabric : Fabric) {K : Type 0} (before after : TraceWriter K) : Type 0 where
  pub stands : Stands (after_outside line (seen from lines)) [] fabric
  pub adds : Adds before after (outside_told line (seen from lines))

-- ---- after the lines that were taken

-- it may be carried out: its port is one of the fabric without a link
pub record MayCarryOutside (taken : Taken) (line : OutsideLine) : Type 0 where
  pub faced : IsFaced taken.set_up (port_of_line line)
  pub sender : IsSenderNamed taken.known.names line

-- it was carried out, and what is told of it was written
pub record OutsideDone (taken : Taken) (line : OutsideLine) (old new : Outgoing) (live : Live)
    : Type 0 where
  pub told : Writes old new (outside_answer false taken line)
  pub holds : LiveHolds live (taken_outside taken line)

-- the whole of it stands written
pub record OutsideWhole (taken : Taken) (line : OutsideLine)
    (written written_after : Option (List ℕ)) (live : Live) : Type 0 where
  pub told : Appends written written_after (outside_answer false taken line)
  pub holds : LiveHolds live (taken_outside taken line)
