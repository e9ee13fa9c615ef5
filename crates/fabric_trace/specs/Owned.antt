-- What a port sends it has to send, and where a time-out fires nothing is on the way, by the lines
-- alone.
use Rattle.std.specs.Prelude.{◌≡◌, ◌⊎◌, ℕ, List, [], ◌∷◌, Contains, Some}
use Rattle.std.specs.List.{AllByRecursion}
use Rattle.rio_packets.specs.Fields.{prio_of}
use Rattle.link_model.specs.declared.event.Event.{Event}
use Rattle.link_model.specs.declared.event.Event.TheVariants.{Ctl, Pkt, Bad}
use Rattle.fabric_script.specs.declared.ports.PortRef.{PortRef}
use Rattle.fabric_model.specs.Network.{Network}
use Rattle.fabric_trace.specs.Fold.{says, seen_line}
use Rattle.fabric_trace.specs.Known.{Seen, peer_of}
use Rattle.trace_lines.specs.Lines.{Sent, Fired, TraceLine, Signed}
use Rattle.fabric_trace.specs.Views.{packets_in}

-- the packet waits at the port to be sent, or the port has lent it
abbrev pub HasPacket : Network → PortRef → List ℕ → Type 0
HasPacket net p packet = Contains (packets_in (net.waiting p (prio_of packet))) packet
    ⊎ Contains (packets_in (net.lent p)) packet

-- the same of the packet of an event
abbrev pub HasEvent : Network → PortRef → Event → Type 0
HasEvent net p (Ctl symbol) = Unit {0}
HasEvent net p (Pkt ack packet) = HasPacket net p packet
HasEvent net p (Bad cause) = Unit {0}

-- both wires of the link of a port are empty
pub record AreEmpty (s : Seen) (p : PortRef) : Type 0 where
  pub peer : PortRef
  pub peer_is : peer_of s p ≡ Some peer
  pub near : (s.wires p).chars ≡ []
  pub far : (s.wires peer).chars ≡ []

abbrev pub IsOwned : Seen → TraceLine → Type 0
IsOwned s (Signed (Sent p chars)) = AllByRecursion (HasEvent s.network p) (says chars)
IsOwned s (Signed (Fired p)) = AreEmpty s p
IsOwned s _ = Unit {0}

-- at each line
abbrev pub AreOwned : Seen → List TraceLine → Type 0
AreOwned s [] = Unit {0}
AreOwned s (line ∷ lines) = IsOwned s line × AreOwned (seen_line s line) lines
