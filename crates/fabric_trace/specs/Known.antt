-- What is known after the lines of a trace.
use Rattle.std.specs.Prelude.{List, [], Option, unwrap_or, if◌then◌else◌}
use Rattle.rio_chars.specs.declared.chars.Char.{Char}
use Rattle.link_model.specs.declared.event.Event.{Event}
use Rattle.link_port.specs.Ports.{PortState}
use Rattle.link_wires.specs.Kept.{behind_all}
use Rattle.link_wires.specs.Wires.{WireState}
use Rattle.link_machine.specs.States.{LinkState}
use Rattle.fabric_script.specs.declared.ports.PortRef.{PortRef}
use Rattle.fabric_model.specs.Network.{Network, same_port, peer_in}
use Rattle.fabric_trace.specs.Views.{Half, view}

-- A wire, named by the port that sends on it: its characters; the events sent on it since the last
-- silence, and those that were acted on from it since. A silence of a link is a time-out of one of
-- its ports.
pub record Wire : Type 0 where
  pub chars : List Char
  pub sent : List Event
  pub acted : List Event

abbrev pub new_wire : Wire
new_wire = record { chars = []; sent = []; acted = [] }

-- an event that a port acted on and that was not sent
pub record UndetectedAt : Type 0 where
  pub port : PortRef
  pub event : Event

pub record Seen : Type 0 where
  pub network : Network
  pub wires : PortRef → Wire
  pub halves : PortRef → Half
  pub undetected : Option UndetectedAt

-- the wires, with this one for this port; the same for halves
abbrev pub with_wire : (PortRef → Wire) → PortRef → Wire → PortRef → Wire
with_wire wires p wire q = if same_port q p then wire else wires q

abbrev pub with_half : (PortRef → Half) → PortRef → Half → PortRef → Half
with_half halves p half q = if same_port q p then half else halves q

-- the port at the other end of a port's link
abbrev pub peer_of : Seen → PortRef → Option PortRef
peer_of s p = peer_in s.network.links p

-- a port as the step tables see it
abbrev pub port_seen : Seen → PortRef → PortState
port_seen s p = view s.network p (s.halves p)

-- What was sent and is not acted on yet: what stands behind the last acted event, where acted
-- events are found one after another among those sent.
abbrev pub kept_of : Wire → List Event
kept_of wire = unwrap_or (behind_all wire.acted wire.sent) []

abbrev pub wire_state : Wire → WireState
wire_state wire = record { chars = wire.chars; kept = kept_of wire }

-- two ports and the wires on which they send, as a link
abbrev pub link_at : Seen → PortRef → PortRef → LinkState
link_at s a b = record {
  a = port_seen s a;
  b = port_seen s b;
  wire_a = wire_state (s.wires a);
  wire_b = wire_state (s.wires b);
}
