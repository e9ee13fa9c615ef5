-- A link and the ports at its ends.
use Rattle.link_port.specs.Ports.{PortState}
use Rattle.link_watch.specs.declared.side.Side.{Side}
use Rattle.link_watch.specs.declared.side.Side.TheVariants.{A, B}
use Rattle.link_wires.specs.Wires.{WireState, empty_wire}

-- what contracts see of a link: its two wires, each named by the port that sends on it
pub record Wires : Type 0 where
  pub a : WireState
  pub b : WireState

abbrev pub empty_wires : Wires
empty_wires = record { a = empty_wire; b = empty_wire }

-- the wire on which the port at this end sends
abbrev pub wire_at : Side → Wires → WireState
wire_at A wires = wires.a
wire_at B wires = wires.b

-- its two ports, and the wires on which they send
pub record LinkState : Type 0 where
  pub a : PortState
  pub b : PortState
  pub wire_a : WireState
  pub wire_b : WireState

-- these parts together
abbrev pub link : Wires → PortState → PortState → LinkState
link wires a b = record { a = a; b = b; wire_a = wires.a; wire_b = wires.b }

-- the ends in the other order
abbrev pub turned_round : LinkState → LinkState
turned_round s = record { a = s.b; b = s.a; wire_a = s.wire_b; wire_b = s.wire_a }

-- what is done at the first end, done at this one
abbrev pub at_end : Side → (LinkState → LinkState) → LinkState → LinkState
at_end A does s = does s
at_end B does s = turned_round (does (turned_round s))

-- the link with this end first
abbrev pub from_end : Side → LinkState → LinkState
from_end A s = s
from_end B s = turned_round s
