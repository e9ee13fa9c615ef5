-- Held packets that are given out.
use Rattle.std.specs.Prelude.{ℕ, Bool, true, false, ◌&&◌, is_some, List, Option, Some, None, slice_get, if◌then◌else◌}
use Rattle.link_buffers.specs.Prelude.{list_at, popped, highest}
use Rattle.link_port.specs.Ports.{PortState}
use Rattle.link_port.specs.Steps.{Acted}

-- the packet, if it is held
abbrev pub held_if : Bool → List ℕ → Option (List ℕ)
held_if held packet = if held then Some packet else None

-- a packet that is given out, if there is one, and the port behind it
pub record GivenOut : Type 0 where
  pub port : PortState
  pub packet : Option (List ℕ)

-- the first held packet of a priority is taken
abbrev pub without_first_held : PortState → ℕ → PortState
without_first_held port prio =
    record port { received = record port.received { lists = popped port.received.lists prio } }

-- the first held packet of this priority is given out, or none
abbrev pub gives_first : PortState → Option ℕ → GivenOut
gives_first port None = record { port = port; packet = None }
gives_first port (Some prio) = record {
  port = without_first_held port prio;
  packet = slice_get (list_at port.received.lists prio) 0;
}

-- the next held packet is given out: the first one of the highest priority that has one
abbrev pub gives_next : PortState → GivenOut
gives_next port = gives_first port (highest port.received.lists)

abbrev pub gives_next_if : Bool → PortState → GivenOut
gives_next_if true port = gives_next port
gives_next_if false port = record { port = port; packet = None }

-- what a port that takes at once gives out behind a character that did this: the next held packet,
-- if the character had one held
abbrev pub gives_at_once : Bool → Acted → GivenOut
gives_at_once at_once acted = gives_next_if (at_once && is_some acted.held) acted.port
