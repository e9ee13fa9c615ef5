-- A port within a delivery, between the events that it takes.
use Rattle.std.specs.Prelude.{ℕ, List, [], ◌∷◌, take}
use Rattle.link_model.specs.Prelude.{run}
use Rattle.link_port.specs.Prelude.{Event, PortState}
use Rattle.link_watch.specs.Sides.{other_side}
use Rattle.link_watch.specs.declared.side.Side.{Side}
use Rattle.link_wires.specs.Deliveries.{Flow, Delivered, Through, WentUndetected, begun, comes}
use Rattle.link_machine.specs.States.{LinkState, from_end}

-- what comes of an event that was sent; else the port is as it was before it
abbrev pub led_on : (Flow → PortState) → PortState → Delivered → PortState
led_on more port (Through flow) = more flow
led_on more port (WentUndetected told e) = port

-- the port after events, or after those before the first that is acted on and was not sent
abbrev pub port_reached : List (ℕ × Event) → Flow → PortState
port_reached [] flow = flow.port
port_reached (placed ∷ events) flow = led_on (port_reached events) flow.port (comes flow placed)

-- the first port, after so many events of so many characters of the far port's wire
abbrev pub first_reached : ℕ → ℕ → LinkState → PortState
first_reached count events s =
    port_reached (take events (run s.a.place 0 (take count s.wire_b.chars)))
    (begun s.a s.wire_b.kept)

-- the port at the other end, after so many events of so many characters that this end has sent
abbrev pub reached_within : Side → ℕ → ℕ → LinkState → PortState
reached_within from count events s = first_reached count events (from_end (other_side from) s)
