-- How many packets a port may have to be sent.
use Rattle.std.specs.Prelude.{ℕ, ◌≤◌}
use Rattle.fabric_script.specs.declared.ports.PortRef.{PortRef}
use Rattle.fabric_model.specs.Network.{Network, to_send, places}

-- Of each priority a port has at most so many packets to be sent as it has places for, those that
-- are lent among them.
abbrev pub HasPlaces : Network → Type 0
HasPlaces net = (p : PortRef) (r : ℕ) → to_send net p r ≤ places
