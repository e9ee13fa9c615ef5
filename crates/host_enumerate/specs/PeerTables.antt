-- A table of the other ends of links.
use Rattle.std.specs.Prelude.{◌≡◌, ◌<◌, ℕ, ◌/◌, ◌%◌, List, Option, None, length, get_or}
use Rattle.fabric_script.specs.declared.ports.PortRef.{PortRef}
use Rattle.fabric_script.specs.Peers.{peer_in}
use Rattle.fabric_script.specs.Ports.{port_at}

-- A table with sixteen places for each node has the other end of the link of each port, from the
-- first port of the first node on, as far as it goes.
abbrev pub HasPeers : List (PortRef × PortRef) → List (Option PortRef) → Type 0
HasPeers links peers = (place : ℕ) → place < length peers
    → get_or peers place None ≡ peer_in links (port_at (place / 16) (place % 16))
