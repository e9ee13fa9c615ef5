-- The laws of maps: what is reached is in the map, once and below the device that it was met
-- behind; and every map of one fabric is the same, and so is the first locked device.
use Rattle.std.specs.Prelude.{◌≡◌, ◌≢◌, ℕ, ◌+◌, ◌<◌, ◌≤◌, List, [], ◌∷◌, ◌++◌, Contains, Some, IsSome}
use Rattle.fabric_script.specs.declared.ports.PortRef.{PortRef}
use Rattle.fabric_map.specs.declared.map.Device.{Device}
use Rattle.fabric_map.specs.declared.map.Entry.{Entry}
use Rattle.fabric_map.specs.Topology.{Topology, node_at, IsReached}
use Rattle.fabric_map.specs.Walked.{Before, onward, IsMet, Walked, after_all_paths}
use Rattle.fabric_map.specs.Routes.{AllRegisters, Arrives}
use Rattle.fabric_map.specs.Numbered.{IsMap}
use Rattle.fabric_map.specs.Locked.{IsNext, IsFirstLocked}

-- The map of a fabric is determined by its devices and links and the ID of the host.
abbrev pub OneMap : Type 0
OneMap = (topology : Topology) (host_id : ℕ) (devices others : List Device)
    (entries other_entries : List Entry)
    → IsMap topology host_id devices entries → IsMap topology host_id others other_entries
    → (devices ≡ others) × (entries ≡ other_entries)

abbrev pub OneFirstLocked : Type 0
OneFirstLocked = (topology : Topology) (registers : AllRegisters) (p q : List ℕ) (id other : ℕ)
    → IsFirstLocked topology registers p id → IsFirstLocked topology registers q other
    → (p ≡ q) × (id ≡ other)

-- The paths of the devices that are met before one path are determined.
abbrev pub OneWalk : Type 0
OneWalk = (topology : Topology) (bound : List ℕ) (first second : List (List ℕ))
    → Walked topology first bound → Walked topology second bound → first ≡ second

-- Each device that is reached has a path in a whole walk. That it has only one is said there.
abbrev pub EachIsReached : Type 0
EachIsReached = (topology : Topology) (paths : List (List ℕ)) (node : ℕ)
    → Walked topology paths after_all_paths → IsReached topology node
    → (path : List ℕ) × Contains paths path × (node_at topology path ≡ Some node)

-- A device behind a port, if it was met later than the device of that port, was met by that port or
-- a lesser one.
abbrev pub LaterIsBelow : Type 0
LaterIsBelow = (topology : Topology) (paths : List (List ℕ)) (first later : List ℕ) (port : ℕ)
    → Walked topology paths after_all_paths → Contains paths first → Contains paths later
    → node_at topology (onward first port) ≡ node_at topology later → Before first later
    → (by : ℕ) × (rest : List ℕ) × (by ≤ port) × (later ≡ first ++ by ∷ rest)

-- Packets for one ID that leave one port come to one endpoint.
abbrev pub OneEndpoint : Type 0
OneEndpoint = (topology : Topology) (registers : AllRegisters) (id node other : ℕ) (at : PortRef)
    → Arrives topology registers id node at → Arrives topology registers id other at
    → node ≡ other

-- The next port is tried if nothing is behind this one, or what is there is met.
abbrev pub GoesPast : Type 0
GoesPast = (topology : Topology) (paths : List (List ℕ)) (path : List ℕ) (port : ℕ)
    → Walked topology paths (onward path port) → Contains paths path
    → (IsSome (node_at topology (onward path port)) → IsMet topology paths (onward path port))
    → Walked topology paths (onward path (port + 1))

-- A device that is not met yet is met next, and its ports are tried from 0 up.
abbrev pub TakesIn : Type 0
TakesIn = (topology : Topology) (paths : List (List ℕ)) (path : List ℕ)
    → Walked topology paths path → IsNext paths path → IsSome (node_at topology path)
    → ((other : List ℕ) → Contains paths other → node_at topology other ≢ node_at topology path)
    → Walked topology (paths ++ path ∷ []) (onward path 0)

-- When all ports of a device are tried, as of an endpoint none are, the port behind which it was
-- met is done.
abbrev pub WalkCloses : Type 0
WalkCloses = (topology : Topology) (paths : List (List ℕ)) (path : List ℕ) (port ports : ℕ)
    → Walked topology paths (onward (onward path port) ports)
    → ((on : ℕ) → IsSome (node_at topology (onward (onward path port) on)) → on < ports)
    → Walked topology paths (onward path (port + 1))

-- Before the host, nothing is met.
abbrev pub WalkBegins : Type 0
WalkBegins = (topology : Topology) → Walked topology [] []
