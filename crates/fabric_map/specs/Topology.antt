-- Devices and links, and where a path of ports leads. Nothing here has an order of asking.
use Rattle.std.specs.Prelude.{◌≡◌, ◌≢◌, ℕ, ◌<◌, ◌≤◌, ◌==◌, nat_lt, List, [], ◌∷◌, Option, Some, None, IsSome, option_map, unwrap_or, if◌then◌else◌}
use Rattle.std.specs.Option.{option_and_then}
use Rattle.fabric_script.specs.declared.ports.PortRef.{PortRef}
use Rattle.fabric_script.specs.Ports.{port_at}

-- `nodes` is how many devices there are; each is a number below it. `switch_ports` is how many
-- ports a switch has, or None of an endpoint, whose one port is 0. `peer` is the other end of a
-- port's link. `host` is the endpoint that walks.
pub record Topology : Type 0 where
  pub nodes : ℕ
  pub switch_ports : ℕ → Option ℕ
  pub peer : PortRef → Option PortRef
  pub host : ℕ

-- how many ports a device has
abbrev pub device_ports : Topology → ℕ → ℕ
device_ports topology node = unwrap_or (topology.switch_ports node) 1

-- a port of one of the devices
pub record IsPortIn (topology : Topology) (p : PortRef) : Type 0 where
  pub node : p.node < topology.nodes
  pub port : p.port < device_ports topology p.node

-- At most 64 devices, whose links join two ports each. The host is an endpoint with a link.
pub record IsTopology (topology : Topology) : Type 0 where
  pub most : topology.nodes ≤ 64
  pub host : topology.host < topology.nodes
  pub host_is_endpoint : topology.switch_ports topology.host ≡ None
  pub host_is_linked : IsSome (topology.peer (port_at topology.host 0))
  pub most_ports : (node : ℕ) → device_ports topology node ≤ 16
  pub ports : (p q : PortRef) → topology.peer p ≡ Some q → IsPortIn topology p
  pub both_ways : (p q : PortRef) → topology.peer p ≡ Some q → topology.peer q ≡ Some p
  pub two_ports : (p : PortRef) → topology.peer p ≢ Some p

-- the ports of a device that lead on: those of a switch, and the host's
abbrev pub ports_followed : Topology → ℕ → ℕ
ports_followed topology node =
    if node == topology.host then 1 else unwrap_or (topology.switch_ports node) 0

-- where a port leads that is followed
abbrev pub behind_port : Topology → ℕ → ℕ → Option PortRef
behind_port topology node port =
    if nat_lt port (ports_followed topology node) then topology.peer (port_at node port) else None

-- the port by which a path enters its last device, if it begins at a device that was entered so
abbrev pub along : Topology → PortRef → List ℕ → Option PortRef
along topology at [] = Some at
along topology at (port ∷ rest) =
    option_and_then (λ next. along topology next rest) (behind_port topology at.node port)

-- The port by which a path from the host enters its last device, if it leads to one. The empty path
-- leads to the host, as if entered by its own port.
abbrev pub entered : Topology → List ℕ → Option PortRef
entered topology path = along topology (port_at topology.host 0) path

-- the device to which a path leads
abbrev pub node_at : Topology → List ℕ → Option ℕ
node_at topology path = option_map (λ (p : PortRef). p.node) (entered topology path)

-- Some path leads to it: it is the host, the host's neighbour, or a neighbour of a switch to which
-- one leads.
abbrev pub IsReached : Topology → ℕ → Type 0
IsReached topology node = (path : List ℕ) × (node_at topology path ≡ Some node)
