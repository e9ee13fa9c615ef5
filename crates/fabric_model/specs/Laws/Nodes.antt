-- Where packets stand: at ports of nodes, in the lists of the four priorities.
use Rattle.std.specs.Prelude.{◌≡◌, ◌<◌, ℕ, zero, suc, List, [], ◌∷◌, ◌++◌, map, Option, Some, None, slice_get}
use Rattle.std.specs.List.{AllByRecursion}
use Rattle.fabric_script.specs.declared.ports.PortRef.{PortRef}
use Rattle.maint_registers.specs.Devices.{Registers}
use Rattle.fabric_model.specs.Network.{Network, port_of, peer_in, IsEndpoint}

abbrev pub HasPort : Option Registers → ℕ → Type 0
HasPort None port = ⊥
HasPort (Some device) port = port < device.ports

-- it is a port of one of these devices
abbrev pub IsPortOf : List Registers → PortRef → Type 0
IsPortOf devices p = HasPort (slice_get devices p.node) p.port

-- Each endpoint has its port, and each link joins ports of nodes.
pub record JoinsNodes (net : Network) : Type 0 where
  pub endpoints : (n : ℕ) → IsEndpoint net n → IsPortOf net.registers (port_of n)
  pub links : (p q : PortRef) → peer_in net.links p ≡ Some q
      → IsPortOf net.registers p × IsPortOf net.registers q

-- the port is one of a node, and the priority one of the four
abbrev pub IsSpot : List Registers → PortRef → ℕ → Type 0
IsSpot devices p r = IsPortOf devices p × (r < 4)

-- Whatever stands in a list of a port and a priority stands at such a spot: all other lists are
-- empty.
pub record StandAtNodes (net : Network) : Type 0 where
  pub received : (p : PortRef) (r : ℕ)
      → AllByRecursion (λ item. IsSpot net.registers p r) (net.received p r)
  pub waiting : (p : PortRef) (r : ℕ)
      → AllByRecursion (λ item. IsSpot net.registers p r) (net.waiting p r)

-- the first so many ports of a node
abbrev pub ports_of_node : ℕ → ℕ → List PortRef
ports_of_node node zero = []
ports_of_node node (suc n) = record { node = node; port = n } ∷ ports_of_node node n

-- the ports of nodes that have so many each, from this node on
abbrev pub ports_from : ℕ → List ℕ → List PortRef
ports_from node [] = []
ports_from node (count ∷ counts) = ports_of_node node count ++ ports_from (suc node) counts

-- the ports of all nodes
abbrev pub all_ports : List Registers → List PortRef
all_ports devices = ports_from 0 (map (λ device. device.ports) devices)
