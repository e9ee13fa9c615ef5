-- When plain registers and links are a new fabric, and what is looked at to tell.
use Rattle.std.specs.Prelude.{◌≡◌, ℕ, ◌<◌, ◌==◌, ◌&&◌, Bool, true, false, nat_lt, List, length, Option, Some, None, is_some, not, if◌then◌else◌}
use Rattle.fabric_script.specs.Known.{same_port}
use Rattle.fabric_script.specs.declared.ports.PortRef.{PortRef}
use Rattle.maint_registers.specs.Devices.{Registers, IsDevice, is_switch}
use Rattle.maint_registers.specs.Table.{status_of}
use Rattle.fabric_script.specs.Peers.{peer_in}
use Rattle.fabric_script.specs.Ports.{port_at}
use Rattle.fabric_map.specs.Topology.{IsTopology}
use Rattle.fabric_map.specs.Fitting.{Fits}
use Rattle.fabric_map.specs.Plain.{topology_of, registers_of}
use Rattle.host_enumerate.specs.Underway.{AreUntagged}

-- A host can number the fabric: links join two ports each, devices show them, no device has a tag,
-- and the host has an ID.
pub record IsNewFabric (devices : List Registers) (links : List (PortRef × PortRef)) (host : ℕ)
    : Type 0 where
  pub topology : IsTopology (topology_of devices links host)
  pub fits : Fits (topology_of devices links host) (registers_of devices)
  pub untagged : AreUntagged (topology_of devices links host) (registers_of devices)
  pub host_has_id : (registers_of devices host).base_id < 255

-- how many ports a device has, of which an endpoint has one
abbrev pub ports_shown : Registers → ℕ
ports_shown device = if is_switch device then device.ports else 1

abbrev pub has_port : List Registers → PortRef → Bool
has_port devices p =
    nat_lt p.node (length devices) && nat_lt p.port (ports_shown (registers_of devices p.node))

-- the link of a port ends at another
abbrev pub leads_to : List (PortRef × PortRef) → PortRef → PortRef → Bool
leads_to links p q = is_end (peer_in links p)
  where
    is_end : Option PortRef → Bool
    is_end None = false
    is_end (Some r) = same_port r q

-- the ends of a link are two ports that no other link has
abbrev pub is_link : List Registers → List (PortRef × PortRef) → PortRef × PortRef → Bool
is_link devices links link =
    has_port devices link.0 && has_port devices link.1 && leads_to links link.0 link.1
    && leads_to links link.1 link.0 && not (same_port link.0 link.1)

-- a port shows whether it has a link
abbrev pub shows_link : Registers → List (PortRef × PortRef) → PortRef → Bool
shows_link device links p = status_of device p.port == (if is_some (peer_in links p) then 2 else 1)

-- a device that has no tag shows its links
pub record IsNewDevice (links : List (PortRef × PortRef)) (node : ℕ) (held : Registers)
    : Type 0 where
  pub device : IsDevice held
  pub id : held.base_id < 256
  pub large_id : held.large_id < 65536
  pub lock : held.lock < 65536
  pub tag : held.tag ≡ 0
  pub ports : held.ports ≡ ports_shown held
  pub shown : (port : ℕ) → port < held.ports → shows_link held links (port_at node port) ≡ true
