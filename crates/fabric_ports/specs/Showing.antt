-- What a fabric shows of what is known of a trace.
use Rattle.std.specs.Prelude.{◌≡◌, ℕ, List, All, map, length, Some, slice_get}
use Rattle.link_machine.specs.States.{Wires}
use Rattle.fabric_script.specs.declared.ports.PortRef.{PortRef}
use Rattle.fabric_model.specs.Network.{Network, IsEndpoint}
use Rattle.maint_registers.specs.Devices.{Registers}
use Rattle.fabric_trace.specs.Known.{Seen, port_seen, wire_state}
use Rattle.fabric_ports.specs.Places.{AreFirsts, port_count, IsPortOf, IsEndpointAt, place_of}
use Rattle.fabric_ports.specs.Idling.{KnowsIdle}
use Rattle.fabric_ports.specs.declared.fabric.Cable.{Cable}
use Rattle.fabric_ports.specs.declared.fabric.Fabric.{Fabric}

abbrev pub ends_of : Cable → PortRef × PortRef
ends_of cable = (cable.a, cable.b)

-- the two wires of a link, each named by the port that sends on it
abbrev pub wires_of : Seen → PortRef → PortRef → Wires
wires_of s a b = record { a = wire_state (s.wires a); b = wire_state (s.wires b) }

-- a cable joins ports of these devices, and its wires are those that are known
pub record ShowsCable (devices : List Registers) (s : Seen) (cable : Cable) : Type 0 where
  pub port_a : IsPortOf devices cable.a
  pub port_b : IsPortOf devices cable.b
  pub wires : cable.link ≡ wires_of s cable.a cable.b

-- the registers of a network are those of these devices
abbrev pub AreRegisters : Network → List Registers → Type 0
AreRegisters net devices = net.registers ≡ devices

-- At the place of each end of a link stands the number of that link.
abbrev pub LeadToLinks : List (PortRef × PortRef) → List ℕ → List ℕ → Type 0
LeadToLinks links firsts numbers = (k : ℕ) (link : PortRef × PortRef)
    → slice_get links k ≡ Some link
    → (slice_get numbers (place_of firsts link.0) ≡ Some k)
    × (slice_get numbers (place_of firsts link.1) ≡ Some k)

-- Each port of the fabric is what the step tables see there; its links, wires and registers are
-- those that are known. The numbers that it keeps lead from the ports to their links. What it has
-- marked has nothing to do.
pub record ShowsFabric (fabric : Fabric) (s : Seen) : Type 0 where
  pub firsts : AreFirsts 0 fabric.devices.items fabric.firsts.items
  pub count : length fabric.ports.items ≡ port_count fabric.devices.items
  pub ports : (p : PortRef) → IsPortOf fabric.devices.items p
      → slice_get fabric.ports.items (place_of fabric.firsts.items p) ≡ Some (port_seen s p)
  pub cables : All (ShowsCable fabric.devices.items s) fabric.cables.items
  pub links : map ends_of fabric.cables.items ≡ s.network.links
  pub lead : LeadToLinks s.network.links fabric.firsts.items fabric.cable_at.items
  pub registers : AreRegisters s.network fabric.devices.items
  pub idle : KnowsIdle fabric.idle s
  pub endpoints : (n : ℕ) → IsEndpoint s.network n → IsEndpointAt fabric.devices.items n
