-- What the registers and links of a list of devices are as a topology.
use Rattle.std.specs.Prelude.{ℕ, false, List, length, Option, Some, None, slice_get, slice_index_or, if◌then◌else◌}
use Rattle.std.specs.Option.{option_and_then}
use Rattle.fabric_script.specs.declared.ports.PortRef.{PortRef}
use Rattle.maint_registers.specs.Devices.{Registers, is_switch, new_endpoint}
use Rattle.fabric_script.specs.Peers.{peer_in}
use Rattle.fabric_map.specs.Topology.{Topology}
use Rattle.fabric_map.specs.Routes.{AllRegisters}

-- the number of ports of a switch
abbrev pub ports_of_switch : Registers → Option ℕ
ports_of_switch device = if is_switch device then Some device.ports else None

abbrev pub topology_of : List Registers → List (PortRef × PortRef) → ℕ → Topology
topology_of devices links host = record {
  nodes = length devices;
  switch_ports = λ node. option_and_then ports_of_switch (slice_get devices node);
  peer = peer_in links;
  host = host;
}

-- the registers of each device; those of any other number do not matter
abbrev pub registers_of : List Registers → AllRegisters
registers_of devices node = slice_index_or devices node (new_endpoint 0 false)
