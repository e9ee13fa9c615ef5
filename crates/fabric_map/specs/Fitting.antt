-- What the registers of devices show of a topology.
use Rattle.std.specs.Prelude.{◌≡◌, ℕ, ◌<◌, ◌/◌, ◌%◌, ◌^◌, true, false, Some, None, is_some, if◌then◌else◌}
use Rattle.fabric_script.specs.Ports.{port_at}
use Rattle.maint_registers.specs.Devices.{IsDevice, is_switch}
use Rattle.fabric_map.specs.Topology.{Topology, device_ports}
use Rattle.fabric_map.specs.Routes.{AllRegisters}

-- Each device shows whether it is a switch, how many ports it has, and which of them have a link.
-- Its
-- IDs and its lock fit their registers.
pub record Fits (topology : Topology) (registers : AllRegisters) : Type 0 where
  pub devices : (node : ℕ) → node < topology.nodes → IsDevice (registers node)
  pub ids : (node : ℕ) → node < topology.nodes → (registers node).base_id < 256
  pub large_ids : (node : ℕ) → node < topology.nodes → (registers node).large_id < 65536
  pub locks : (node : ℕ) → node < topology.nodes → (registers node).lock < 65536
  pub endpoints : (node : ℕ) → node < topology.nodes → topology.switch_ports node ≡ None
      → is_switch (registers node) ≡ false
  pub switches : (node ports : ℕ) → node < topology.nodes
      → topology.switch_ports node ≡ Some ports → is_switch (registers node) ≡ true
  pub ports : (node : ℕ) → node < topology.nodes
      → (registers node).ports ≡ device_ports topology node
  pub linked : (node port : ℕ) → node < topology.nodes → port < device_ports topology node
      → (registers node).linked / 2 ^ port % 2
      ≡ (if is_some (topology.peer (port_at node port)) then 1 else 0)
