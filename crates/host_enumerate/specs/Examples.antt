-- The least fabric: a host, and an endpoint at the other end of its link.
use Rattle.std.specs.Prelude.{true, List, [], ◌∷◌}
use Rattle.fabric_script.specs.declared.ports.PortRef.{PortRef}
use Rattle.fabric_script.specs.Ports.{port_at}
use Rattle.maint_registers.specs.Devices.{Registers, new_endpoint}

abbrev pub pair_devices : List Registers
pair_devices = new_endpoint 5 true ∷ new_endpoint 255 true ∷ []

abbrev pub pair_links : List (PortRef × PortRef)
pair_links = (port_at 0 0, port_at 1 0) ∷ []
