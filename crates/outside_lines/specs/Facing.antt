-- Which ports of a fabric stand beside ports of devices that are no part of it.
use Rattle.std.specs.Prelude.{Bool, ◌||◌, List, Option, option_map}
use Rattle.std.specs.List.{find, list_any}
use Rattle.fabric_script.specs.declared.ports.PortRef.{PortRef}
use Rattle.fabric_script.specs.Known.{same_port}
use Rattle.outside_lines.specs.declared.facing.Facing.{Facing}

-- the port of the fabric beside this port of a device
abbrev pub port_beside : List Facing → PortRef → Option PortRef
port_beside facing device =
    option_map (λ at. at.port) (find (λ at. same_port at.device device) facing)

-- whether a port of the fabric stands beside one of a device: it faces out
abbrev pub faces_out : List Facing → PortRef → Bool
faces_out facing port = list_any (λ at. same_port at.port port) facing

-- whether a port is one of either
abbrev pub is_joined : List Facing → PortRef → Bool
is_joined facing port =
    list_any (λ at. same_port at.device port || same_port at.port port) facing
