-- The other end of a link.
use Rattle.std.specs.Prelude.{List, [], ◌∷◌, Option, Some, None, if◌then◌else◌}
use Rattle.fabric_script.specs.declared.ports.PortRef.{PortRef}
use Rattle.fabric_script.specs.Known.{same_port}

-- the other end of a port's link, in a list of links
abbrev pub peer_in : List (PortRef × PortRef) → PortRef → Option PortRef
peer_in [] p = None
peer_in (link ∷ links) p =
    if same_port link.0 p then Some link.1
    else (if same_port link.1 p then Some link.0 else peer_in links p)
