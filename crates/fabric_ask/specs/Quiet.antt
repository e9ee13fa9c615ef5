-- Links at which nothing is on its way.
use Rattle.std.specs.Prelude.{List}
use Rattle.std.specs.List.{AllByRecursion}
use Rattle.link_machine.specs.Rest.{IsQuiet}
use Rattle.fabric_script.specs.declared.ports.PortRef.{PortRef}
use Rattle.fabric_trace.specs.Known.{Seen, link_at}

-- each link has empty wires, and both its directions are at rest
abbrev pub AreQuiet : List (PortRef × PortRef) → Seen → Type 0
AreQuiet links t = AllByRecursion (λ link. IsQuiet (link_at t link.0 link.1)) links
