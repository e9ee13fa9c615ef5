-- Links on which nothing but what was sent is on its way.
use Rattle.std.specs.Prelude.{◌≡◌, Some}
use Rattle.link_machine.specs.Calm.{IsCalm}
use Rattle.fabric_script.specs.declared.ports.PortRef.{PortRef}
use Rattle.fabric_model.specs.Network.{peer_in}
use Rattle.fabric_trace.specs.Known.{Seen, link_at}

-- each link of the fabric is calm
abbrev pub LinksAreCalm : Seen → Type 0
LinksAreCalm s = (a b : PortRef) → peer_in s.network.links a ≡ Some b → IsCalm (link_at s a b)
