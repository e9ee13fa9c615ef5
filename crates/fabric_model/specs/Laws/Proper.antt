-- Which links can be: the premise of order.
use Rattle.std.specs.Prelude.{◌≡◌, false, List, [], ◌∷◌, None, ⊤}
use Rattle.fabric_script.specs.declared.ports.PortRef.{PortRef}
use Rattle.fabric_model.specs.Network.{same_port, peer_in}

-- Each port stands at most once among the ends of the links: the ends of a link differ, and no
-- later link has them.
abbrev pub AreProper : List (PortRef × PortRef) → Type 0
AreProper [] = ⊤
AreProper (link ∷ links) = (same_port link.0 link.1 ≡ false) × (peer_in links link.0 ≡ None)
    × (peer_in links link.1 ≡ None) × AreProper links
