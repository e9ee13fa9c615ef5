-- Where the one packet of a network is.
use Rattle.std.specs.Prelude.{◌≡◌, ℕ, ◌==◌, ◌&&◌, ◌||◌, Bool, true, false, List, [], ◌∷◌, Some, ⊤}
use Rattle.rio_packets.specs.Fields.{prio_of}
use Rattle.fabric_script.specs.declared.ports.PortRef.{PortRef}
use Rattle.fabric_model.specs.Network.{Item, Network, same_port, peer_in}
use Rattle.fabric_model.specs.Steps.{Hold, Free, Step, Linked, AtNode, ByDevice}

-- a port has received it; it waits at a port to be sent
pub data Spot : Type 0 where
  Held : PortRef → Spot
  Waits : PortRef → Spot

abbrev pub held_at : Spot → PortRef → Bool
held_at (Held p) q = same_port q p
held_at (Waits p) q = false

abbrev pub waits_at : Spot → PortRef → Bool
waits_at (Held p) q = false
waits_at (Waits p) q = same_port q p

-- the item alone, or nothing
abbrev pub alone : Bool → Item → List Item
alone true item = item ∷ []
alone false item = []

-- The network has this item there, and nothing else.
pub record IsOnly (net : Network) (spot : Spot) (item : Item) : Type 0 where
  pub received : (q : PortRef) (r : ℕ)
      → net.received q r ≡ alone (held_at spot q && (r == prio_of item.now)) item
  pub waiting : (q : PortRef) (r : ℕ)
      → net.waiting q r ≡ alone (waits_at spot q && (r == prio_of item.now)) item
  pub lent : (q : PortRef) → net.lent q ≡ []

-- The network has no item.
pub record IsClear (net : Network) : Type 0 where
  pub received : (q : PortRef) (r : ℕ) → net.received q r ≡ []
  pub waiting : (q : PortRef) (r : ℕ) → net.waiting q r ≡ []
  pub lent : (q : PortRef) → net.lent q ≡ []

-- While a link carries it: the far port has received it, and the near port has lent it.
pub record IsLent (net : Network) (p q : PortRef) (item : Item) : Type 0 where
  pub received : (c : PortRef) (r : ℕ)
      → net.received c r ≡ alone (same_port c q && (r == prio_of item.now)) item
  pub waiting : (c : PortRef) (r : ℕ) → net.waiting c r ≡ []
  pub lent : (c : PortRef) → net.lent c ≡ alone (same_port c p) item

-- a port is one of two
abbrev pub is_end : PortRef → PortRef → PortRef → Bool
is_end a b c = same_port c a || same_port c b

-- each is a step of the link between two ports
abbrev pub AreAt : PortRef → PortRef → List Step → Type 0
AreAt a b [] = ⊤
AreAt a b (Linked (Hold c packet) ∷ steps) = (is_end a b c ≡ true) × AreAt a b steps
AreAt a b (Linked (Free c packet) ∷ steps) = (is_end a b c ≡ true) × AreAt a b steps
AreAt a b (AtNode step ∷ steps) = ⊥
AreAt a b (ByDevice step ∷ steps) = ⊥

-- What the steps of a link do with the one packet, which waits at a port.
pub data Carried (a b : PortRef) (net : Network) (p : PortRef) (item : Item) (end : Network) : Type
    0 where
  Stays : end ≡ net → Carried a b net p item end
  Lends : (q : PortRef) → is_end a b q ≡ true → peer_in net.links q ≡ Some p → IsLent end p q item
      → Carried a b net p item end
  Crosses : (q : PortRef) → is_end a b q ≡ true → peer_in net.links q ≡ Some p
      → IsOnly end (Held q) item → Carried a b net p item end

-- the same registers, and as many numbers given out
pub record IsSame (net end : Network) : Type 0 where
  pub registers : end.registers ≡ net.registers
  pub given : end.given ≡ net.given
