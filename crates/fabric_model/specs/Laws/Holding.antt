-- Holding exactly the packets taken: each number that was given out stands in exactly one place.
use Rattle.std.specs.Prelude.{◌≡◌, ℕ, ◌+◌, ◌<◌, Bool, false, ◌&&◌, ◌==◌, if◌then◌else◌, List, [], ◌∷◌, length}
use Rattle.std.specs.List.{AllByRecursion}
use Rattle.fabric_script.specs.declared.ports.PortRef.{PortRef}
use Rattle.fabric_model.specs.Network.{Item, Network, same_port}
use Rattle.fabric_model.specs.Steps.{Step}
use Rattle.fabric_model.specs.Laws.History.{End, same_end, items_taken, items_ended, WasTaken}

-- Where an item can stand: in a list of a port and a priority, or among those that have ended in
-- one way. What is lent are copies.
pub data ItemPlace : Type 0 where
  ReceivedAt : PortRef → ℕ → ItemPlace
  WaitingAt : PortRef → ℕ → ItemPlace
  Over : End → ItemPlace

abbrev pub same_place : ItemPlace → ItemPlace → Bool
same_place (ReceivedAt p r) (ReceivedAt q s) = same_port p q && (r == s)
same_place (WaitingAt p r) (WaitingAt q s) = same_port p q && (r == s)
same_place (Over e) (Over f) = same_end e f
same_place _ _ = false

-- what stands at each place of a network, where these items have ended
abbrev pub items_at : Network → (End → List Item) → ItemPlace → List Item
items_at net out (ReceivedAt p r) = net.received p r
items_at net out (WaitingAt p r) = net.waiting p r
items_at net out (Over e) = out e

-- how many of the items have this number
abbrev pub how_often : ℕ → List Item → ℕ
how_often n [] = 0
how_often n (item ∷ items) = (if item.number == n then 1 else 0) + how_often n items

-- the number stands once at this place, and at no other
abbrev pub StandsAt : (ItemPlace → List Item) → ℕ → ItemPlace → Type 0
StandsAt board n place =
    (other : ItemPlace) → how_often n (board other) ≡ (if same_place other place then 1 else 0)

pub record HoldingExactly (start : Network) (steps : List Step) (end : Network) : Type 0 where
  -- one number was given out for each packet taken
  pub counted : end.given ≡ length (items_taken start steps)
  -- each of them stands in exactly one place
  pub placed : (n : ℕ) → n < end.given
      → (place : ItemPlace) × StandsAt (items_at end (items_ended start steps)) n place
  -- and nothing else stands anywhere
  pub known : (place : ItemPlace) → AllByRecursion (WasTaken start steps)
      (items_at end (items_ended start steps) place)
