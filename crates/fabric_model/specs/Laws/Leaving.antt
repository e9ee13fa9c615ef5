-- What leaves: each item once, and as it was taken but for the hop count and the CRC.
use Rattle.std.specs.Prelude.{◌≡◌, ℕ, suc, ◌≤◌, List, [], ◌∷◌, map, length, flat_map, MatchBool}
use Rattle.std.specs.List.{AllByRecursion}
use Rattle.rio_packets.specs.Fields.{prio_of, is_maintenance, Lowered}
use Rattle.fabric_model.specs.Network.{Item, Network}
use Rattle.fabric_model.specs.Steps.{Take, Leave, Move, Drop, Answer, Step, Linked, AtNode, ByDevice, only_first}
use Rattle.fabric_model.specs.Laws.History.{gathered, gone, WasTaken}
use Rattle.fabric_model.specs.Laws.Holding.{how_often}

-- the packet of a step by which one leaves
abbrev pub packet_left : Step → List (List ℕ)
packet_left (Linked step) = []
packet_left (AtNode (Take n packet)) = []
packet_left (AtNode (Leave n packet)) = packet ∷ []
packet_left (ByDevice step) = []

abbrev pub packets_left : List Step → List (List ℕ)
packets_left steps = flat_map packet_left steps

-- no item leaves twice
pub record Once (start : Network) (steps : List Step) : Type 0 where
  -- one item for each step by which a packet leaves
  pub each : length (gone start steps) ≡ length (packets_left steps)
  pub never_twice : (n : ℕ) → how_often n (gone start steps) ≤ 1

-- A packet as it was before a move and after it: the hop count of a maintenance packet is lowered
-- by one, and its CRC made again. Any other packet stays.
abbrev pub MovesTo : List ℕ → List ℕ → Type 0
MovesTo old new = MatchBool (is_maintenance old) (Lowered old new) (new ≡ old)

-- the packet after so many moves
pub data IsAfterMoves (taken : List ℕ) : ℕ → List ℕ → Type 0 where
  AsItWas : IsAfterMoves taken 0 taken
  OnceMore : {n : ℕ} {old new : List ℕ} → IsAfterMoves taken n old → MovesTo old new
      → IsAfterMoves taken (suc n) new

-- the item that moves by a step
abbrev pub moved_by : Network → Step → List Item
moved_by net (Linked step) = []
moved_by net (AtNode step) = []
moved_by net (ByDevice (Move p q packet)) = only_first (net.received p (prio_of packet))
moved_by net (ByDevice (Drop p packet)) = []
moved_by net (ByDevice (Answer p packet response)) = []

-- the items that have moved, one for each move
abbrev pub moves : Network → List Step → List Item
moves net steps = gathered moved_by net steps

-- What leaves is what was taken, after as many moves as the item has made: but for the hop count
-- and the CRC over it.
pub record Unchanged (start : Network) (steps : List Step) : Type 0 where
  -- the steps show the packets of the items that have left
  pub shown : packets_left steps ≡ map (λ item. item.now) (gone start steps)
  pub same : AllByRecursion
      (λ item. IsAfterMoves item.taken (how_often item.number (moves start steps)) item.now
      × WasTaken start steps item) (gone start steps)
