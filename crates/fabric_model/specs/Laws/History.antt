-- What a list of steps says of the items: which were taken, and which have ended.
use Rattle.std.specs.Prelude.{◌≡◌, ℕ, Bool, true, false, if◌then◌else◌, List, [], ◌∷◌, ◌++◌, slice_get, Some}
use Rattle.rio_packets.specs.Fields.{prio_of}
use Rattle.fabric_script.specs.declared.ports.PortRef.{PortRef}
use Rattle.fabric_model.specs.Network.{Item, Network, port_of}
use Rattle.fabric_model.specs.Steps.{Take, Leave, Move, Drop, Answer, Step, Linked, AtNode, ByDevice, only_first, item_of, after}

-- no packet was taken yet
pub record IsEmptyNetwork (net : Network) : Type 0 where
  pub received : (p : PortRef) (r : ℕ) → net.received p r ≡ []
  pub waiting : (p : PortRef) (r : ℕ) → net.waiting p r ≡ []
  pub lent : (p : PortRef) → net.lent p ≡ []
  pub given : net.given ≡ 0

-- what each step gives in the network before it, in the order of the steps
abbrev pub gathered : {A : Type 0} → (Network → Step → List A) → Network → List Step → List A
gathered each net [] = []
gathered each net (step ∷ steps) = each net step ++ gathered each (after net step) steps

-- the item that a step makes
abbrev pub taken_by : Network → Step → List Item
taken_by net (Linked step) = []
taken_by net (AtNode (Take n packet)) = item_of net (port_of n) packet ∷ []
taken_by net (AtNode (Leave n packet)) = []
taken_by net (ByDevice (Move p q packet)) = []
taken_by net (ByDevice (Drop p packet)) = []
taken_by net (ByDevice (Answer p packet response)) = item_of net p response ∷ []

-- how an item ends: it leaves the fabric, it is dropped, or it is answered
pub data End : Type 0 where
  EndLeft : End
  EndDropped : End
  EndAnswered : End

abbrev pub same_end : End → End → Bool
same_end EndLeft EndLeft = true
same_end EndDropped EndDropped = true
same_end EndAnswered EndAnswered = true
same_end _ _ = false

-- the items that end in one way by a step
abbrev pub ended_by : End → Network → Step → List Item
ended_by end net (Linked step) = []
ended_by end net (AtNode (Take n packet)) = []
ended_by end net (AtNode (Leave n packet)) =
    if same_end end EndLeft then only_first (net.received (port_of n) (prio_of packet)) else []
ended_by end net (ByDevice (Move p q packet)) = []
ended_by end net (ByDevice (Drop p packet)) =
    if same_end end EndDropped then only_first (net.received p (prio_of packet)) else []
ended_by end net (ByDevice (Answer p packet response)) =
    if same_end end EndAnswered then only_first (net.received p (prio_of packet)) else []

-- the items as they were taken, in the order of their numbers
abbrev pub items_taken : Network → List Step → List Item
items_taken net steps = gathered taken_by net steps

-- the items that have ended in one way, in the order in which they ended
abbrev pub items_ended : Network → List Step → End → List Item
items_ended net steps end = gathered (ended_by end) net steps

-- those that have left
abbrev pub gone : Network → List Step → List Item
gone net steps = items_ended net steps EndLeft

-- the item of this number was taken at this port as this packet
abbrev pub WasTaken : Network → List Step → Item → Type 0
WasTaken start steps item =
    slice_get (items_taken start steps) item.number ≡ Some (record item { now = item.taken })
