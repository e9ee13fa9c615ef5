-- Each list of a network holds packets of its own priority alone.
use Rattle.fabric_model.proofs.Prelude.{◌≡◌, ℕ, List, [], ◌∷◌, ◌++◌, Some, refl, subst, ⊤, AllByRecursion, prio_of, Passes, PortRef, Item, Network, first_packet, Step, after, LegalFrom, IsEmptyNetwork, End, taken_by, ended_by, items_ended, IsFormed, ItemPlace, ReceivedAt, WaitingAt, Over, items_at}
use Rattle.fabric_model.specs.Laws.Priorities.{ByPriority}
use Rattle.fabric_model.proofs.Joining.{carried}
use Rattle.fabric_model.proofs.Boards.{Allowed, Crosses, Turns, Leaves, Falls, IsHeard, Along, allowed_along, step_on}
use Rattle.fabric_model.proofs.OnBoards.{AllOn, AllOn-step, AllOn-empty}
use Rattle.fabric_model.proofs.Lists.{all_weaker, all-both}

-- the priority of the list where an item stands
abbrev HasPriority : ItemPlace → Item → Type 0
HasPriority (ReceivedAt p r) item = prio_of item.now ≡ r
HasPriority (WaitingAt p r) item = prio_of item.now ≡ r
HasPriority (Over e) item = ⊤

-- and a packet in its link form
abbrev StandsWell : ItemPlace → Item → Type 0
StandsWell place item = Passes item.now × HasPriority place item

goes_to : (net : Network) (from to : ItemPlace) (item moved : Item) → Allowed net from to item moved
    → Along item moved → HasPriority from item → HasPriority to moved
goes_to net from to item moved (Crosses p q r item2 peer) along own = own
goes_to net from to item moved (Turns p q item2 same named) along own = along.prio
goes_to net from to item moved (Leaves n item2 endpoint other) along own = tt
goes_to net from to item moved (Falls p item2 named) along own = tt
goes_to net from to item moved (IsHeard p item2 heard) along own = tt

goes_well : (net : Network) (from to : ItemPlace) (item moved : Item)
    → Allowed net from to item moved
    → StandsWell from item → StandsWell to moved
goes_well net from to item moved allowed well =
    let along = allowed_along net from to item moved allowed well.0 in
    (along.passes, goes_to net from to item moved allowed along well.1)

-- whatever stands in the lanes of a network is in its link form, in a list of its own priority
abbrev pub AreWell : Network → Type 0
AreWell net = AllOn StandsWell (items_at net (λ e. []))

-- what has ended is none of it
lanes_alone : (net : Network) (out : End → List Item) → AllOn StandsWell (items_at net out)
    → AreWell net
lanes_alone net out all (ReceivedAt p r) = all (ReceivedAt p r)
lanes_alone net out all (WaitingAt p r) = all (WaitingAt p r)
lanes_alone net out all (Over e) = tt

-- this stays along legal steps, whatever came before them
pub well_on : (start : Network) (steps : List Step) (end : Network) → AreWell start
    → LegalFrom start steps end → AreWell end
well_on start steps end well legal =
    lanes_alone end (items_ended start steps)
    (carried (λ net made out. AllOn StandsWell (items_at net out))
    (λ net made out step needs held. AllOn-step StandsWell net (after net step) (taken_by net step)
    (items_at net out) (items_at (after net step) (λ e. out e ++ ended_by e net step))
    (step_on net out step needs) (λ p packet passes. (passes, refl)) (goes_well net) held)
    start [] (λ e. []) steps end well legal)

pub well_begun : (start : Network) → IsEmptyNetwork start → AreWell start
well_begun start empty = AllOn-empty StandsWell start empty

pub well_priority : (net : Network) → AreWell net → ByPriority net
well_priority net well = record {
  received = λ p r. only (ReceivedAt p r);
  waiting = λ p r. only (WaitingAt p r);
}
  where
    only : (place : ItemPlace) → AllByRecursion (HasPriority place) (items_at net (λ e. []) place)
    only place =
        all_weaker (StandsWell place) (HasPriority place) (λ item well. well.1)
        (items_at net (λ e. []) place) (well place)

-- the two halves of it by themselves
pub well_by : (net : Network) → IsFormed net → ByPriority net → AreWell net
well_by net formed own (ReceivedAt p r) =
    all-both (λ item. Passes item.now) (HasPriority (ReceivedAt p r)) (StandsWell (ReceivedAt p r))
    (λ item passes own. (passes, own)) (net.received p r)
    (formed.received p r) (own.received p r)
well_by net formed own (WaitingAt p r) =
    all-both (λ item. Passes item.now) (HasPriority (WaitingAt p r)) (StandsWell (WaitingAt p r))
    (λ item passes own. (passes, own)) (net.waiting p r)
    (formed.waiting p r) (own.waiting p r)
well_by net formed own (Over e) = tt

-- the first packet that a port has received is one in its link form
pub well_passes : (net : Network) → AreWell net → (p : PortRef) (r : ℕ) (packet : List ℕ)
    → first_packet (net.received p r) ≡ Some packet → Passes packet
well_passes net well p r packet is = go (net.received p r) is (well (ReceivedAt p r))
  where
    go : (items : List Item) → first_packet items ≡ Some packet
        → AllByRecursion (StandsWell (ReceivedAt p r)) items → Passes packet
    go [] is all = absurd (cc)
    go (item ∷ items) is all =
        let same : item.now ≡ packet = cc in
        subst Passes same all.0.0

pub by_priority : (start : Network) (steps : List Step) (end : Network) → IsEmptyNetwork start
    → LegalFrom start steps end → ByPriority end
by_priority start steps end empty legal =
    well_priority end (well_on start steps end (well_begun start empty) legal)
