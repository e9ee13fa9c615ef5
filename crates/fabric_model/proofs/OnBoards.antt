-- What holds of each item at each place, whatever step is made.
use Rattle.fabric_model.proofs.Prelude.{◌≡◌, ℕ, Bool, true, false, List, [], ◌∷◌, ◌++◌, sym, subst, refl, cond, AllByRecursion, prio_of, Passes, PortRef, Item, Network, item_of, IsEmptyNetwork, ItemPlace, ReceivedAt, WaitingAt, Over, same_place, items_at}
use Rattle.fabric_model.proofs.Boards.{place_is, Board, put, cut, Allowed, Goes, Comes, StepOn, Stays, IsTaken, IsMoved, IsAnswered}
use Rattle.fabric_model.proofs.Lists.{all-append}

abbrev pub AllOn : (ItemPlace → Item → Type 0) → Board → Type 0
AllOn Holds board = (place : ItemPlace) → AllByRecursion (Holds place) (board place)

pub AllOn-same : (Holds : ItemPlace → Item → Type 0) (old new : Board)
    → ((place : ItemPlace) → new place ≡ old place) → AllOn Holds old → AllOn Holds new
AllOn-same Holds old new same all place = subst (AllByRecursion (Holds place)) (sym (same place))
    (all place)

pub AllOn-put : (Holds : ItemPlace → Item → Type 0) (old : Board) (to : ItemPlace) (item : Item)
    → AllOn Holds old → Holds to item → AllOn Holds (put old to item)
AllOn-put Holds old to item all one place = go (same_place place to) refl
  where
    go : (t : Bool) → same_place place to ≡ t
        → AllByRecursion (Holds place) (cond t (old to ++ item ∷ []) (old place))
    go true same = subst (λ x. AllByRecursion (Holds x) (old to ++ item ∷ []))
        (sym (place_is place to same))
        (all-append (Holds to) (old to) (item ∷ []) (all to) (one, tt))
    go false apart = all place

pub AllOn-cut : (Holds : ItemPlace → Item → Type 0) (old : Board) (from : ItemPlace) (item : Item)
    (rest : List Item) → AllOn Holds old → old from ≡ item ∷ rest → Holds from item
    × AllOn Holds (cut old from rest)
AllOn-cut Holds old from item rest all was =
    (whole.0, λ place. go place (same_place place from) refl)
  where
    whole : AllByRecursion (Holds from) (item ∷ rest)
    whole = subst (AllByRecursion (Holds from)) was (all from)

    go : (place : ItemPlace) (t : Bool) → same_place place from ≡ t
        → AllByRecursion (Holds place) (cond t rest (old place))
    go place true same = subst (λ x. AllByRecursion (Holds x) rest) (sym (place_is place from same))
        whole.1
    go place false apart = all place

-- What holds of an item where it comes, and of an item as it goes if it held of it before, holds of
-- all after a step.
module _ (Holds : ItemPlace → Item → Type 0) (net : Network) where
  pub AllOn-goes : (old new : Board) → (g : Goes net old new)
      → (Holds g.from g.item → Holds g.to g.moved) → AllOn Holds old → AllOn Holds new
  AllOn-goes old new g goes all =
      let parts = AllOn-cut Holds old g.from g.item g.rest all g.was in
      AllOn-same Holds (put (cut old g.from g.rest) g.to g.moved) new g.becomes
      (AllOn-put Holds (cut old g.from g.rest) g.to g.moved parts.1 (goes parts.0))

  pub AllOn-comes : (made : List Item) (old new : Board) → (c : Comes net made old new)
      → Holds (WaitingAt c.port (prio_of c.packet)) (item_of net c.port c.packet) → AllOn Holds old
      → AllOn Holds new
  AllOn-comes made old new c comes all =
      AllOn-same Holds (put old (WaitingAt c.port (prio_of c.packet)) (item_of net c.port c.packet))
      new c.becomes
      (AllOn-put Holds old (WaitingAt c.port (prio_of c.packet)) (item_of net c.port c.packet) all
      comes)

  pub AllOn-step : (next : Network) (made : List Item) (old new : Board)
      → StepOn net next made old new
      → ((p : PortRef) (packet : List ℕ) → Passes packet → Holds (WaitingAt p (prio_of packet))
      (item_of net p packet))
      → ((from to : ItemPlace) (item moved : Item) → Allowed net from to item moved
      → Holds from item
      → Holds to moved) → AllOn Holds old → AllOn Holds new
  AllOn-step next made old new (Stays none given same) comes goes all =
      AllOn-same Holds old new same all
  AllOn-step next made old new (IsTaken given c) comes goes all =
      AllOn-comes made old new c (comes c.port c.packet c.passes) all
  AllOn-step next made old new (IsMoved none given g) comes goes all =
      AllOn-goes old new g (goes g.from g.to g.item g.moved g.allowed) all
  AllOn-step next made old new (IsAnswered mid given g c) comes goes all =
      AllOn-comes made mid new c (comes c.port c.packet c.passes)
      (AllOn-goes old mid g (goes g.from g.to g.item g.moved g.allowed) all)

-- nothing stands anywhere in an empty network
pub nothing_at : (net : Network) → IsEmptyNetwork net → (place : ItemPlace)
    → items_at net (λ e. []) place ≡ []
nothing_at net empty (ReceivedAt p r) = empty.received p r
nothing_at net empty (WaitingAt p r) = empty.waiting p r
nothing_at net empty (Over e) = refl

pub AllOn-empty : (Holds : ItemPlace → Item → Type 0) (net : Network) → IsEmptyNetwork net
    → AllOn Holds (items_at net (λ e. []))
AllOn-empty Holds net empty place =
    subst (AllByRecursion (Holds place)) (sym (nothing_at net empty place)) tt
