-- A step as what it does to the places where items stand: none moves, one comes to a place, one
-- goes from a place to
-- another, or one goes and then one comes.
use Rattle.fabric_model.proofs.Prelude.{◌≡◌, ℕ, ◌+◌, Bool, true, false, eqb, List, [], ◌∷◌, ◌++◌, map, Some, sym, ap, ap₂, ◌∙◌, subst, refl, cond, append-nil, and_parts, eqb-true, prio_of, dest_of, is_request, Passes, Nowhere, Port, moved, PortRef, Item, Network, same_port, port_of, peer_in, first_packet, IsEndpoint, next_at, Hold, Free, Take, Leave, Move, Drop, Answer, Step, Linked, AtNode, ByDevice, Needs, IsForRegisters, only_first, behind_first, moved_item, without_first, item_of, after_hold, after, End, EndLeft, EndDropped, EndAnswered, same_end, taken_by, ended_by, ItemPlace, ReceivedAt, WaitingAt, Over, same_place, items_at}
use Rattle.fabric_model.proofs.Peers.{port_is}
use Rattle.fabric_model.proofs.Moving.{moves_on, named_goes, sent_by}

end_is : (e f : End) → same_end e f ≡ true → e ≡ f
end_is EndLeft EndLeft same = refl
end_is EndDropped EndDropped same = refl
end_is EndAnswered EndAnswered same = refl
end_is EndLeft EndDropped same = absurd (cc)
end_is EndLeft EndAnswered same = absurd (cc)
end_is EndDropped EndLeft same = absurd (cc)
end_is EndDropped EndAnswered same = absurd (cc)
end_is EndAnswered EndLeft same = absurd (cc)
end_is EndAnswered EndDropped same = absurd (cc)

pub place_is : (a b : ItemPlace) → same_place a b ≡ true → a ≡ b
place_is (ReceivedAt p r) (ReceivedAt q s) same =
    let parts = and_parts (same_port p q) (eqb r s) same in
    ap₂ ReceivedAt (port_is p q parts.0) (eqb-true r s parts.1)
place_is (WaitingAt p r) (WaitingAt q s) same =
    let parts = and_parts (same_port p q) (eqb r s) same in
    ap₂ WaitingAt (port_is p q parts.0) (eqb-true r s parts.1)
place_is _ (ReceivedAt q s) same = absurd (cc)
place_is _ (WaitingAt q s) same = absurd (cc)
place_is (Over e) (Over f) same = ap Over (end_is e f same)
place_is _ (Over f) same = absurd (cc)

-- what stands where
abbrev pub Board : Type 0
Board = ItemPlace → List Item

-- with one more item at the end of a place
abbrev pub put : Board → ItemPlace → Item → Board
put old to item place = cond (same_place place to) (old to ++ item ∷ []) (old place)

-- with these items in a place
abbrev pub cut : Board → ItemPlace → List Item → Board
cut old from rest place = cond (same_place place from) rest (old place)

-- Which goings are allowed: from which place to which, of an item as it was and as it then is.
pub data Allowed (net : Network) : ItemPlace → ItemPlace → Item → Item → Type 0 where
  Crosses : (p q : PortRef) (r : ℕ) (item : Item) → peer_in net.links q ≡ Some p
      → Allowed net (WaitingAt p r) (ReceivedAt q r) item item
  Turns : (p q : PortRef) (item : Item) → q.node ≡ p.node → next_at net p.node item.now
      ≡ Some (Port q.port) → Allowed net (ReceivedAt p (prio_of item.now))
      (WaitingAt q (prio_of item.now)) item (moved_item item)
  Leaves : (n : ℕ) (item : Item) → IsEndpoint net n → is_request item.now ≡ false
      → Allowed net (ReceivedAt (port_of n) (prio_of item.now)) (Over EndLeft) item item
  Falls : (p : PortRef) (item : Item) → next_at net p.node item.now ≡ Some Nowhere
      → Allowed net (ReceivedAt p (prio_of item.now)) (Over EndDropped) item item
  IsHeard : (p : PortRef) (item : Item) → IsForRegisters net p item.now
      → Allowed net (ReceivedAt p (prio_of item.now)) (Over EndAnswered) item item

-- an item never goes from where it has ended
pub allowed_open : (net : Network) (from to : ItemPlace) (item moved : Item)
    → Allowed net from to item moved → (e : End) → from ≡ Over e → ⊥
allowed_open net from to item moved (Crosses p q r item2 peer) e is = absurd (cc)
allowed_open net from to item moved _ e is = absurd (cc)

pub moved_number : (net : Network) (from to : ItemPlace) (item moved : Item)
    → Allowed net from to item moved → moved.number ≡ item.number
moved_number net from to item moved2 (Turns p q item2 same named) = refl
moved_number net from to item moved _ = refl

-- what stays of an item that goes
pub record Along (item moved : Item) : Type 0 where
  pub number : moved.number ≡ item.number
  pub port : moved.port ≡ item.port
  pub taken : moved.taken ≡ item.taken
  pub passes : Passes moved.now
  pub prio : prio_of moved.now ≡ prio_of item.now
  pub dest : dest_of moved.now ≡ dest_of item.now

as_is : (item : Item) → Passes item.now → Along item item
as_is item passes = record {
  number = refl;
  port = refl;
  taken = refl;
  passes = passes;
  prio = refl;
  dest = refl;
}

pub allowed_along : (net : Network) (from to : ItemPlace) (item moved : Item)
    → Allowed net from to item moved → Passes item.now → Along item moved
allowed_along net from to item moved2 (Turns p q item2 same named) passes =
    let s = sent_by net p.node item.now (Port q.port) named in
    let on = moves_on item.now passes (named_goes s.device item.now q.port s.sends) in
    record {
      number = refl;
      port = refl;
      taken = refl;
      passes = on.passes;
      prio = on.prio;
      dest = on.dest;
    }
allowed_along net from to item moved _ passes = as_is item passes

-- the first item of a place goes to another
pub record Goes (net : Network) (old new : Board) : Type 0 where
  pub from : ItemPlace
  pub to : ItemPlace
  pub item : Item
  pub moved : Item
  pub rest : List Item
  pub allowed : Allowed net from to item moved
  pub was : old from ≡ item ∷ rest
  pub becomes : (place : ItemPlace) → new place ≡ put (cut old from rest) to moved place

-- the next number is given to an item at a port
pub record Comes (net : Network) (taken : List Item) (old new : Board) : Type 0 where
  pub port : PortRef
  pub packet : List ℕ
  pub made : taken ≡ item_of net port packet ∷ []
  pub passes : Passes packet
  pub becomes : (place : ItemPlace) → new place ≡ put old (WaitingAt port (prio_of packet))
      (item_of net port packet) place

-- what a step makes of a network, with the items that it takes
pub data StepOn (net next : Network) (made : List Item) (old new : Board) : Type 0 where
  Stays : made ≡ [] → next.given ≡ net.given → ((place : ItemPlace) → new place ≡ old place)
      → StepOn net next made old new
  IsTaken : next.given ≡ net.given + 1 → Comes net made old new → StepOn net next made old new
  IsMoved : made ≡ [] → next.given ≡ net.given → Goes net old new → StepOn net next made old new
  IsAnswered : (mid : Board) → next.given ≡ net.given + 1 → Goes net old mid
      → Comes net made mid new → StepOn net next made old new

-- a list with a first packet has a first item
pub record First (items : List Item) (packet : List ℕ) : Type 0 where
  pub item : Item
  pub whole : items ≡ item ∷ behind_first items
  pub only : only_first items ≡ item ∷ []
  pub now : item.now ≡ packet

pub first_item : (items : List Item) (packet : List ℕ) → first_packet items ≡ Some packet
    → First items packet
first_item [] packet first = absurd (cc)
first_item (item ∷ items) packet first = record { item = item; whole = refl; only = refl; now = cc }

-- with these items among those that have ended in a way
abbrev pub ending : (End → List Item) → End → List Item → End → List Item
ending out end items e = out e ++ cond (same_end e end) items []

module _ (net : Network) (out : End → List Item) where
  pub holds_on : (q p : PortRef) (r : ℕ) (item : Item) → only_first (net.waiting p r) ≡ item ∷ []
      → (place : ItemPlace) → items_at (after_hold net q (Some p) r) (λ e. out e ++ []) place
      ≡ put (cut (items_at net out) (WaitingAt p r) (behind_first (net.waiting p r)))
      (ReceivedAt q r)
      item place
  holds_on q p r item only (ReceivedAt s t) = rw only refl
  holds_on q p r item only (WaitingAt s t) = refl
  holds_on q p r item only (Over e) = append-nil (out e)

  pub frees_on : (p : PortRef) (packet : List ℕ) (place : ItemPlace)
      → items_at (after net (Linked (Free p packet))) (λ e. out e ++ []) place
      ≡ items_at net out place
  frees_on p packet (Over e) = append-nil (out e)
  frees_on p packet _ = refl

  pub takes_on : (n : ℕ) (packet : List ℕ) (place : ItemPlace)
      → items_at (after net (AtNode (Take n packet))) (λ e. out e ++ []) place
      ≡ put (items_at net out) (WaitingAt (port_of n) (prio_of packet))
      (item_of net (port_of n) packet) place
  takes_on n packet (Over e) = append-nil (out e)
  takes_on n packet _ = refl

  -- an item ends
  pub ends_on : (p : PortRef) (r : ℕ) (end : End) (item : Item) → only_first (net.received p r)
      ≡ item ∷ [] → (place : ItemPlace) → items_at (without_first net p r)
      (ending out end (only_first (net.received p r))) place
      ≡ put (cut (items_at net out) (ReceivedAt p r) (behind_first (net.received p r))) (Over end)
      item place
  ends_on p r end item only (Over e) = rw only (go (same_end e end) refl)
    where
      go : (t : Bool) → same_end e end ≡ t → out e ++ cond t (item ∷ []) []
          ≡ cond t (out end ++ item ∷ []) (out e)
      go true same = ap (λ x. out x ++ item ∷ []) (end_is e end same)
      go false apart = append-nil (out e)
  ends_on p r end item only _ = refl

  pub turns_on : (p q : PortRef) (packet : List ℕ) (item : Item)
      → only_first (map moved_item (net.received p (prio_of packet))) ≡ moved_item item ∷ []
      → (place : ItemPlace)
      → items_at (after net (ByDevice (Move p q packet))) (λ e. out e ++ []) place
      ≡ put (cut (items_at net out) (ReceivedAt p (prio_of packet))
      (behind_first (net.received p (prio_of packet)))) (WaitingAt q (prio_of packet))
      (moved_item item) place
  turns_on p q packet item only (ReceivedAt s t) = refl
  turns_on p q packet item only (WaitingAt s t) = rw only refl
  turns_on p q packet item only (Over e) = append-nil (out e)

  pub answers_on : (p : PortRef) (packet response : List ℕ) (place : ItemPlace)
      → items_at (after net (ByDevice (Answer p packet response)))
      (ending out EndAnswered (only_first (net.received p (prio_of packet)))) place
      ≡ put (items_at (without_first net p (prio_of packet))
      (ending out EndAnswered (only_first (net.received p (prio_of packet)))))
      (WaitingAt p (prio_of response)) (item_of net p response) place
  answers_on p packet response (ReceivedAt s t) = refl
  answers_on p packet response _ = refl

  -- the first item of what a port has received goes
  goes_from : (p : PortRef) (packet : List ℕ) (to : ItemPlace) (new : Board) (moves : Item → Item)
      (first : First (net.received p (prio_of packet)) packet)
      → Allowed net (ReceivedAt p (prio_of first.item.now)) to first.item (moves first.item)
      → ((place : ItemPlace) → new place
      ≡ put (cut (items_at net out) (ReceivedAt p (prio_of packet))
      (behind_first (net.received p (prio_of packet)))) to (moves first.item) place)
      → Goes net (items_at net out) new
  goes_from p packet to new moves first allowed becomes = record {
    from = ReceivedAt p (prio_of packet);
    to = to;
    item = first.item;
    moved = moves first.item;
    rest = behind_first (net.received p (prio_of packet));
    allowed = subst (λ r. Allowed net (ReceivedAt p r) to first.item (moves first.item))
        (ap prio_of first.now) allowed;
    was = first.whole;
    becomes = becomes;
  }

  -- it ends
  ends_goes : (p : PortRef) (packet : List ℕ) (end : End)
      (first : First (net.received p (prio_of packet)) packet)
      → Allowed net (ReceivedAt p (prio_of first.item.now)) (Over end) first.item first.item
      → Goes net (items_at net out)
      (items_at (without_first net p (prio_of packet))
      (ending out end (only_first (net.received p (prio_of packet)))))
  ends_goes p packet end first allowed = goes_from p packet (Over end) _ (λ x. x) first allowed
      (ends_on p (prio_of packet) end first.item first.only)

  -- what a step makes of what stands where
  abbrev pub OnBoard : Step → Type 0
  OnBoard step = StepOn net (after net step) (taken_by net step) (items_at net out)
      (items_at (after net step) (λ e. out e ++ ended_by e net step))

  held_on : (q : PortRef) (packet : List ℕ) → Needs net (Linked (Hold q packet))
      → OnBoard (Linked (Hold q packet))
  held_on q packet needs =
      let r = prio_of packet in
      let first = first_item (net.waiting needs.0 r) packet needs.2 in
      subst (λ x. StepOn net (after_hold net q x r) [] (items_at net out)
      (items_at (after_hold net q x r) (λ e. out e ++ []))) (sym needs.1)
      (IsMoved refl refl (record {
        from = WaitingAt needs.0 r;
        to = ReceivedAt q r;
        item = first.item;
        moved = first.item;
        rest = behind_first (net.waiting needs.0 r);
        allowed = Crosses needs.0 q r first.item needs.1;
        was = first.whole;
        becomes = holds_on q needs.0 r first.item first.only;
      }))

  moved_on : (p q : PortRef) (packet : List ℕ) → Needs net (ByDevice (Move p q packet))
      → OnBoard (ByDevice (Move p q packet))
  moved_on p q packet needs =
      let r = prio_of packet in
      let first = first_item (net.received p r) packet needs.1 in
      let only : only_first (map moved_item (net.received p r)) ≡ moved_item first.item ∷ [] =
      ap (λ xs. only_first (map moved_item xs)) first.whole in
      let named : next_at net p.node first.item.now ≡ Some (Port q.port) =
      ap (next_at net p.node) first.now ∙ needs.2 in
      let turns : Allowed net (ReceivedAt p (prio_of first.item.now)) (WaitingAt q r) first.item
      (moved_item first.item) =
      subst (λ s. Allowed net (ReceivedAt p (prio_of first.item.now)) (WaitingAt q s) first.item
      (moved_item first.item)) (ap prio_of first.now) (Turns p q first.item needs.0 named) in
      IsMoved refl refl
      (goes_from p packet (WaitingAt q r) _ moved_item first turns
      (turns_on p q packet first.item only))

  dropped_on : (p : PortRef) (packet : List ℕ) → Needs net (ByDevice (Drop p packet))
      → OnBoard (ByDevice (Drop p packet))
  dropped_on p packet needs =
      let first = first_item (net.received p (prio_of packet)) packet needs.0 in
      IsMoved refl refl
      (ends_goes p packet EndDropped first
      (Falls p first.item (ap (next_at net p.node) first.now ∙ needs.1)))

  left_on : (n : ℕ) (packet : List ℕ) → Needs net (AtNode (Leave n packet))
      → OnBoard (AtNode (Leave n packet))
  left_on n packet needs =
      let first = first_item (net.received (port_of n) (prio_of packet)) packet needs.1 in
      IsMoved refl refl
      (ends_goes (port_of n) packet EndLeft first
      (Leaves n first.item needs.0 (ap is_request first.now ∙ needs.2)))

  answered_on : (p : PortRef) (packet response : List ℕ)
      → Needs net (ByDevice (Answer p packet response))
      → OnBoard (ByDevice (Answer p packet response))
  answered_on p packet response needs =
      let first = first_item (net.received p (prio_of packet)) packet needs.0 in
      let heard = IsHeard p first.item (subst (IsForRegisters net p) (sym first.now) needs.1) in
      IsAnswered
      (items_at (without_first net p (prio_of packet))
      (ending out EndAnswered (only_first (net.received p (prio_of packet))))) refl
      (ends_goes p packet EndAnswered first heard)
      (record {
        port = p;
        packet = response;
        made = refl;
        passes = needs.3;
        becomes = answers_on p packet response;
      })

  -- each step is one of these, whatever has ended before
  pub step_on : (step : Step) → Needs net step → OnBoard step
  step_on (Linked (Hold q packet)) needs = held_on q packet needs
  step_on (Linked (Free p packet)) needs = Stays refl refl (frees_on p packet)
  step_on (AtNode (Take n packet)) needs =
      IsTaken refl
      (record {
        port = port_of n;
        packet = packet;
        made = refl;
        passes = needs.1;
        becomes = takes_on n packet;
      })
  step_on (AtNode (Leave n packet)) needs = left_on n packet needs
  step_on (ByDevice (Move p q packet)) needs = moved_on p q packet needs
  step_on (ByDevice (Drop p packet)) needs = dropped_on p packet needs
  step_on (ByDevice (Answer p packet response)) needs = answered_on p packet response needs
