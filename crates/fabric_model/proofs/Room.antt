-- A port never has more packets to be sent than it has places.
use Rattle.fabric_model.proofs.Prelude.{◌≡◌, ℕ, ◌+◌, ◌==◌, ◌&&◌, ◌≤◌, Bool, true, false, cond, List, [], ◌∷◌, ◌++◌, map, Some, Option, length, filter, inl, inr, refl, sym, ap, ◌∙◌, subst, arith, length-append, eqb-true, eq-eqb, ltb-true, and_parts, cases_Bool, filter-append, prio_of, PortRef, Item, Network, same_port, port_of, first_packet, with_lane, with_lent, to_send, places, Hold, Free, Take, Leave, Move, Drop, Answer, Step, Linked, AtNode, ByDevice, Needs, only_first, behind_first, moved_item, after_hold, after, LegalFrom, IsEmptyNetwork}
use Rattle.fabric_model.specs.Laws.Room.{HasPlaces}
use Rattle.fabric_model.proofs.Peers.{port_is, same_port-refl}
use Rattle.fabric_model.proofs.Boards.{First, first_item}

-- how many items are of a priority
abbrev count : ℕ → List Item → ℕ
count r items = length (filter (λ item. prio_of item.now == r) items)

count-append : (r : ℕ) (items more : List Item) → count r (items ++ more) ≡ count r items
    + count r more
count-append r items more =
    ap length (filter-append (λ (item : Item). prio_of item.now == r) items more)
    ∙ length-append (filter (λ (item : Item). prio_of item.now == r) items)
    (filter (λ (item : Item). prio_of item.now == r) more)

-- one item is of its own priority, and of no other
count-one : (r : ℕ) (item : Item) (b : Bool) → (prio_of item.now == r) ≡ b → count r (item ∷ [])
    ≡ cond b 1 0
count-one r item true is = rw is refl
count-one r item false is = rw is refl

count-behind : (r : ℕ) (items : List Item) → count r (behind_first items) ≤ count r items
count-behind r [] = omega arith
count-behind r (item ∷ items) =
    elim (cases_Bool (prio_of item.now == r)) [
      | inl own ↦
          let all : count r (item ∷ items) ≡ count r items + 1 = rw own (omega arith) in
          omega arith
      | inr other ↦ let all : count r (item ∷ items) ≡ count r items = rw other refl in omega arith
    ]

-- items, one at the most, come to what waits
move_places :
    (net : Network) (q : PortRef) (s : ℕ) (items : List Item) → length items ≤ 1 → to_send net q s
    + 1 ≤ places → HasPlaces net
    → (p : PortRef) (r : ℕ) → length (with_lane net.waiting q s (net.waiting q s ++ items) p r)
    + count r (net.lent p) ≤ places
move_places net q s items few room has p r =
    elim (cases_Bool (same_port p q && (r == s))) [
      | inl here ↦
          let parts = and_parts (same_port p q) (r == s) here in
          let longer = length-append (net.waiting q s) items in
          let there : length (net.waiting q s ++ items) + count s (net.lent q) ≤ places =
          omega arith in
          rw here (
          subst (λ (x : PortRef). length (net.waiting q s ++ items) + count r (net.lent x) ≤ places)
          (sym (port_is p q parts.0))
          (subst (λ (t : ℕ). length (net.waiting q s ++ items) + count t (net.lent q) ≤ places)
          (sym (eqb-true r s parts.1)) there)
          )
      | inr elsewhere ↦ rw elsewhere (has p r)
    ]

pub at_most_first : (items : List Item) → length (only_first items) ≤ 1
at_most_first [] = omega arith
at_most_first (item ∷ items) = omega arith

-- an item comes
put_places :
    (net : Network) (q : PortRef) (s : ℕ) (item : Item) → to_send net q s + 1 ≤ places
    → HasPlaces net
    → (p : PortRef) (r : ℕ) → length (with_lane net.waiting q s (net.waiting q s ++ item ∷ []) p r)
    + count r (net.lent p) ≤ places
put_places net q s item room has p r = move_places net q s (item ∷ []) (omega arith) room has p r

-- the first item of a lane is lent
held_places :
    (net : Network) (p : PortRef) (packet : List ℕ) (item : Item) (rest : List Item)
    → net.waiting p (prio_of packet) ≡ item ∷ rest → item.now ≡ packet → HasPlaces net
    → (r : ℕ) → length (cond (r == prio_of packet) rest (net.waiting p r))
    + count r (net.lent p ++ item ∷ []) ≤ places
held_places net p packet item rest waits its has r =
    let all = count-append r (net.lent p) (item ∷ []) in
    elim (cases_Bool (r == prio_of packet)) [
      | inl own ↦
          let same : r ≡ prio_of packet = eqb-true r (prio_of packet) own in
          let before = subst (λ (s : ℕ). length (net.waiting p s) + count r (net.lent p) ≤ places)
          same (has p r) in
          let shorter = ap length waits in
          let one : count r (item ∷ []) ≤ 1 = at_most_one r item in
          rw own (omega arith)
      | inr other ↦
          let different : (prio_of item.now == r) ≡ false = apart r item packet its other in
          let none = count-one r item false different in
          let before = has p r in
          rw other (omega arith)
    ]
  where
    at_most_one : (r : ℕ) (item : Item) → count r (item ∷ []) ≤ 1
    at_most_one r item =
        elim (cases_Bool (prio_of item.now == r)) [
          | inl own ↦ let one = count-one r item true own in omega arith
          | inr other ↦ let one = count-one r item false other in omega arith
        ]

    apart : (r : ℕ) (item : Item) (packet : List ℕ) → item.now ≡ packet → (r == prio_of packet)
        ≡ false → (prio_of item.now == r) ≡ false
    apart r item packet its other =
        elim (cases_Bool (prio_of item.now == r)) [
          | inl own ↦
              let same : prio_of item.now ≡ r = eqb-true (prio_of item.now) r own in
              let back : (r == prio_of packet) ≡ true =
              eq-eqb r (prio_of packet) (sym same ∙ ap prio_of its) in
              absurd (cc)
          | inr differs ↦ differs
        ]

-- a packet is held at the far port, and lent at the near one
hold_places :
    (net : Network) (q p : PortRef) (packet : List ℕ)
    → first_packet (net.waiting p (prio_of packet)) ≡ Some packet → HasPlaces net
    → HasPlaces (after_hold net q (Some p) (prio_of packet))
hold_places net q p packet first has x r =
    elim (cases_Bool (same_port x p)) [
      | inl here ↦ subst (λ (y : PortRef). to_send (after_hold net q (Some p) (prio_of packet)) y r
          ≤ places) (sym (port_is x p here)) at_port
      | inr elsewhere ↦ rw elsewhere (has x r)
    ]
  where
    found : First (net.waiting p (prio_of packet)) packet
    found = first_item (net.waiting p (prio_of packet)) packet first

    at_port : to_send (after_hold net q (Some p) (prio_of packet)) p r ≤ places
    at_port =
        rw (same_port-refl p, found.only)
        (held_places net p packet found.item (behind_first (net.waiting p (prio_of packet)))
        found.whole found.now has r)

-- the first packet that is lent is freed
free_places : (net : Network) (p : PortRef) → HasPlaces net
    → HasPlaces (record net { lent = with_lent net.lent p (behind_first (net.lent p)) })
free_places net p has x r =
    elim (cases_Bool (same_port x p)) [
      | inl here ↦
          let before = has p r in
          let fewer = count-behind r (net.lent p) in
          let same = port_is x p here in
          let there : length (net.waiting p r) + count r (behind_first (net.lent p)) ≤ places =
          omega arith in
          rw here (subst
          (λ (y : PortRef). length (net.waiting y r) + count r (behind_first (net.lent p))
          ≤ places) (sym same) there)
      | inr elsewhere ↦ rw elsewhere (has x r)
    ]

step_places : (net : Network) (step : Step) → Needs net step → HasPlaces net
    → HasPlaces (after net step)
step_places net (Linked (Hold q packet)) (p, peer, first, room) has =
    subst (λ (o : Option PortRef). HasPlaces (after_hold net q o (prio_of packet))) (sym peer)
    (hold_places net q p packet first has)
step_places net (Linked (Free p packet)) first has = free_places net p has
step_places net (AtNode (Take n packet)) (endpoint, form, room) has = λ p r.
    let less = ltb-true (to_send net (port_of n) (prio_of packet)) places room in
    put_places net (port_of n) (prio_of packet) _ (omega arith) has p r
step_places net (AtNode (Leave n packet)) needs has = has
step_places net (ByDevice (Move p q packet)) (node, first, named, room) has = λ t r.
    let less = ltb-true (to_send net q (prio_of packet)) places room in
    move_places net q (prio_of packet)
    (only_first (map moved_item (net.received p (prio_of packet))))
    (at_most_first (map moved_item (net.received p (prio_of packet)))) (omega arith) has t r
step_places net (ByDevice (Drop p packet)) needs has = has
step_places net (ByDevice (Answer p packet response)) (first, registers, is, form, room) has =
    λ t r.
    let less = ltb-true (to_send net p (prio_of response)) places room in
    put_places net p (prio_of response) _ (omega arith) has t r

all_places : (net : Network) (steps : List Step) (end : Network) → HasPlaces net
    → LegalFrom net steps end → HasPlaces end
all_places net [] end has legal = subst HasPlaces (sym legal) has
all_places net (step ∷ steps) end has legal =
    all_places (after net step) steps end (step_places net step legal.0 has) legal.1

pub places_suffice : (start : Network) (steps : List Step) (end : Network) → IsEmptyNetwork start
    → LegalFrom start steps end → HasPlaces end
places_suffice start steps end empty legal =
    all_places start steps end (λ p r. rw (empty.waiting p r, empty.lent p) (omega arith)) legal
