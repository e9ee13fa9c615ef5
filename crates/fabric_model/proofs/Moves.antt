-- Each item is what was taken, after as many moves as it has made.
use Rattle.fabric_model.proofs.Prelude.{◌≡◌, ℕ, suc, ◌+◌, ◌<◌, Bool, true, false, eqb, List, [], ◌∷◌, ◌++◌, map, sym, ap, ◌∙◌, subst, refl, cond, append-nil, append_assoc, arith, AllByRecursion, eq-eqb, ne_eqb, prio_of, Passes, Port, next_hop_moved, PortRef, Item, Network, port_of, Hold, Free, Take, Leave, Move, Drop, Answer, Step, Linked, AtNode, ByDevice, Needs, only_first, behind_first, moved_item, without_first, item_of, after_hold, after, LegalFrom, IsEmptyNetwork, End, EndLeft, EndDropped, EndAnswered, taken_by, ended_by, items_ended, ItemPlace, ReceivedAt, WaitingAt, Over, same_place, items_at, how_often, StandsAt, IsAfterMoves, AsItWas, OnceMore, moved_by, moves}
use Rattle.fabric_model.proofs.Moving.{MovesOn, moves_on, named_goes, sent_by}
use Rattle.fabric_model.proofs.Boards.{place_is, Board, put, cut, ending, holds_on, frees_on, takes_on, turns_on, ends_on, answers_on, First, first_item}
use Rattle.fabric_model.proofs.Lists.{all-append, all_weaker, all-both}
use Rattle.fabric_model.proofs.OnBoards.{AllOn, AllOn-same, AllOn-put, AllOn-cut, AllOn-empty}
use Rattle.fabric_model.proofs.Holding.{slice_below, Standing, AsTaken, Held, held_step, Held-empty, how_often-append, how_often-cut}

abbrev pub HasMoved : List Item → Item → Type 0
HasMoved moved item = IsAfterMoves item.taken (how_often item.number moved) item.now

-- what holds all along, with the items that have moved so far
pub record Moved (given : ℕ) (moved : List Item) (board : Board) : Type 0 where
  pub after : AllOn (λ place. HasMoved moved) board
  pub known : AllByRecursion (λ (item : Item). item.number < given) moved

-- ---- numbers that stand nowhere

none_below : (n : ℕ) (items : List Item) → AllByRecursion (λ (item : Item). item.number < n) items
    → how_often n items ≡ 0
none_below n [] all = refl
none_below n (item ∷ items) all = rw (ne_eqb item.number n (λ same. omega (arith, same, all.0)))
    (omega (arith, none_below n items all.1))

none_of : (n : ℕ) (items : List Item) → how_often n items ≡ 0
    → AllByRecursion (λ (item : Item). item.number ≡ n → ⊥) items
none_of n [] none = tt
none_of n (item ∷ items) none = (
  λ same. omega (arith, none, ap (λ t. cond {A = ℕ} t 1 0) (eq-eqb item.number n same)),
  none_of n items (omega (arith, none)),
)

-- the number of a first item, without it
cut_has_none : (given : ℕ) (board : Board) (from : ItemPlace) (item : Item) (rest : List Item)
    → Standing given board → board from ≡ item ∷ rest → item.number < given → (place : ItemPlace)
    → how_often item.number (cut board from rest place) ≡ 0
cut_has_none given board from item rest standing was below place =
    go (standing.placed item.number below)
  where
    one : cond {A = ℕ} (eqb item.number item.number) 1 0 ≡ 1
    one = ap (λ t. cond {A = ℕ} t 1 0) (eq-eqb item.number item.number refl)

    true_if : (t : Bool) → 0 < cond {A = ℕ} t 1 0 → t ≡ true
    true_if true pos = refl
    true_if false pos = absurd (omega arith)

    go : ((at : ItemPlace) × StandsAt board item.number at)
        → how_often item.number (cut board from rest place) ≡ 0
    go (at, stands) =
        let here : from ≡ at =
        place_is from at
        (true_if (same_place from at)
        (omega (arith, stands from, ap (how_often item.number) was, one))) in
        let all = how_often-cut item.number board from item rest was place in
        let there : how_often item.number (board place) ≡ cond {A = ℕ} (same_place place from) 1 0 =
        stands place ∙ ap (λ x. cond {A = ℕ} (same_place place x) 1 0) (sym here) in
        let own : cond {A = ℕ} (same_place place from)
        (cond {A = ℕ} (eqb item.number item.number) 1 0) 0
        ≡ cond {A = ℕ} (same_place place from) 1 0 =
        ap (λ n. cond {A = ℕ} (same_place place from) n 0) one in
        omega (arith, all, there, own)

-- ---- steps

-- the first item of a place goes as it is
goes_as_is : (given : ℕ) (moved : List Item) (old new : Board) (from to : ItemPlace) (item : Item)
    (rest : List Item) → old from ≡ item ∷ rest
    → ((place : ItemPlace) → new place ≡ put (cut old from rest) to item place)
    → Moved given moved old
    → Moved given moved new
goes_as_is given moved old new from to item rest was becomes m =
    let parts = AllOn-cut (λ place. HasMoved moved) old from item rest m.after was in
    record {
      after = AllOn-same (λ place. HasMoved moved) (put (cut old from rest) to item) new becomes
          (AllOn-put (λ place. HasMoved moved) (cut old from rest) to item parts.1 parts.0);
      known = m.known;
    }

-- the next number comes
comes : (net : Network) (moved : List Item) (old new : Board) (p : PortRef) (packet : List ℕ)
    → ((place : ItemPlace)
    → new place ≡ put old (WaitingAt p (prio_of packet)) (item_of net p packet)
    place) → Moved net.given moved old → Moved (net.given + 1) moved new
comes net moved old new p packet becomes m = record {
  after = AllOn-same (λ place. HasMoved moved)
      (put old (WaitingAt p (prio_of packet)) (item_of net p packet)) new becomes
      (AllOn-put (λ place. HasMoved moved) old (WaitingAt p (prio_of packet)) (item_of net p packet)
      m.after
      (subst (λ n. IsAfterMoves packet n packet) (sym (none_below net.given moved m.known))
      AsItWas));
  known = all_weaker (λ (item : Item). item.number < net.given)
      (λ (item : Item). item.number < net.given + 1) (λ item below. omega (arith, below)) moved
      m.known;
}

-- an item moves
turns : (given : ℕ) (made moved : List Item) (old new : Board) (from to : ItemPlace) (item : Item)
    (rest : List Item) → Standing given old → AllOn (λ place. AsTaken made) old → item.number
    < given → old from ≡ item ∷ rest → MovesOn item.now (moved_item item).now
    → ((place : ItemPlace) → new place ≡ put (cut old from rest) to (moved_item item) place)
    → Moved given moved old → Moved given (moved ++ item ∷ []) new
turns given made moved old new from to item rest standing known below was on becomes m =
    let parts = AllOn-cut (λ place. HasMoved moved) old from item rest m.after was in
    record {
      after = AllOn-same (λ place. HasMoved (moved ++ item ∷ []))
          (put (cut old from rest) to (moved_item item)) new becomes
          (AllOn-put (λ place. HasMoved (moved ++ item ∷ [])) (cut old from rest) to
          (moved_item item) (others parts.1) (own parts.0));
      known = all-append (λ (x : Item). x.number < given) moved (item ∷ []) m.known (below, tt);
    }
  where
    one_more : how_often item.number (moved ++ item ∷ []) ≡ suc (how_often item.number moved)
    one_more =
        omega (
          arith,
          how_often-append item.number moved (item ∷ []),
          ap (λ t. cond {A = ℕ} t 1 0)
              (eq-eqb item.number item.number refl),
        )

    own : HasMoved moved item → HasMoved (moved ++ item ∷ []) (moved_item item)
    own before = subst (λ n. IsAfterMoves item.taken n (moved_item item).now) (sym one_more)
        (OnceMore before on.once)

    other : (x : Item) → HasMoved moved x → (x.number ≡ item.number → ⊥)
        → HasMoved (moved ++ item ∷ []) x
    other x before apart =
        let none =
        ap (λ t. cond {A = ℕ} t 1 0)
        (ne_eqb item.number x.number (λ same. apart (sym same))) in
        let same : how_often x.number moved ≡ how_often x.number (moved ++ item ∷ []) =
        omega (arith, how_often-append x.number moved (item ∷ []), none) in
        subst (λ n. IsAfterMoves x.taken n x.now) same before

    others : AllOn (λ place. HasMoved moved) (cut old from rest)
        → AllOn (λ place. HasMoved (moved ++ item ∷ [])) (cut old from rest)
    others all place = all-both (HasMoved moved) (λ (x : Item). x.number ≡ item.number → ⊥)
        (HasMoved (moved ++ item ∷ [])) other (cut old from rest place) (all place)
        (none_of item.number (cut old from rest place)
        (cut_has_none given old from item rest standing was below place))

-- a step, with what it takes from where
module _ (net : Network) (made : List Item) (out : End → List Item) (moved : List Item)
    (held : Held net made out) (m : Moved net.given moved (items_at net out)) where
  -- what holds after a step
  abbrev After : Step → Type 0
  After step = Moved (after net step).given (moved ++ moved_by net step)
      (items_at (after net step) (λ e. out e ++ ended_by e net step))

  -- no item moves
  none_moves : {given : ℕ} {board : Board} → Moved given moved board
      → Moved given (moved ++ []) board
  none_moves {given} {board} kept = rw (append-nil moved) kept

  ends : (p : PortRef) (packet : List ℕ) (end : End)
      (first : First (net.received p (prio_of packet)) packet)
      → Moved net.given moved
      (items_at (without_first net p (prio_of packet))
      (ending out end (only_first (net.received p (prio_of packet)))))
  ends p packet end first = goes_as_is net.given moved (items_at net out) _
      (ReceivedAt p (prio_of packet)) (Over end) first.item
      (behind_first (net.received p (prio_of packet))) first.whole
      (ends_on net out p (prio_of packet) end first.item first.only) m

  moves_after : (p q : PortRef) (packet : List ℕ) → Needs net (ByDevice (Move p q packet))
      → After (ByDevice (Move p q packet))
  moves_after p q packet needs =
      let r = prio_of packet in
      let first = first_item (net.received p r) packet needs.1 in
      let sent = sent_by net p.node packet (Port q.port) needs.2 in
      let known = AllOn-cut (λ place. AsTaken made) (items_at net out) (ReceivedAt p r) first.item
      (behind_first (net.received p r)) held.known first.whole in
      let on = moves_on packet (subst Passes first.now known.0.passes)
      (named_goes sent.device packet q.port sent.sends) in
      let moves_item : MovesOn first.item.now (moved_item first.item).now =
      subst (λ x. MovesOn x (next_hop_moved x)) (sym first.now) on in
      let below : first.item.number < net.given =
      omega (arith, slice_below made first.item.number _ known.0.known, held.counted) in
      let only : only_first (map moved_item (net.received p r)) ≡ moved_item first.item ∷ [] =
      ap (λ xs. only_first (map moved_item xs)) first.whole in
      subst (λ xs. Moved net.given (moved ++ xs)
      (items_at (after net (ByDevice (Move p q packet))) (λ e. out e ++ []))) (sym first.only)
      (turns net.given made moved (items_at net out) _ (ReceivedAt p r) (WaitingAt q r) first.item
      (behind_first (net.received p r)) held.standing held.known below first.whole moves_item
      (turns_on net out p q packet first.item only) m)

  step_after : (step : Step) → Needs net step → After step
  step_after (Linked (Hold q packet)) needs =
      let r = prio_of packet in
      let first = first_item (net.waiting needs.0 r) packet needs.2 in
      subst (λ x. Moved (after_hold net q x r).given (moved ++ [])
      (items_at (after_hold net q x r) (λ e. out e ++ []))) (sym needs.1)
      (none_moves
      (goes_as_is net.given moved (items_at net out) _ (WaitingAt needs.0 r) (ReceivedAt q r)
      first.item (behind_first (net.waiting needs.0 r)) first.whole
      (holds_on net out q needs.0 r first.item first.only) m))
  step_after (Linked (Free p packet)) needs =
      none_moves
      (record {
        after = AllOn-same (λ place. HasMoved moved) (items_at net out) _
            (frees_on net out p packet) m.after;
        known = m.known;
      })
  step_after (AtNode (Take n packet)) needs =
      none_moves
      (comes net moved (items_at net out) _ (port_of n) packet (takes_on net out n packet) m)
  step_after (AtNode (Leave n packet)) needs =
      none_moves
      (ends (port_of n) packet EndLeft
      (first_item (net.received (port_of n) (prio_of packet)) packet needs.1))
  step_after (ByDevice (Move p q packet)) needs = moves_after p q packet needs
  step_after (ByDevice (Drop p packet)) needs =
      none_moves
      (ends p packet EndDropped (first_item (net.received p (prio_of packet)) packet needs.0))
  step_after (ByDevice (Answer p packet response)) needs =
      none_moves
      (comes net moved _ _ p response (answers_on net out p packet response)
      (ends p packet EndAnswered (first_item (net.received p (prio_of packet)) packet needs.0)))

-- along all legal steps
moved_from : (net : Network) (made : List Item) (out : End → List Item) (moved : List Item)
    (steps : List Step) (end : Network) → Held net made out
    → Moved net.given moved (items_at net out) → LegalFrom net steps end
    → Moved end.given (moved ++ moves net steps)
    (items_at end (λ e. out e ++ items_ended net steps e))
moved_from net made out moved [] end held m legal =
    let none : (λ (e : End). out e) ≡ (λ (e : End). out e ++ []) =
    λ i e. sym (append-nil (out e)) i in
    rw (append-nil moved)
    (subst (λ (o : End → List Item). Moved end.given moved (items_at end o)) none
    (subst (λ (n : Network). Moved n.given moved (items_at n out)) (sym legal) m))
moved_from net made out moved (step ∷ steps) end held m legal =
    let next = step_after net made out moved held m step legal.0 in
    let whole = moved_from (after net step) (made ++ taken_by net step)
    (λ e. out e ++ ended_by e net step) (moved ++ moved_by net step) steps end
    (held_step net made out step legal.0 held) next legal.1 in
    let joined : (λ (e : End). (out e ++ ended_by e net step)
    ++ items_ended (after net step) steps e)
    ≡ (λ (e : End). out e ++ (ended_by e net step ++ items_ended (after net step) steps e)) =
    λ i e. append_assoc (out e) (ended_by e net step) (items_ended (after net step) steps e) i in
    subst (λ (o : End → List Item). Moved end.given (moved ++ moves net (step ∷ steps))
    (items_at end o)) joined
    (rw (append_assoc moved (moved_by net step) (moves (after net step) steps)) at whole)

pub moved_along : (start : Network) (steps : List Step) (end : Network) → IsEmptyNetwork start
    → LegalFrom start steps end → Moved end.given (moves start steps)
    (items_at end (items_ended start steps))
moved_along start steps end empty legal =
    moved_from start [] (λ e. []) [] steps end (Held-empty start empty)
    (record { after = AllOn-empty (λ place. HasMoved []) start empty; known = tt }) legal
