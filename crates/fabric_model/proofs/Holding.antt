-- A network holds exactly the packets taken.
use Rattle.fabric_model.proofs.Prelude.{◌≡◌, ℕ, zero, suc, ◌+◌, ◌<◌, ◌≤◌, Bool, true, false, eqb, List, [], ◌∷◌, ◌++◌, length, Some, slice_get, sym, ap, ◌∙◌, subst, refl, cond, append-nil, arith, length-append, ◌⊎◌, inl, inr, ne_eqb, eq-eqb, cases_eq, prio_of, Passes, Item, Network, Step, Needs, item_of, after, LegalFrom, IsEmptyNetwork, End, taken_by, ended_by, items_taken, items_ended, WasTaken, ItemPlace, WaitingAt, same_place, items_at, how_often, StandsAt, HoldingExactly}
use Rattle.fabric_model.proofs.Joining.{carried}
use Rattle.fabric_model.proofs.Boards.{place_is, Board, put, cut, Allowed, allowed_along, Goes, Comes, StepOn, Stays, IsTaken, IsMoved, IsAnswered, step_on}
use Rattle.fabric_model.proofs.OnBoards.{AllOn, AllOn-same, AllOn-put, AllOn-cut, AllOn-goes, nothing_at, AllOn-empty}
use Rattle.fabric_model.proofs.Lists.{all_weaker}

-- how often a number is the one item's
abbrev one : ℕ → Item → ℕ
one n item = cond (eqb item.number n) 1 0

pub how_often-append : (n : ℕ) (xs ys : List Item) → how_often n (xs ++ ys) ≡ how_often n xs
    + how_often n ys
how_often-append n [] ys = omega arith
how_often-append n (x ∷ xs) ys = omega (arith, how_often-append n xs ys)

how_often-put : (n : ℕ) (old : Board) (to : ItemPlace) (item : Item) (place : ItemPlace)
    → how_often n (put old to item place) ≡ how_often n (old place)
    + cond (same_place place to) (one n item) 0
how_often-put n old to item place = go (same_place place to) refl
  where
    go : (t : Bool) → same_place place to ≡ t
        → how_often n (cond t (old to ++ item ∷ []) (old place)) ≡ how_often n (old place)
        + cond t (one n item) 0
    go true same =
        let here = ap (λ x. how_often n (old x)) (place_is place to same) in
        omega (arith, how_often-append n (old to) (item ∷ []), here)
    go false apart = omega arith

pub how_often-cut : (n : ℕ) (old : Board) (from : ItemPlace) (item : Item) (rest : List Item)
    → old from
    ≡ item ∷ rest → (place : ItemPlace) → how_often n (cut old from rest place)
    + cond (same_place place from) (one n item) 0 ≡ how_often n (old place)
how_often-cut n old from item rest was place = go (same_place place from) refl
  where
    go : (t : Bool) → same_place place from ≡ t → how_often n (cond t rest (old place))
        + cond t (one n item) 0 ≡ how_often n (old place)
    go true same =
        let here = ap (λ x. how_often n (old x)) (place_is place from same) in
        let there = ap (how_often n) was in
        omega (arith, here, there)
    go false apart = omega arith

-- each number below this one stands in exactly one place, and no other number anywhere
pub record Standing (given : ℕ) (board : Board) : Type 0 where
  pub placed : (n : ℕ) → n < given → (place : ItemPlace) × StandsAt board n place
  pub fresh : (n : ℕ) → given ≤ n → (place : ItemPlace) → how_often n (board place) ≡ 0

one_own : (n : ℕ) (item : Item) → item.number ≡ n → one n item ≡ 1
one_own n item same = rw (eq-eqb item.number n same)

one_other : (n : ℕ) (item : Item) → (item.number ≡ n → ⊥) → one n item ≡ 0
one_other n item other = rw (ne_eqb item.number n other)

cond_zero : (t : Bool) → cond {A = ℕ} t 0 0 ≡ 0
cond_zero true = refl
cond_zero false = refl

Standing-same : (given : ℕ) (old new : Board) → Standing given old
    → ((place : ItemPlace) → new place ≡ old place) → Standing given new
Standing-same given old new standing same = record {
  placed = λ n below.
      let at = standing.placed n below in
      (at.0, λ place. ap (how_often n) (same place) ∙ at.1 place);
  fresh = λ n above place. ap (how_often n) (same place) ∙ standing.fresh n above place;
}

-- the next number comes to a place
Standing-put : (given : ℕ) (board : Board) (to : ItemPlace) (item : Item) → Standing given board
    → item.number ≡ given → Standing (given + 1) (put board to item)
Standing-put given board to item standing own = record { placed = placed; fresh = fresh }
  where
    away : (n : ℕ) → (item.number ≡ n → ⊥) → (place : ItemPlace)
        → how_often n (put board to item place)
        ≡ how_often n (board place)
    away n other place = how_often-put n board to item place
        ∙ (rw (one_other n item other, cond_zero) (omega arith))

    placed : (n : ℕ) → n < given + 1 → (place : ItemPlace) × StandsAt (put board to item) n place
    placed n below = ⊎_cases (cases_eq n given)
      where
        ⊎_cases : ((n ≡ given) ⊎ (n ≡ given → ⊥)) → (place : ItemPlace)
            × StandsAt (put board to item) n place
        ⊎_cases (inl same) = (
          to,
          λ place. how_often-put n board to item place
              ∙ (rw (one_own n item (own ∙ sym same), standing.fresh n (omega arith) place)
              (omega arith)),
        )
        ⊎_cases (inr other) =
            let at = standing.placed n (omega arith) in
            (at.0, λ place. away n (λ e. other (sym e ∙ own)) place ∙ at.1 place)

    fresh : (n : ℕ) → given + 1 ≤ n → (place : ItemPlace)
        → how_often n (put board to item place) ≡ 0
    fresh n above place = away n (λ e. omega arith) place ∙ standing.fresh n (omega arith) place

-- the first item of a place goes to another, under its number
Standing-move : (given : ℕ) (board : Board) (from to : ItemPlace) (item moved : Item)
    (rest : List Item)
    → moved.number ≡ item.number → Standing given board → board from ≡ item ∷ rest
    → Standing given (put (cut board from rest) to moved)
Standing-move given board from to item moved rest same standing was = record {
  placed = placed;
  fresh = fresh;
}
  where
    count : (n : ℕ) (place : ItemPlace) → how_often n (put (cut board from rest) to moved place)
        + cond (same_place place from) (one n item) 0 ≡ how_often n (board place)
        + cond (same_place place to) (one n item) 0
    count n place =
        let own = ap {B = ℕ} (λ k. cond (same_place place to) (cond (eqb k n) 1 0) 0) same in
        omega (
          arith,
          how_often-put n (cut board from rest) to moved place,
          how_often-cut n board
              from item rest was place,
          own,
        )

    away : (n : ℕ) → (item.number ≡ n → ⊥) → (place : ItemPlace)
        → how_often n (put (cut board from rest) to moved place) ≡ how_often n (board place)
    away n other place =
        let all =
        rw (
          one_other n item other,
          cond_zero (same_place place from),
          cond_zero (same_place place to),
        ) at (count n place) in
        omega (arith, all)

    there : (n : ℕ) → item.number ≡ n → 0 < how_often n (board from)
    there n own = omega (arith, ap (how_often n) was, one_own n item own)

    placed : (n : ℕ) → n < given → (place : ItemPlace)
        × StandsAt (put (cut board from rest) to moved) n
        place
    placed n below = ⊎_cases (cases_eq item.number n) (standing.placed n below)
      where
        from_there : (place : ItemPlace) → StandsAt board n place → item.number ≡ n → place ≡ from
        from_there place at own =
            sym (place_is from place
            (true_if (same_place from place) (omega (arith, there n own, at from))))
          where
            true_if : (t : Bool) → 0 < cond t 1 0 → t ≡ true
            true_if true pos = refl
            true_if false pos = absurd (omega arith)

        ⊎_cases : ((item.number ≡ n) ⊎ (item.number ≡ n → ⊥))
            → ((place : ItemPlace) × StandsAt board n place) → (place : ItemPlace)
            × StandsAt (put (cut board from rest) to moved) n place
        ⊎_cases (inl own) at =
            let here = subst (StandsAt board n) (from_there at.0 at.1 own) at.1 in (
              to,
              λ place.
                  let all = rw (one_own n item own) at (count n place) in
                  omega (arith, all, here place),
            )
        ⊎_cases (inr other) at = (at.0, λ place. away n other place ∙ at.1 place)

    fresh : (n : ℕ) → given ≤ n → (place : ItemPlace)
        → how_often n (put (cut board from rest) to moved place) ≡ 0
    fresh n above place = away n (λ own. omega (arith, there n own, standing.fresh n above from))
        place ∙ standing.fresh n above place

slice_get-append : (xs ys : List Item) (k : ℕ) (x : Item) → slice_get xs k ≡ Some x
    → slice_get (xs ++ ys) k ≡ Some x
slice_get-append [] ys k x found = absurd (cc)
slice_get-append (y ∷ xs) ys zero x found = found
slice_get-append (y ∷ xs) ys (suc k) x found = slice_get-append xs ys k x found

slice_get-last : (xs : List Item) (x : Item) → slice_get (xs ++ x ∷ []) (length xs) ≡ Some x
slice_get-last [] x = refl
slice_get-last (y ∷ xs) x = slice_get-last xs x

pub slice_below : (items : List Item) (k : ℕ) (item : Item) → slice_get items k ≡ Some item → k
    < length items
slice_below [] k item found = absurd (cc)
slice_below (x ∷ items) zero item found = omega arith
slice_below (x ∷ items) (suc k) item found = omega (arith, slice_below items k item found)

-- the item was taken under its number, and is in its link form
pub record AsTaken (made : List Item) (item : Item) : Type 0 where
  pub passes : Passes item.now
  pub known : slice_get made item.number ≡ Some (record item { now = item.taken })

-- what holds of a network all along, with the items taken and what stands where
pub record HeldOn (given : ℕ) (made : List Item) (board : Board) : Type 0 where
  pub counted : given ≡ length made
  pub standing : Standing given board
  pub known : AllOn (λ place. AsTaken made) board

abbrev pub Held : Network → List Item → (End → List Item) → Type 0
Held net made out = HeldOn net.given made (items_at net out)

HeldOn-same : (given : ℕ) (made : List Item) (old new : Board)
    → ((place : ItemPlace) → new place ≡ old place) → HeldOn given made old → HeldOn given made new
HeldOn-same given made old new same held = record {
  counted = held.counted;
  standing = Standing-same given old new held.standing same;
  known = AllOn-same (λ place. AsTaken made) old new same held.known;
}

goes_as_taken : (net : Network) (from to : ItemPlace) (item moved : Item) (made : List Item)
    → Allowed net from to item moved → AsTaken made item → AsTaken made moved
goes_as_taken net from to item moved made allowed was =
    let along = allowed_along net from to item moved allowed was.passes in
    let same : Some (record item { now = item.taken }) ≡ Some (record moved { now = moved.taken }) =
    λ i. Some
    (record {
      number = sym along.number i;
      port = sym along.port i;
      taken = sym along.taken i;
      now = sym along.taken i;
    }) in
    record {
      passes = along.passes;
      known = ap (slice_get made) along.number ∙ (was.known ∙ same);
    }

HeldOn-goes : (given : ℕ) (made : List Item) (net : Network) (old new : Board) → Goes net old new
    → HeldOn given made old → HeldOn given made new
HeldOn-goes given made net old new g held =
    let parts = AllOn-cut (λ place. AsTaken made) old g.from g.item g.rest held.known g.was in
    let along = allowed_along net g.from g.to g.item g.moved g.allowed parts.0.passes in
    record {
      counted = held.counted;
      standing = Standing-same given (put (cut old g.from g.rest) g.to g.moved) new
          (Standing-move given old g.from g.to g.item g.moved g.rest along.number held.standing
          g.was) g.becomes;
      known = AllOn-goes (λ place. AsTaken made) net old new g
          (goes_as_taken net g.from g.to g.item g.moved made g.allowed) held.known;
    }

HeldOn-comes : (made more : List Item) (net : Network) (old new : Board) → Comes net more old new
    → HeldOn net.given made old → HeldOn (net.given + 1) (made ++ more) new
HeldOn-comes made more net old new c held = subst (λ x. HeldOn (net.given + 1) (made ++ x) new)
    (sym c.made) (record {
      counted = omega (arith, held.counted, length-append made (item ∷ []));
      standing = Standing-same (net.given + 1) (put old to item) new
          (Standing-put net.given old to item held.standing refl) c.becomes;
      known = AllOn-same (λ place. AsTaken (made ++ item_of net c.port c.packet ∷ []))
          (put old to item)
          new c.becomes
          (AllOn-put (λ place. AsTaken (made ++ item_of net c.port c.packet ∷ [])) old to item
          before
          own);
    })
  where
    to : ItemPlace
    to = WaitingAt c.port (prio_of c.packet)

    item : Item
    item = item_of net c.port c.packet

    before : AllOn (λ place. AsTaken (made ++ item_of net c.port c.packet ∷ [])) old
    before place = all_weaker (AsTaken made) (AsTaken (made ++ item_of net c.port c.packet ∷ []))
        (λ x was. record {
          passes = was.passes;
          known = slice_get-append made (item_of net c.port c.packet ∷ []) x.number
              (record x { now = x.taken }) was.known;
        }) (old place) (held.known place)

    own : AsTaken (made ++ item_of net c.port c.packet ∷ []) (item_of net c.port c.packet)
    own = record {
      passes = c.passes;
      known = subst
          (λ k. slice_get (made ++ item_of net c.port c.packet ∷ []) k
          ≡ Some (item_of net c.port c.packet)) (sym held.counted)
          (slice_get-last made (item_of net c.port c.packet));
    }

held_on : (net next : Network) (made more : List Item) (old new : Board)
    → StepOn net next more old new → HeldOn net.given made old → HeldOn next.given (made ++ more)
    new
held_on net next made more old new (Stays none given same) held =
    rw (none, given, append-nil made) (HeldOn-same net.given made old new same held)
held_on net next made more old new (IsTaken given c) held =
    rw given (HeldOn-comes made more net old new c held)
held_on net next made more old new (IsMoved none given g) held =
    rw (none, given, append-nil made) (HeldOn-goes net.given made net old new g held)
held_on net next made more old new (IsAnswered mid given g c) held =
    rw given (HeldOn-comes made more net mid new c (HeldOn-goes net.given made net old mid g held))

pub held_step : (net : Network) (made : List Item) (out : End → List Item) (step : Step)
    → Needs net step → Held net made out → Held (after net step) (made ++ taken_by net step)
    (λ e. out e ++ ended_by e net step)
held_step net made out step needs held =
    held_on net (after net step) made (taken_by net step) (items_at net out)
    (items_at (after net step) (λ e. out e ++ ended_by e net step)) (step_on net out step needs)
    held

pub Held-empty : (net : Network) → IsEmptyNetwork net → Held net [] (λ e. [])
Held-empty net empty = record {
  counted = empty.given;
  standing = record {
    placed = λ n below. absurd (omega (arith, empty.given));
    fresh = λ n above place. ap (how_often n) (nothing_at net empty place);
  };
  known = AllOn-empty (λ place. AsTaken []) net empty;
}

-- along all legal steps from an empty network
pub held_along : (start : Network) (steps : List Step) (end : Network) → IsEmptyNetwork start
    → LegalFrom start steps end → Held end (items_taken start steps) (items_ended start steps)
held_along start steps end empty legal =
    carried Held held_step start [] (λ e. []) steps end (Held-empty start empty) legal

pub holding_exactly : (start : Network) (steps : List Step) (end : Network) → IsEmptyNetwork start
    → LegalFrom start steps end → HoldingExactly start steps end
holding_exactly start steps end empty legal =
    let held = held_along start steps end empty legal in
    record {
      counted = held.counted;
      placed = held.standing.placed;
      known = λ place. all_weaker (AsTaken (items_taken start steps)) (WasTaken start steps)
          (λ item was. was.known) (items_at end (items_ended start steps) place) (held.known place);
    }
