-- No two packets that are taken have one number.
use Rattle.io_law.proofs.Prelude.{◌≡◌, ◌≤◌, ◌<◌, ◌+◌, ℕ, Bool, true, false, eqb, List, [], ◌∷◌, ◌++◌, Option, Some, None, refl, ap, arith, ◌⊎◌, inl, inr, if◌then◌else◌, eqb-true, prio_of, PortRef, Network, Item, port_of, peer_in, Hold, Free, Takes, Leave, Move, Drop, Answer, Step, Linked, AtNode, ByDevice, item_of, after, after_hold, taken_by, items_taken, how_often, how_often-append}

pub record GivesOne (net : Network) (step : Step) : Type 0 where
  pub item : Item
  pub only : taken_by net step ≡ item ∷ []
  pub number : item.number ≡ net.given
  pub next : (after net step).given ≡ net.given + 1

abbrev pub GivesNone : Network → Step → Type 0
GivesNone net step = (taken_by net step ≡ []) × ((after net step).given ≡ net.given)

pub gives : (net : Network) (step : Step) → GivesNone net step ⊎ GivesOne net step
gives net (Linked (Hold q packet)) = by_peer (peer_in net.links q)
  where
    by_peer : (p : Option PortRef)
        → ((taken_by net (Linked (Hold q packet)) ≡ [])
        × ((after_hold net q p (prio_of packet)).given ≡ net.given))
        ⊎ GivesOne net (Linked (Hold q packet))
    by_peer None = inl (refl, refl)
    by_peer (Some p) = inl (refl, refl)
gives net (Linked (Free p packet)) = inl (refl, refl)
gives net (AtNode (Takes n packet)) = inr (record {
  item = item_of net (port_of n) packet;
  only = refl;
  number = refl;
  next = refl;
})
gives net (AtNode (Leave n packet)) = inl (refl, refl)
gives net (ByDevice (Move p q packet)) = inl (refl, refl)
gives net (ByDevice (Drop p packet)) = inl (refl, refl)
gives net (ByDevice (Answer p packet response)) = inr (record {
  item = item_of net p response;
  only = refl;
  number = refl;
  next = refl;
})

one_at_most : (n : ℕ) (item : Item) → how_often n (item ∷ []) ≤ 1
one_at_most n item = by (eqb item.number n)
  where
    by : (b : Bool) → (if b then 1 else 0) + 0 ≤ 1
    by true = omega arith
    by false = omega arith

none_of_other : (n : ℕ) (item : Item) → eqb item.number n ≡ false → how_often n (item ∷ []) ≡ 0
none_of_other n item other = ap (λ b. (if b then 1 else 0) + 0) other

taken_not_before : (n : ℕ) (net : Network) (steps : List Step) → n < net.given
    → how_often n (items_taken net steps) ≡ 0
taken_not_before n net [] low = refl
taken_not_before n net (step ∷ steps) low =
    by (gives net step) (taken_not_before n (after net step) steps)
  where
    rest : List Item
    rest = items_taken (after net step) steps

    both : how_often n (taken_by net step ++ rest)
        ≡ how_often n (taken_by net step) + how_often n rest
    both = how_often-append n (taken_by net step) rest

    away : (one : GivesOne net step) (b : Bool) → eqb one.item.number n ≡ b
        → how_often n (one.item ∷ []) ≡ 0
    away one true same =
        let is = eqb-true one.item.number n same in
        let number = one.number in absurd (omega (arith, is, number, low))
    away one false other = none_of_other n one.item other

    by : GivesNone net step ⊎ GivesOne net step
        → (n < (after net step).given → how_often n rest ≡ 0)
        → how_often n (taken_by net step ++ rest) ≡ 0
    by (inl none) later =
        let next = none.1 in
        let behind = later (omega (arith, low, next)) in
        omega (arith, both, ap (how_often n) none.0, behind)
    by (inr one) later =
        let next = one.next in
        let behind = later (omega (arith, low, next)) in
        let own = away one (eqb one.item.number n) refl in
        omega (arith, both, ap (how_often n) one.only, own, behind)

pub taken_once : (n : ℕ) (net : Network) (steps : List Step)
    → how_often n (items_taken net steps) ≤ 1
taken_once n net [] = omega arith
taken_once n net (step ∷ steps) = by (gives net step) (taken_once n (after net step) steps)
  where
    rest : List Item
    rest = items_taken (after net step) steps

    both : how_often n (taken_by net step ++ rest)
        ≡ how_often n (taken_by net step) + how_often n rest
    both = how_often-append n (taken_by net step) rest

    with_one : (one : GivesOne net step) (b : Bool) → eqb one.item.number n ≡ b
        → how_often n rest ≤ 1 → how_often n (taken_by net step ++ rest) ≤ 1
    with_one one true same later =
        let is = eqb-true one.item.number n same in
        let number = one.number in
        let next = one.next in
        let none = taken_not_before n (after net step) steps (omega (arith, next, number, is)) in
        omega (arith, both, ap (how_often n) one.only, one_at_most n one.item, none)
    with_one one false other later =
        omega (arith, both, ap (how_often n) one.only, none_of_other n one.item other, later)

    by : GivesNone net step ⊎ GivesOne net step → how_often n rest ≤ 1
        → how_often n (taken_by net step ++ rest) ≤ 1
    by (inl none) later = omega (arith, both, ap (how_often n) none.0, later)
    by (inr one) later = with_one one (eqb one.item.number n) refl later
