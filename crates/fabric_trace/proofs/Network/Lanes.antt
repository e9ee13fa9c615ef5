-- Lanes of the network as lists of packets, and what a step does to them.
use Rattle.fabric_trace.proofs.Prelude.{◌≡◌, ℕ, zero, suc, ◌<◌, ◌==◌, ◌&&◌, Bool, true, false, List, [], ◌∷◌, ◌++◌, filter, length, drop, slice_get, slice_set, Some, refl, ap, ◌∙◌, arith, if◌then◌else◌, length-append, map-append, length-map, prio_of, list_at, packet_count, of_prio, PortRef, Item, Lanes, same_port, with_lane, with_lent, first_packet, in_turn, behind_first, only_first, same_port-refl, packets_in, lists_in}

-- ---- items

pub packets-append : (xs ys : List Item) → packets_in (xs ++ ys) ≡ packets_in xs ++ packets_in ys
packets-append xs ys = map-append (λ (item : Item). item.now) xs ys

pub first_is : (items : List Item) (packet : List ℕ) → slice_get (packets_in items) 0 ≡ Some packet
    → first_packet items ≡ Some packet
first_is [] packet is = absurd cc
first_is (item ∷ items) packet is = cc

pub only_is : (items : List Item) (packet : List ℕ) → first_packet items ≡ Some packet
    → packets_in (only_first items) ≡ packet ∷ []
only_is [] packet is = absurd cc
only_is (item ∷ items) packet is = let same : item.now ≡ packet = cc in ap (λ p. p ∷ []) same

pub behind_is : (items : List Item) → packets_in (behind_first items) ≡ drop 1 (packets_in items)
behind_is [] = refl
behind_is (item ∷ items) = refl

pub of_prio_is : (r : ℕ) (items : List Item)
    → packets_in (filter (λ item. prio_of item.now == r) items) ≡ of_prio r (packets_in items)
of_prio_is r [] = refl
of_prio_is r (item ∷ items) =
    elim (prio_of item.now == r) as (λ b.
    packets_in
    (if b then item ∷ filter (λ item. prio_of item.now == r) items else filter
    (λ item. prio_of item.now == r) items)
    ≡ (if b then item.now ∷ of_prio r (packets_in items) else of_prio r (packets_in items))) [
      | true ↦ ap (λ (l : List (List ℕ)). item.now ∷ l) (of_prio_is r items)
      | false ↦ of_prio_is r items
    ]

-- ---- lanes

pub lane_at : (lanes : ℕ → List Item) (r : ℕ) → r < 4 → list_at (lists_in lanes) r
    ≡ packets_in (lanes r)
lane_at lanes zero few = refl
lane_at lanes (suc zero) few = refl
lane_at lanes (suc (suc zero)) few = refl
lane_at lanes (suc (suc (suc zero))) few = refl
lane_at lanes (suc (suc (suc (suc r)))) few = absurd (omega arith)

-- a priority whose list has a packet is one of four
pub has_lane : (lanes : ℕ → List Item) (r : ℕ) (packet : List ℕ)
    → slice_get (list_at (lists_in lanes) r) 0 ≡ Some packet → r < 4
has_lane lanes zero packet is = omega arith
has_lane lanes (suc zero) packet is = omega arith
has_lane lanes (suc (suc zero)) packet is = omega arith
has_lane lanes (suc (suc (suc zero))) packet is = omega arith
has_lane lanes (suc (suc (suc (suc r)))) packet is = absurd cc

pub counted : (lanes : ℕ → List Item) → packet_count (lists_in lanes) ≡ length (in_turn lanes)
counted lanes =
    let zeroth = length-map (lanes 0) (λ (item : Item). item.now) in
    let first = length-map (lanes 1) (λ (item : Item). item.now) in
    let second = length-map (lanes 2) (λ (item : Item). item.now) in
    let third = length-map (lanes 3) (λ (item : Item). item.now) in
    let low = length-append (lanes 1) (lanes 0) in
    let mid = length-append (lanes 2) (lanes 1 ++ lanes 0) in
    let high = length-append (lanes 3) (lanes 2 ++ (lanes 1 ++ lanes 0)) in
    omega (arith, zeroth, first, second, third, low, mid, high)

-- lanes of which one is replaced, by whether it is this port's
abbrev lists_if : (own : Bool) (lanes : ℕ → List Item) (r : ℕ) (items : List Item)
    → List (List (List ℕ))
lists_if own lanes r items = lists_in (λ s. if own && (s == r) then items else lanes s)

set_one : (lanes : ℕ → List Item) (r : ℕ) (items : List Item) → r < 4 → lists_if true lanes r items
    ≡ slice_set (lists_in lanes) r (packets_in items)
set_one lanes zero items few = refl
set_one lanes (suc zero) items few = refl
set_one lanes (suc (suc zero)) items few = refl
set_one lanes (suc (suc (suc zero))) items few = refl
set_one lanes (suc (suc (suc (suc r)))) items few = absurd (omega arith)

pub lists_set : (lanes : Lanes) (p : PortRef) (r : ℕ) (items : List Item) → r < 4
    → lists_in (with_lane lanes p r items p) ≡ slice_set (lists_in (lanes p)) r (packets_in items)
lists_set lanes p r items few = ap (λ own. lists_if own (lanes p) r items) (same_port-refl p)
    ∙ set_one (lanes p) r items few

pub lane_other : (lanes : Lanes) (p : PortRef) (r : ℕ) (items : List Item) (q : PortRef)
    → same_port q p ≡ false → with_lane lanes p r items q ≡ lanes q
lane_other lanes p r items q apart = λ i s. (if apart i && (s == r) then items else lanes q s)

pub lent_own : (lent : PortRef → List Item) (p : PortRef) (items : List Item)
    → with_lent lent p items p ≡ items
lent_own lent p items = ap (λ own. if own then items else lent p) (same_port-refl p)

pub lent_other : (lent : PortRef → List Item) (p : PortRef) (items : List Item) (q : PortRef)
    → same_port q p ≡ false → with_lent lent p items q ≡ lent q
lent_other lent p items q apart = ap (λ own. if own then items else lent q) apart
