-- A drain is at most five deliveries, and from every sound link there is one.
use Rattle.link_machine.proofs.Prelude.{◌≡◌, inl, inr, ℕ, zero, suc, ◌+◌, ◌-◌, ◌≤◌, ◌++◌, Bool, true, false, MatchBool, List, [], length, length-append, refl, sym, ap, ◌∙◌, subst, if◌then◌else◌, arith, append_assoc, append-nil, or_parts, cases_lt, Side, A, B, LinkState, IsSoundLink, NextOf, LoopRests, LoopGoesOn, LoopLeaves, Act, Reached, At, FoundAt, goes, first_has_chars, of_end, all_chars, Empties, is_busy, Drains}
use Rattle.link_machine.proofs.Settling.Lines.{emptied}
use Rattle.link_machine.proofs.Settling.Drains.{round, rounds, idle_stays, idle_round, first_goes, round_goes, five, rested_is_idle, three_rounds}

-- the delivery of all characters of a wire, if there are any
abbrev part_acts : Side → Reached → List Act
part_acts from r = if of_end from first_has_chars r then all_chars from r else []

where_acts : (b : Bool) (all things : List Act) → MatchBool b (all ≡ things) (all ≡ [])
    → all ≡ (if b then things else [])
where_acts true all things is = is
where_acts false all things is = is

-- those of so many rounds
deliveries : ℕ → Reached → List Act
deliveries zero r = []
deliveries (suc n) r = (part_acts A r ++ part_acts B (emptied A r)) ++ deliveries n (round r)

round_acts : (r : Reached) (first : List Act) → NextOf goes (Empties A) (Empties B) r first
    → first ≡ part_acts A r ++ part_acts B (emptied A r)
round_acts r first (front, behind, split, does, then_does) =
    split
    ∙ (λ i. where_acts (of_end A first_has_chars r) front (all_chars A r) does i
    ++ where_acts (of_end B first_has_chars (goes r front)) behind (all_chars B (goes r front))
    then_does i)
    ∙ ap (λ (next : Reached). part_acts A r ++ part_acts B next) (first_goes r front does)

drain_acts : {r : Reached} {all : List Act} → Drains r all
    → (n : ℕ) × (all ≡ deliveries n r) × (is_busy (rounds n r) ≡ false)
unfolding deliveries rounds
drain_acts {r} {all} (LoopRests idle none) = (0, none, idle)
drain_acts {r} {all} (LoopGoesOn first rest busy part split stays more) =
    let later = drain_acts more in
    let one = round_goes r first part in (
      suc later.0,
      split ∙ (λ i. round_acts r first part i ++ (later.1 ∙ ap (deliveries later.0) one) i),
      ap (λ (next : Reached). is_busy (rounds later.0 next)) (sym one) ∙ later.2,
    )
drain_acts (LoopLeaves first rest busy part split stays last) = absurd cc

-- where both wires are empty there are none
idle_none : (n : ℕ) (r : Reached) → is_busy r ≡ false → deliveries n r ≡ []
unfolding deliveries
idle_none zero r idle = refl
idle_none (suc n) r idle =
    let both = or_parts (of_end A first_has_chars r) (of_end B first_has_chars r) idle in
    let stays = idle_stays r idle in
    let none_a : part_acts A r ≡ [] = ap (λ (b : Bool). if b then all_chars A r else []) both.0 in
    let none_b : part_acts B (emptied A r) ≡ [] =
    ap (part_acts B) stays.0 ∙ ap (λ (b : Bool). if b then all_chars B r else []) both.1 in
    let here : round r ≡ r = idle_round r idle in
    (λ i. (none_a i ++ none_b i) ++ deliveries n (here i)) ∙ idle_none n r idle

deliveries-sum : (m n : ℕ) (r : Reached)
    → deliveries (m + n) r ≡ deliveries m r ++ deliveries n (rounds m r)
unfolding deliveries rounds
deliveries-sum zero n r = let same : 0 + n ≡ n = omega arith in ap (λ (k : ℕ). deliveries k r) same
deliveries-sum (suc m) n r =
    let same : suc m + n ≡ suc (m + n) = omega arith in
    ap (λ (k : ℕ). deliveries k r) same
    ∙ ap (λ (acts : List Act). (part_acts A r ++ part_acts B (emptied A r)) ++ acts)
    (deliveries-sum m n (round r))
    ∙ sym (append_assoc (part_acts A r ++ part_acts B (emptied A r)) (deliveries m (round r))
    (deliveries n (rounds m (round r))))

more_alike : (m n : ℕ) (r : Reached) → m ≤ n → is_busy (rounds m r) ≡ false
    → deliveries n r ≡ deliveries m r
more_alike m n r less idle =
    let count : m + (n - m) ≡ n = omega arith in
    ap (λ (k : ℕ). deliveries k r) (sym count)
    ∙ deliveries-sum m (n - m) r
    ∙ ap (λ (acts : List Act). deliveries m r ++ acts) (idle_none (n - m) (rounds m r) idle)
    ∙ append-nil (deliveries m r)

acts_same : (m n : ℕ) (r : Reached) → is_busy (rounds m r) ≡ false → is_busy (rounds n r) ≡ false
    → deliveries m r ≡ deliveries n r
acts_same m n r first second =
    elim (cases_lt m n) [
      | inl less ↦ sym (more_alike m n r (omega arith) first)
      | inr more ↦
          more_alike n m r more second
    ]

one_at_most : (from : Side) (r : Reached) → length (part_acts from r) ≤ 1
one_at_most from r = by (of_end from first_has_chars r) r
  where
    by : (b : Bool) (r : Reached) → length (if b then all_chars from r else []) ≤ 1
    by true (At s) = omega arith
    by true (FoundAt side e) = omega arith
    by false r = omega arith

last_none : (r : Reached) → is_busy r ≡ false → length (part_acts B r) ≡ 0
last_none r idle =
    let both = or_parts (of_end A first_has_chars r) (of_end B first_has_chars r) idle in
    ap (λ (b : Bool). length (if b then all_chars B r else [])) both.1

three_acts : (s : LinkState) → IsSoundLink s → length (deliveries 3 (At s)) ≤ 5
unfolding deliveries
three_acts s l =
    let r = At s in
    let one = round r in
    let two = round one in
    let a1 = one_at_most A r in
    let b1 = one_at_most B (emptied A r) in
    let a2 = one_at_most A one in
    let b2 = one_at_most B (emptied A one) in
    let a3 = one_at_most A two in
    let b3 = last_none (emptied A two) (rested_is_idle (emptied A two) (five s l)) in
    omega (arith, length-append {A = Act})

-- A drain of a sound link is at most five deliveries, whatever stood on its wires.
pub drain_is_short : (s : LinkState) (all : List Act) → IsSoundLink s → Drains (At s) all
    → length all ≤ 5
drain_is_short s all l drains =
    let acts = drain_acts drains in
    let same =
    acts_same acts.0 3 (At s) acts.2 (rested_is_idle (rounds 3 (At s)) (three_rounds s l)) in
    let counts = ap length (acts.1 ∙ same) in
    let few = three_acts s l in
    omega arith

-- ---- there is a drain

part_does : (b : Bool) (things : List Act)
    → MatchBool b ((if b then things else []) ≡ things) ((if b then things else []) ≡ [])
part_does true things = refl
part_does false things = refl

drains_busy : (n : ℕ) (r : Reached)
    → ((next : Reached) → is_busy (rounds n next) ≡ false → (all : List Act) × Drains next all)
    → is_busy r ≡ true → is_busy (rounds n (round r)) ≡ false → (all : List Act) × Drains r all
drains_busy n r more busy idle =
    let front = part_acts A r in
    let first_does : Empties A r front = part_does (of_end A first_has_chars r) (all_chars A r) in
    let next = goes r front in
    let behind = part_acts B next in
    let second_does : Empties B next behind =
    part_does (of_end B first_has_chars next) (all_chars B next) in
    let part : NextOf goes (Empties A) (Empties B) r (front ++ behind) =
    (front, behind, refl, first_does, second_does) in
    let one = round_goes r (front ++ behind) part in
    let later = more (round r) idle in
    let rest : Drains (goes r (front ++ behind)) later.0 =
    subst (λ (x : Reached). Drains x later.0) (sym one) later.1 in
    ((front ++ behind) ++ later.0, LoopGoesOn (front ++ behind) later.0 busy part refl refl rest)

drains_in : (n : ℕ) (r : Reached) → is_busy (rounds n r) ≡ false → (all : List Act) × Drains r all
unfolding rounds
drains_in zero r idle = ([], LoopRests idle refl)
drains_in (suc n) r idle =
    elim (is_busy r) as (λ b. is_busy r ≡ b → (all : List Act) × Drains r all) [
      | true ↦ λ (busy : is_busy r ≡ true). drains_busy n r (drains_in n) busy idle
      | false ↦ λ (none : is_busy r ≡ false). ([], LoopRests none refl)
    ] refl

-- From a sound link there is a drain.
pub drain_exists : (s : LinkState) → IsSoundLink s → (all : List Act) × Drains (At s) all
drain_exists s l = drains_in 3 (At s) (rested_is_idle (rounds 3 (At s)) (three_rounds s l))
