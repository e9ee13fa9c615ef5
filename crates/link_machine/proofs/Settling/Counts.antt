-- How many time-outs a schedule fires.
use Rattle.link_machine.proofs.Prelude.{◌≡◌, ℕ, ◌+◌, ◌≤◌, ◌++◌, Bool, true, false, MatchBool, List, [], ◌∷◌, refl, ap, ◌∙◌, arith, if◌then◌else◌, Side, A, B, NextOf, WhereOf, Is, LoopOf, LoopRests, LoopGoesOn, LoopLeaves, Act, Pump, Tell, Fire, Reached, At, FoundAt, goes, SchedulePart, all_chars, Empties, Drains, TakesTurn, Restarts, TimesOut, Requests, Recovers, Tells, SendsAll, Settles, same_side, fires}

fires-append : (side : Side) (xs ys : List Act)
    → fires side (xs ++ ys) ≡ fires side xs + fires side ys
unfolding fires
fires-append side [] ys = omega arith
fires-append side (x ∷ xs) ys = let rest = fires-append side xs ys in omega arith

-- a part fires at most so many time-outs of a side
abbrev AtMost : ℕ → Side → SchedulePart → Type 0
AtMost n side P = (r : Reached) (all : List Act) → P r all → fires side all ≤ n

none_at_most : (side : Side) (all : List Act) → all ≡ [] → (n : ℕ) → fires side all ≤ n
unfolding fires
none_at_most side all is n = let none = ap (fires side) is in omega arith

next_at_most : (side : Side) (m n : ℕ) (First Then : SchedulePart) → AtMost m side First
    → AtMost n side Then → AtMost (m + n) side (NextOf goes First Then)
next_at_most side m n First Then some more r all (first, rest, split, does, then_does) =
    let whole = ap (fires side) split ∙ fires-append side first rest in
    let front = some r first does in
    let behind = more (goes r first) rest then_does in
    omega arith

where_at_most : (side : Side) (n : ℕ) (test : Reached → Bool) (P : SchedulePart) → AtMost n side P
    → AtMost n side (WhereOf test P)
where_at_most side n test P some r all does = by (test r) does
  where
    by : (b : Bool) → MatchBool b (P r all) (all ≡ []) → fires side all ≤ n
    by true h = some r all h
    by false h = none_at_most side all h n

loop_at_most : (side : Side) (test leaves : Reached → Bool) (P Last : SchedulePart)
    → AtMost 0 side P
    → AtMost 0 side Last → AtMost 0 side (LoopOf goes test P leaves Last)
loop_at_most side test leaves P Last some last r all (LoopRests idle none) =
    none_at_most side all none 0
loop_at_most side test leaves P Last some last r all
    (LoopGoesOn first rest busy part split stays more) =
    let whole = ap (fires side) split ∙ fires-append side first rest in
    let front = some r first part in
    let behind = loop_at_most side test leaves P Last some last (goes r first) rest more in
    omega arith
loop_at_most side test leaves P Last some last r all
    (LoopLeaves first rest busy part split stays ends) =
    let whole = ap (fires side) split ∙ fires-append side first rest in
    let front = some r first part in
    let behind = last (goes r first) rest ends in
    omega arith

delivers_none : (side from : Side) (r : Reached) → fires side (all_chars from r) ≡ 0
unfolding fires
delivers_none side from (At s) = refl
delivers_none side from (FoundAt at e) = refl

empties_none : (side from : Side) → AtMost 0 side (Empties from)
empties_none side from =
    where_at_most side 0 _ (Is (all_chars from))
    (λ r all is. let none = ap (fires side) is ∙ delivers_none side from r in omega arith)

drains_none : (side : Side) → AtMost 0 side Drains
drains_none side =
    loop_at_most side _ _ (NextOf goes (Empties A) (Empties B)) (Is (λ reached. []))
    (next_at_most side 0 0 (Empties A) (Empties B) (empties_none side A) (empties_none side B))
    (λ r all is. none_at_most side all is 0)

turn_none : (side near : Side) → AtMost 0 side (TakesTurn near)
unfolding fires
turn_none side near =
    next_at_most side 0 0 _ Drains
    (where_at_most side 0 _ (Is (λ reached. Pump near 1 ∷ []))
    (λ r all is. let none = ap (fires side) is in omega arith))
    (drains_none side)

-- a time-out of this side, or of the other
fire_counts : (side near : Side)
    → AtMost (if same_side side near then 1 else 0) side (TimesOut near)
unfolding fires
fire_counts side near =
    where_at_most side _ _ (Is (λ reached. Fire near ∷ []))
    (λ r all is. one (same_side side near) all (ap (fires side) is))
  where
    one : (b : Bool) (all : List Act) → fires side all ≡ (if b then 1 else 0) + 0
        → fires side all ≤ (if b then 1 else 0)
    one true all is = omega arith
    one false all is = omega arith

recovery_counts : (side near : Side)
    → AtMost (0 + ((if same_side side near then 1 else 0) + 0)) side (Recovers near)
recovery_counts side near =
    where_at_most side _ _ (NextOf goes (Restarts near) (Requests near))
    (next_at_most side 0 ((if same_side side near then 1 else 0) + 0) (Restarts near)
    (Requests near)
    (where_at_most side 0 _ (TakesTurn near) (turn_none side near))
    (where_at_most side _ _ (NextOf goes (TimesOut near) (TakesTurn near))
    (next_at_most side (if same_side side near then 1 else 0) 0 (TimesOut near) (TakesTurn near)
    (fire_counts side near) (turn_none side near))))

tells_none : (side near : Side) → AtMost 0 side (Tells near)
unfolding fires
tells_none side near =
    where_at_most side 0 _ (NextOf goes (Is (λ reached. Tell near ∷ [])) Drains)
    (next_at_most side 0 0 (Is (λ reached. Tell near ∷ [])) Drains
    (λ r all is. let none = ap (fires side) is in omega arith) (drains_none side))

sends_none : (side near : Side) → AtMost 0 side (SendsAll near)
sends_none side near =
    where_at_most side 0 _ _ (loop_at_most side _ _ (TakesTurn near) (TakesTurn near)
    (turn_none side near) (turn_none side near))

-- what comes after recovery
abbrev Later : SchedulePart
Later = NextOf goes (Tells A) (NextOf goes (Tells B) (NextOf goes (SendsAll A) (SendsAll B)))

later_none : (side : Side) → AtMost (0 + (0 + (0 + 0))) side Later
later_none side =
    next_at_most side 0 _ (Tells A) (NextOf goes (Tells B) (NextOf goes (SendsAll A) (SendsAll B)))
    (tells_none side A)
    (next_at_most side 0 _ (Tells B) (NextOf goes (SendsAll A) (SendsAll B)) (tells_none side B)
    (next_at_most side 0 0 (SendsAll A) (SendsAll B) (sends_none side A) (sends_none side B)))

-- Settling fires at most one time-out of each side.
pub settling_fires : (side : Side) (r : Reached) (all : List Act) → Settles r all
    → fires side all ≤ 1
settling_fires side r all does =
    let all_of = whole side r all does in
    by_side side all_of
  where
    by_side : (side : Side) {n : ℕ}
        → n ≤ 0 + ((0 + ((if same_side side A then 1 else 0) + 0))
        + ((0 + ((if same_side side B then 1 else 0) + 0)) + (0 + (0 + (0 + 0))))) → n ≤ 1
    by_side A h = omega arith
    by_side B h = omega arith

    whole : (side : Side) → AtMost (0
        + ((0 + ((if same_side side A then 1 else 0) + 0))
        + ((0 + ((if same_side side B then 1 else 0) + 0)) + (0 + (0 + (0 + 0)))))) side Settles
    whole side =
        next_at_most side 0 _ Drains (NextOf goes (Recovers A) (NextOf goes (Recovers B) Later))
        (drains_none side)
        (next_at_most side _ _ (Recovers A) (NextOf goes (Recovers B) Later)
        (recovery_counts side A)
        (next_at_most side _ _ (Recovers B) Later (recovery_counts side B) (later_none side)))
