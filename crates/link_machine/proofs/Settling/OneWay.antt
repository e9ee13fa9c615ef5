-- There is at most one way to settle a link: each part of the schedule determines what is done.
use Rattle.link_machine.proofs.Prelude.{◌≡◌, Bool, true, false, not, List, [], ◌∷◌, MatchBool, sym, ◌∙◌, subst, is_ready, Side, A, B, Pump, Tell, Fire, Reached, goes, holds_at, of_end, first_has_chars, first_rests, is_retry_stopped, has_failed, may_fire, all_chars, Empties, is_busy, Drains, TakesTurn, Restarts, TimesOut, Requests, Recovers, Tells, SendsAll, Settles}
use Rattle.link_machine.specs.Schedules.{NextOf, WhereOf, Is, LoopOf, LoopRests, LoopGoesOn, LoopLeaves}

-- no two lists are of this kind
abbrev pub AtMostOne : {L : Type 0} → (List L → Type 0) → Type 0
AtMostOne {L} P = (x y : List L) → P x → P y → x ≡ y

-- ---- schedules

next_one :
    {S L : Type 0} (go : S → List L → S) (First Then : S → List L → Type 0)
    → ((s : S) → AtMostOne (First s)) → ((s : S) → AtMostOne (Then s)) → (s : S)
    → AtMostOne (NextOf go First Then s)
next_one go First Then one two s x y p q =
    let first = one s p.0 q.0 p.3 q.3 in
    let rest = two (go s q.0) p.1 q.1 (subst (λ l. Then (go s l) p.1) first p.4) q.4 in
    cc

-- one of two kinds, as a test says
pub match_one : {L : Type 0} (test : Bool) (P Q : List L → Type 0) → AtMostOne P → AtMostOne Q
    → AtMostOne (λ x. MatchBool test (P x) (Q x))
match_one true P Q one_p one_q = one_p
match_one false P Q one_p one_q = one_q

where_one : {S L : Type 0} (test : S → Bool) (P : S → List L → Type 0)
    → ((s : S) → AtMostOne (P s)) → (s : S) → AtMostOne (WhereOf test P s)
where_one test P one s = match_one (test s) (P s) (λ all. all ≡ []) (one s) (λ x y f g. f ∙ sym g)

is_one : {S L : Type 0} (things : S → List L) (s : S) → AtMostOne (Is things s)
is_one things s x y f g = f ∙ sym g

loop_one :
    {S L : Type 0} (go : S → List L → S) (test : S → Bool) (P : S → List L → Type 0)
    (leaves : S → Bool) (Last : S → List L → Type 0) → ((s : S) → AtMostOne (P s))
    → ((s : S) → AtMostOne (Last s)) → {s : S} {x y : List L} → LoopOf go test P leaves Last s x
    → LoopOf go test P leaves Last s y → x ≡ y
loop_one go test P leaves Last one two (LoopRests t e) (LoopRests u f) = e ∙ sym f
loop_one go test P leaves Last one two (LoopRests t e) (LoopGoesOn first rest u a f l w) = absurd cc
loop_one go test P leaves Last one two (LoopRests t e) (LoopLeaves first rest u a f l w) = absurd cc
loop_one go test P leaves Last one two (LoopGoesOn first rest t a e l w) (LoopRests u f) = absurd cc
loop_one go test P leaves Last one two {s} (LoopGoesOn first rest t a e l w)
    (LoopGoesOn first2 rest2 u b f m v) =
    let same = one s first2 first b a in
    let after = loop_one go test P leaves Last one two w
    (subst (λ x. LoopOf go test P leaves Last (go s x) rest2) same v) in
    cc
loop_one go test P leaves Last one two {s} (LoopGoesOn first rest t a e l w)
    (LoopLeaves first2 rest2 u b f m v) =
    let same = one s first2 first b a in
    absurd cc
loop_one go test P leaves Last one two (LoopLeaves first rest t a e l w) (LoopRests u f) = absurd cc
loop_one go test P leaves Last one two {s} (LoopLeaves first rest t a e l w)
    (LoopGoesOn first2 rest2 u b f m v) =
    let same = one s first2 first b a in
    absurd cc
loop_one go test P leaves Last one two {s} (LoopLeaves first rest t a e l w)
    (LoopLeaves first2 rest2 u b f m v) =
    let same = one s first2 first b a in
    let last = two (go s first) rest rest2 w (subst (λ x. Last (go s x) rest2) same v) in
    cc

-- ---- settling

empties_one : (side : Side) (s : Reached) → AtMostOne (Empties side s)
empties_one side =
    where_one (of_end side first_has_chars) (Is (all_chars side)) (is_one (all_chars side))

drains_one : (s : Reached) → AtMostOne (Drains s)
drains_one s x y f g =
    loop_one goes is_busy (NextOf goes (Empties A) (Empties B)) (λ reached. false)
    (Is (λ reached. [])) (next_one goes (Empties A) (Empties B) (empties_one A) (empties_one B))
    (is_one (λ reached. [])) f g

turn_one : (side : Side) (s : Reached) → AtMostOne (TakesTurn side s)
turn_one side =
    next_one goes (WhereOf (holds_at (λ link. true)) (Is (λ reached. Pump side 1 ∷ []))) Drains
    (where_one (holds_at (λ link. true)) (Is (λ reached. Pump side 1 ∷ []))
    (is_one (λ reached. Pump side 1 ∷ []))) drains_one

restarts_one : (side : Side) (s : Reached) → AtMostOne (Restarts side s)
restarts_one side =
    where_one (of_end side (λ link. is_retry_stopped link.a.output)) (TakesTurn side)
    (turn_one side)

fires_one : (side : Side) (s : Reached) → AtMostOne (TimesOut side s)
fires_one side =
    where_one (of_end side (λ link. may_fire link.a.output)) (Is (λ reached. Fire side ∷ []))
    (is_one (λ reached. Fire side ∷ []))

requests_one : (side : Side) (s : Reached) → AtMostOne (Requests side s)
requests_one side =
    where_one (of_end side (λ link. not (first_rests link)))
    (NextOf goes (TimesOut side) (TakesTurn side))
    (next_one goes (TimesOut side) (TakesTurn side) (fires_one side) (turn_one side))

recovers_one : (side : Side) (s : Reached) → AtMostOne (Recovers side s)
recovers_one side =
    where_one (of_end side (λ link. not (has_failed link.a.output)))
    (NextOf goes (Restarts side) (Requests side))
    (next_one goes (Restarts side) (Requests side) (restarts_one side) (requests_one side))

tells_one : (side : Side) (s : Reached) → AtMostOne (Tells side s)
tells_one side =
    where_one (of_end side (λ link. link.a.tells))
    (NextOf goes (Is (λ reached. Tell side ∷ [])) Drains)
    (next_one goes (Is (λ reached. Tell side ∷ [])) Drains (is_one (λ reached. Tell side ∷ []))
    drains_one)

sends_one : (side : Side) (s : Reached) → AtMostOne (SendsAll side s)
sends_one side =
    let starts = of_end side (λ link. is_ready link.a) in
    let stopped = of_end side (λ link. is_retry_stopped link.a.output) in
    where_one (of_end side first_rests)
    (LoopOf goes starts (TakesTurn side) stopped (TakesTurn side))
    (λ s x y f g. loop_one goes starts (TakesTurn side) stopped (TakesTurn side) (turn_one side)
    (turn_one side) f g)

pub settles_one : (s : Reached) → AtMostOne (Settles s)
settles_one =
    let last = NextOf goes (SendsAll A) (SendsAll B) in
    let told = NextOf goes (Tells B) last in
    let telling = NextOf goes (Tells A) told in
    let more = NextOf goes (Recovers B) telling in
    next_one goes Drains (NextOf goes (Recovers A) more) drains_one
    (next_one goes (Recovers A) more (recovers_one A)
    (next_one goes (Recovers B) telling (recovers_one B)
    (next_one goes (Tells A) told (tells_one A)
    (next_one goes (Tells B) last (tells_one B)
    (next_one goes (SendsAll A) (SendsAll B) (sends_one A) (sends_one B))))))
