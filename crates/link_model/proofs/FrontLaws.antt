-- What the front of characters that tells says of them all.
use Rattle.link_model.proofs.Prelude.{◌≡◌, ℕ, suc, ◌+◌, ◌<◌, ◌≤◌, List, [], ◌∷◌, ◌++◌, length, take, drop, refl, sym, ap, ◌∙◌, arith, Char, Event, placed, Place, step, run, place_after, AreGiven, Front, front_by, telling_front}
use Rattle.link_model.proofs.PlacesLaws.{given}

pub front-count : (from : Place) (cs : List Char) → (telling_front from cs).count ≤ length cs
unfolding telling_front
front-count from [] = omega arith
front-count from (c ∷ cs) =
    by_gives (step from c).gives (telling_front (step from c).place cs)
    (front-count (step from c).place cs)
  where
    by_gives : (es : List Event) (behind : Front) → behind.count ≤ length cs
        → (front_by es (step from c) behind).count ≤ length (c ∷ cs)
    by_gives [] behind h = omega arith
    by_gives (e ∷ es) behind h = omega arith

pub front-some : (from : Place) (cs : List Char) → 0 < length cs → 0 < (telling_front from cs).count
unfolding telling_front
front-some from [] h = absurd (omega arith)
front-some from (c ∷ cs) h = by_gives (step from c).gives (telling_front (step from c).place cs)
  where
    by_gives : (es : List Event) (behind : Front) → 0 < (front_by es (step from c) behind).count
    by_gives [] behind = omega arith
    by_gives (e ∷ es) behind = omega arith

pub front-all : (from : Place) (cs : List Char) → (telling_front from cs).step.gives ≡ []
    → (telling_front from cs).count ≡ length cs
unfolding telling_front
front-all from [] h = refl
front-all from (c ∷ cs) h =
    (elim (step from c).gives as (λ es. (step from c).gives ≡ es
    → (front_by es (step from c) (telling_front (step from c).place cs)).step.gives ≡ []
    → (front_by es (step from c) (telling_front (step from c).place cs)).count ≡ suc (length cs)) [
      | [] ↦ λ is quiet. ap suc (front-all (step from c).place cs quiet)
      | e ∷ es ↦ λ is quiet. absurd (let none : e ∷ es ≡ [] = sym is ∙ quiet in cc)
    ]) refl h

pub front-place : (from : Place) (cs : List Char)
    → (telling_front from cs).step.place ≡ place_after from (take (telling_front from cs).count cs)
unfolding telling_front place_after
front-place from [] = refl
front-place from (c ∷ cs) =
    elim (step from c).gives as
    (λ es. (front_by es (step from c) (telling_front (step from c).place cs)).step.place
    ≡ place_after from
    (take (front_by es (step from c) (telling_front (step from c).place cs)).count (c ∷ cs))) [
      | [] ↦ front-place (step from c).place cs
      | e ∷ es ↦ refl
    ]

-- all events are those of the front, at its last character, and those of the characters behind it
pub run-telling_front : (from : Place) (at n : ℕ) (cs : List Char)
    → at + (telling_front from cs).count ≡ suc n
    → run from at cs ≡ placed n (telling_front from cs).step.gives
    ++ run (telling_front from cs).step.place (suc n) (drop (telling_front from cs).count cs)
unfolding telling_front run
run-telling_front from at n [] e = refl
run-telling_front from at n (c ∷ cs) e =
    (elim (step from c).gives as (λ es. (step from c).gives ≡ es
    → at + (front_by es (step from c) (telling_front (step from c).place cs)).count ≡ suc n
    → placed at es ++ run (step from c).place (suc at) cs
    ≡ placed n (front_by es (step from c) (telling_front (step from c).place cs)).step.gives
    ++ run (front_by es (step from c) (telling_front (step from c).place cs)).step.place (suc n)
    (drop (front_by es (step from c) (telling_front (step from c).place cs)).count (c ∷ cs))) [
      | [] ↦ λ is here. run-telling_front (step from c).place (suc at) n cs (omega arith)
      | e ∷ es ↦ λ is here. let same : at ≡ n = omega arith in
          ap (λ (k : ℕ). placed k (e ∷ es) ++ run (step from c).place (suc k) cs) same
          ∙ ap (λ (gs : List Event). placed n gs ++ run (step from c).place (suc n) cs) (sym is)
    ]) refl e

pub front-given : (from : Place) (cs : List Char) → AreGiven (telling_front from cs).step.gives
unfolding telling_front
front-given from [] = tt
front-given from (c ∷ cs) =
    (elim (step from c).gives as (λ es. (step from c).gives ≡ es
    → AreGiven (front_by es (step from c) (telling_front (step from c).place cs)).step.gives) [
      | [] ↦ λ is. front-given (step from c).place cs
      | e ∷ es ↦ λ is. given from c
    ]) refl
