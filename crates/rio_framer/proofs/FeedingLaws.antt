-- What a loop over characters keeps: the events so far and those of the rest are the events of all.
use Rattle.std.proofs.Common.{◌≡◌, ℕ, ◌+◌, ◌<◌, ◌≤◌, List, ◌∷◌, ◌++◌, length, drop, get_or, refl, sym, ap, ◌∙◌, append_assoc, append-nil, subst, add-one, drop-cons}
use Rattle.std.proofs.lemmas.List.{drop_all}
use Rattle.link_model.specs.Prelude.{Char, placed, Place, place_start, step, run, place_after}
use Rattle.link_model.specs.declared.event.Event.{Event}
use Rattle.link_model.specs.Reading.{IsReading}
use Rattle.link_model.proofs.PlacesLaws.{reading_exists, run-none, run-cons, place_after-none, place_after-cons}

front : (i : ℕ) (cs : List Char) (d : Char) → i < length cs
    → drop i cs ≡ get_or cs i d ∷ drop (i + 1) cs
front i cs d h = rw (add-one, drop-cons cs i d) refl

pub events_more : (from to : Place) (i : ℕ) (cs : List Char) (d : Char) (given : List Event)
    (found new all : List (ℕ × Event)) → i < length cs
    → to ≡ (step from (get_or cs i d)).place → given ≡ (step from (get_or cs i d)).gives
    → new ≡ found ++ placed i given
    → found ++ run from i (drop i cs) ≡ all → new ++ run to (i + 1) (drop (i + 1) cs) ≡ all
events_more from to i cs d given found new all h to_is given_is new_is so_far =
    let rest = drop (i + 1) cs in
    ap (λ (xs : List (ℕ × Event)). xs ++ run to (i + 1) rest) new_is
    ∙ append_assoc found (placed i given) (run to (i + 1) rest)
    ∙ ap (λ (p : Place). found ++ (placed i given ++ run p (i + 1) rest)) to_is
    ∙ ap (λ (es : List Event). found
    ++ (placed i es ++ run (step from (get_or cs i d)).place (i + 1) rest)) given_is
    ∙ ap (λ (n : ℕ).
    found ++ (placed i (step from (get_or cs i d)).gives
    ++ run (step from (get_or cs i d)).place n rest)) (add-one i)
    ∙ ap (λ (xs : List (ℕ × Event)). found ++ xs) (sym (run-cons from i (get_or cs i d) rest))
    ∙ ap (λ (xs : List Char). found ++ run from i xs) (sym (front i cs d h))
    ∙ so_far

pub stands_more : (from to : Place) (i : ℕ) (cs : List Char) (d : Char) → i < length cs
    → to ≡ (step from (get_or cs i d)).place
    → place_after to (drop (i + 1) cs) ≡ place_after from (drop i cs)
stands_more from to i cs d h to_is =
    ap (λ (p : Place). place_after p (drop (i + 1) cs)) to_is
    ∙ sym (place_after-cons from (get_or cs i d) (drop (i + 1) cs))
    ∙ ap (place_after from) (sym (front i cs d h))

pub events_all : (from : Place) (i : ℕ) (cs : List Char) (found all : List (ℕ × Event))
    → length cs ≤ i
    → found ++ run from i (drop i cs) ≡ all → found ≡ all
events_all from i cs found all h so_far =
    sym (append-nil found)
    ∙ ap (λ (xs : List (ℕ × Event)). found ++ xs) (sym (run-none from i))
    ∙ ap (λ (xs : List Char). found ++ run from i xs) (sym (drop_all i cs h))
    ∙ so_far

pub stands_all : (from all : Place) (i : ℕ) (cs : List Char) → length cs ≤ i
    → place_after from (drop i cs) ≡ all → from ≡ all
stands_all from all i cs h so_far =
    sym (place_after-none from) ∙ ap (place_after from) (sym (drop_all i cs h)) ∙ so_far

-- from the start, the events of all are a reading
pub events_read : (from : Place) (cs : List Char) (found : List (ℕ × Event)) → found ≡ run from 0 cs
    → from ≡ place_start → IsReading cs found
events_read from cs found is starts =
    subst (λ (es : List (ℕ × Event)). IsReading cs es)
    (sym (is ∙ ap (λ (p : Place). run p 0 cs) starts)) (reading_exists cs)
