-- What a loop over the characters of a run keeps.
use Rattle.std.proofs.Common.{◌≡◌, ℕ, suc, ◌+◌, ◌<◌, ◌≤◌, List, [], ◌∷◌, length, drop, get_or, refl, sym, ap, ◌∙◌, arith, add-one, drop-cons}
use Rattle.std.proofs.lemmas.List.{drop_all}
use Rattle.rio_chars.specs.declared.chars.Char.{Char}
use Rattle.link_model.specs.declared.event.Event.{Event}
use Rattle.link_model.specs.Places.{Place, ReaderStep, step}
use Rattle.link_model.specs.Fronts.{Front, no_front, front_by, telling_front}
use Rattle.rio_framer.specs.Giving.{told_of_events}
use Rattle.rio_framer.specs.Parts.{later}
use Rattle.rio_framer.specs.declared.events.Told.TheVariants as told
use Rattle.rio_framer.proofs.GivingLaws.{quiet-step}

pub front-cons : (from : Place) (c : Char) (cs : List Char)
    → telling_front from (c ∷ cs)
    ≡ front_by (step from c).gives (step from c) (telling_front (step from c).place cs)
unfolding telling_front
front-cons from c cs = refl

pub front-none : (from : Place) → telling_front from [] ≡ no_front from
unfolding telling_front
front-none from = refl

later-one : (n : ℕ) (behind : Front) (first : ReaderStep)
    → later n (front_by [] first behind) ≡ later (n + 1) behind
later-one n behind first = let same : n + suc behind.count ≡ n + 1 + behind.count = omega arith in
    ap (λ (k : ℕ). record { count = k; step = behind.step }) same

-- a character that tells nothing
pub front-quiet : (from to : Place) (i : ℕ) (cs : List Char) (d : Char) (all : Front)
    → i < length cs → to ≡ (step from (get_or cs i d)).place
    → told_of_events (step from (get_or cs i d)).gives ≡ told.Nothing
    → later i (telling_front from (drop i cs)) ≡ all
    → later (i + 1) (telling_front to (drop (i + 1) cs)) ≡ all
front-quiet from to i cs d all h to_is none so_far =
    let c = get_or cs i d in
    let rest = drop (suc i) cs in
    ap (λ (p : Place). later (i + 1) (telling_front p (drop (i + 1) cs))) to_is
    ∙ ap (λ (n : ℕ). later (i + 1) (telling_front (step from c).place (drop n cs))) (add-one i)
    ∙ sym (later-one i (telling_front (step from c).place rest) (step from c))
    ∙ ap (λ (es : List Event). later i
    (front_by es (step from c) (telling_front (step from c).place rest)))
    (sym (quiet-step from c none))
    ∙ ap (later i) (sym (front-cons from c rest))
    ∙ ap (λ (xs : List Char). later i (telling_front from xs)) (sym (drop-cons cs i d h))
    ∙ so_far

-- a character that tells something
pub front-tells : (from : Place) (i : ℕ) (cs : List Char) (d : Char) (all : Front) → i < length cs
    → (told_of_events (step from (get_or cs i d)).gives ≡ told.Nothing → ⊥)
    → later i (telling_front from (drop i cs)) ≡ all
    → record { count = i + 1; step = step from (get_or cs i d) } ≡ all
front-tells from i cs d all h tells so_far =
    let c = get_or cs i d in
    ap (later i)
    (sym (ends (step from c).gives (telling_front (step from c).place (drop (suc i) cs)) tells))
    ∙ ap (later i) (sym (front-cons from c (drop (suc i) cs)))
    ∙ ap (λ (xs : List Char). later i (telling_front from xs)) (sym (drop-cons cs i d h))
    ∙ so_far
  where
    ends : (es : List Event) (behind : Front) → (told_of_events es ≡ told.Nothing → ⊥)
        → front_by es (step from (get_or cs i d)) behind ≡ record {
          count = 1;
          step = step from (get_or cs i d);
        }
    ends [] behind tells = absurd (tells refl)
    ends (e ∷ es) behind tells = refl

-- no character is left
pub front-all : (from : Place) (i : ℕ) (cs : List Char) (all : Front) → length cs ≤ i
    → later i (telling_front from (drop i cs)) ≡ all
    → record { count = i; step = record { place = from; gives = [] } } ≡ all
front-all from i cs all h so_far =
    let none : i ≡ i + 0 = omega arith in
    ap (λ (n : ℕ). record { count = n; step = record { place = from; gives = [] } }) none
    ∙ sym (ap (λ (xs : List Char). later i (telling_front from xs)) (drop_all i cs h)
    ∙ ap (later i) (front-none from))
    ∙ so_far
