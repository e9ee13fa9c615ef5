-- The steps of characters in pieces, and what one character may tell.
use Rattle.link_model.proofs.Prelude.{◌≡◌, ℕ, suc, ◌+◌, ◌≤◌, ◌==◌, ◌⊎◌, nat_lt, Bool, true, false, Option, Some, None, List, [], ◌∷◌, ◌++◌, length, filter, map, if◌then◌else◌, ◌↔◌, refl, sym, ap, ◌∙◌, subst, arith, append_assoc, append-nil, Decides-eqb, Decides-or, Char, Delimiter, allowed, Fields, spelled, Event, Ctl, CharKind, Byte, Opens, Idle, Stray, Pending, Nothing, Opened, One, Two, Place, place_start, byte_added, symbol_taken, finished, step_by, step, run, place_after, at_rest, AreGiven, Text, Plain, Skipped, Within, packet_ended, ends_packet, told, placed, Reads, IsReading, IsCut, kind}
use Rattle.std.proofs.lemmas.List.{map-append}
use Rattle.std.proofs.lemmas.List.Elements.{filter-append}
use Rattle.link_model.proofs.ReadingOne.{one}
use Rattle.link_model.proofs.ReadingSteps.{below, not_below}
use Rattle.link_model.proofs.ReadingFound.{found, none_yet}

-- events without their places
abbrev pub events_of : List (ℕ × Event) → List Event
events_of placed = map (λ (p : ℕ × Event). p.1) placed

pub placed_away : (at : ℕ) (es : List Event) → events_of (placed at es) ≡ es
placed_away at [] = refl
placed_away at (e ∷ es) = ap (λ (r : List Event). e ∷ r) (placed_away at es)

pub run-append : (from : Place) (at n : ℕ) (xs ys : List Char) → n ≡ at + length xs
    → run from at (xs ++ ys) ≡ run from at xs ++ run (place_after from xs) n ys
unfolding run place_after
run-append from at n [] ys e = let here : at ≡ n = omega arith in ap (λ (k : ℕ). run from k ys) here
run-append from at n (x ∷ xs) ys e =
    ap (λ (r : List (ℕ × Event)). placed at (step from x).gives ++ r)
    (run-append (step from x).place (suc at) n xs ys (omega arith))
    ∙ sym (append_assoc (placed at (step from x).gives) (run (step from x).place (suc at) xs)
    (run (place_after (step from x).place xs) n ys))

pub place_after-append : (from : Place) (xs ys : List Char)
    → place_after from (xs ++ ys) ≡ place_after (place_after from xs) ys
unfolding place_after
place_after-append from [] ys = refl
place_after-append from (x ∷ xs) ys = place_after-append (step from x).place xs ys

-- the same event this many places on
abbrev pub moved : ℕ → ℕ × Event → ℕ × Event
moved n e = (e.0 + n, e.1)

placed_moved : (at n : ℕ) (es : List Event) → placed (at + n) es ≡ map (moved n) (placed at es)
placed_moved at n [] = refl
placed_moved at n (e ∷ es) = ap (λ (r : List (ℕ × Event)). (at + n, e) ∷ r) (placed_moved at n es)

pub run-moved : (from : Place) (at n : ℕ) (cs : List Char)
    → run from (at + n) cs ≡ map (moved n) (run from at cs)
unfolding run
run-moved from at n [] = refl
run-moved from at n (c ∷ cs) =
    let shift : suc (at + n) ≡ suc at + n = omega arith in
    ap (λ (r : List (ℕ × Event)). r ++ run (step from c).place (suc (at + n)) cs)
    (placed_moved at n (step from c).gives)
    ∙ ap (λ (k : ℕ). map (moved n) (placed at (step from c).gives) ++ run (step from c).place k cs)
    shift
    ∙ ap (λ (r : List (ℕ × Event)). map (moved n) (placed at (step from c).gives) ++ r)
    (run-moved (step from c).place (suc at) n cs)
    ∙ sym
    (map-append (moved n) (placed at (step from c).gives) (run (step from c).place (suc at) cs))

-- one character more
pub run-one : (from : Place) (at : ℕ) (c : Char)
    → run from at (c ∷ []) ≡ placed at (step from c).gives
unfolding run
run-one from at c = append-nil (placed at (step from c).gives)

-- its place is below this one
abbrev pub is_before : ℕ → ℕ × Event → Bool
is_before n e = nat_lt e.0 n

placed_before : (n at : ℕ) → nat_lt at n ≡ true → (es : List Event)
    → filter (is_before n) (placed at es) ≡ placed at es
placed_before n at h [] = refl
placed_before n at h (e ∷ es) =
    rw h (ap (λ (r : List (ℕ × Event)). (at, e) ∷ r) (placed_before n at h es))

placed_behind : (n at : ℕ) → nat_lt at n ≡ false → (es : List Event)
    → filter (is_before n) (placed at es) ≡ []
placed_behind n at h [] = refl
placed_behind n at h (e ∷ es) = rw h (placed_behind n at h es)

run_before : (from : Place) (at n : ℕ) (xs : List Char) → at + length xs ≤ n
    → filter (is_before n) (run from at xs) ≡ run from at xs
unfolding run
run_before from at n [] h = refl
run_before from at n (x ∷ xs) h =
    filter-append (is_before n) (placed at (step from x).gives)
    (run (step from x).place (suc at) xs)
    ∙ ap (λ (r : List (ℕ × Event)). r ++ filter (is_before n) (run (step from x).place (suc at) xs))
    (placed_before n at (below at n (omega arith)) (step from x).gives)
    ∙ ap (λ (r : List (ℕ × Event)). placed at (step from x).gives ++ r)
    (run_before (step from x).place (suc at) n xs (omega arith))

run_behind : (from : Place) (at n : ℕ) (xs : List Char) → n ≤ at
    → filter (is_before n) (run from at xs) ≡ []
unfolding run
run_behind from at n [] h = refl
run_behind from at n (x ∷ xs) h =
    filter-append (is_before n) (placed at (step from x).gives)
    (run (step from x).place (suc at) xs)
    ∙ ap (λ (r : List (ℕ × Event)). r ++ filter (is_before n) (run (step from x).place (suc at) xs))
    (placed_behind n at (not_below at n h) (step from x).gives)
    ∙ run_behind (step from x).place (suc at) n xs (omega arith)

-- The events of a front are those of the whole whose places lie in it.
pub run-front : (from : Place) (at n : ℕ) (xs ys : List Char) → n ≡ at + length xs
    → filter (is_before n) (run from at (xs ++ ys)) ≡ run from at xs
run-front from at n xs ys e =
    ap (filter (is_before n)) (run-append from at n xs ys e)
    ∙ filter-append (is_before n) (run from at xs) (run (place_after from xs) n ys)
    ∙ ap (λ (r : List (ℕ × Event)). r ++ filter (is_before n) (run (place_after from xs) n ys))
    (run_before from at n xs (omega arith))
    ∙ ap (λ (r : List (ℕ × Event)). run from at xs ++ r)
    (run_behind (place_after from xs) n n ys (omega arith))
    ∙ append-nil (run from at xs)

-- what the steps tell is a reading
pub reading_exists : (chars : List Char) → IsReading chars (run place_start 0 chars)
reading_exists chars = (_, found Plain none_yet tt 0 chars)

pub reading_only : (chars : List Char) (events : List (ℕ × Event)) → IsReading chars events
    → events ≡ run place_start 0 chars
reading_only chars events h = ap (λ (r : List (ℕ × Event) × Bool). r.0) (one h.1)

pub reading_cut : (chars : List Char) → IsCut chars
    ↔ (at_rest (place_after place_start chars) ≡ false)
reading_cut chars = (
  λ cut. sym (ap (λ (r : List (ℕ × Event) × Bool). r.1) (one cut.1)),
  λ e. (
    run place_start 0 chars,
    subst (λ (rest : Bool). Reads Plain 0 chars (run place_start 0 chars) rest) e
        (found Plain none_yet tt 0 chars),
  ),
)

pub reading_front : (xs ys : List Char) (events : List (ℕ × Event)) → IsReading (xs ++ ys) events
    → IsReading xs (filter (is_before (length xs)) events)
reading_front xs ys events h =
    subst (λ (es : List (ℕ × Event)). IsReading xs es)
    (sym (ap (filter (is_before (length xs))) (reading_only (xs ++ ys) events h)
    ∙ run-front place_start 0 (length xs) xs ys (omega arith)))
    (reading_exists xs)

told_given : (t : Text) (s : Fields) → AreGiven (told t s)
told_given t s =
    (elim (ends_packet s.s1) as
    (λ b. ends_packet s.s1 ≡ b → AreGiven ((if b then packet_ended t else []) ++ Ctl s ∷ [])) [
      | true ↦ λ e. by_text t
          ((Decides-or (s.s1 == 0) (s.s1 == 2) (Decides-eqb s.s1 0) (Decides-eqb s.s1 2)).0 e)
      | false ↦ λ e. tt
    ]) refl
  where
    by_text : (t : Text) → (s.s1 ≡ 0) ⊎ (s.s1 ≡ 2) → AreGiven (packet_ended t ++ Ctl s ∷ [])
    by_text Plain either = tt
    by_text Skipped either = tt
    by_text (Within bytes) either = (bytes, s, refl, refl, either)

taken_given : (t : Text) (s : Fields) (b : Bool) → AreGiven (symbol_taken t s b).gives
taken_given t s true = told_given t s
taken_given t s false = tt

finished_given : (t : Text) (d : Delimiter) (o : Option Fields) → AreGiven (finished t d o).gives
finished_given t d None = tt
finished_given t d (Some s) = taken_given t s (allowed d s)

added_given : (bytes : List ℕ) (i : ℕ) (b : Bool) → AreGiven (byte_added bytes i b).gives
added_given bytes i true = tt
added_given bytes i false = tt

step_given : (t : Text) (p : Pending) (k : CharKind) → AreGiven (step_by t p k).gives
step_given t Nothing (Opens d) = tt
step_given Plain Nothing Idle = tt
step_given Plain Nothing (Byte i) = tt
step_given Plain Nothing Stray = tt
step_given Skipped Nothing Idle = tt
step_given Skipped Nothing (Byte i) = tt
step_given Skipped Nothing Stray = tt
step_given (Within bytes) Nothing Idle = tt
step_given (Within bytes) Nothing (Byte i) = added_given bytes i (nat_lt (length bytes) 276)
step_given (Within bytes) Nothing Stray = tt
step_given t (Opened d) (Byte i) = tt
step_given t (Opened d) (Opens e) = tt
step_given t (Opened d) Idle = tt
step_given t (Opened d) Stray = tt
step_given t (One d i) (Byte j) = tt
step_given t (One d i) (Opens e) = tt
step_given t (One d i) Idle = tt
step_given t (One d i) Stray = tt
step_given t (Two d i j) (Byte k) = finished_given t d (spelled i j k)
step_given t (Two d i j) (Opens e) = tt
step_given t (Two d i j) Idle = tt
step_given t (Two d i j) Stray = tt

-- What one character tells.
pub given : (from : Place) (c : Char) → AreGiven (step from c).gives
given from c = step_given from.text from.pending (kind c)

pub run-none : (from : Place) (at : ℕ) → run from at [] ≡ []
unfolding run
run-none from at = refl

pub run-cons : (from : Place) (at : ℕ) (c : Char) (cs : List Char)
    → run from at (c ∷ cs) ≡ placed at (step from c).gives ++ run (step from c).place (suc at) cs
unfolding run
run-cons from at c cs = refl

pub place_after-none : (from : Place) → place_after from [] ≡ from
unfolding place_after
place_after-none from = refl

pub place_after-cons : (from : Place) (c : Char) (cs : List Char)
    → place_after from (c ∷ cs) ≡ place_after (step from c).place cs
unfolding place_after
place_after-cons from c cs = refl
