-- The steps of one character, and those of a symbol.
use Rattle.link_model.proofs.Prelude.{◌≡◌, ℕ, suc, ◌<◌, ◌≤◌, nat_lt, Bool, true, false, List, ◌∷◌, ◌++◌, refl, ap, ◌∙◌, arith, Decides-ltb, Char, Delimiter, spelled, Event, CharKind, Byte, Opens, Nothing, Opened, One, Two, Place, ReaderStep, place, opened, finished, step_by, run, place_after, at_rest, Text, Plain, Skipped, Within, IsOpen, IsWhole, placed, kind}

-- the events of characters, and where the reader stands after them
abbrev pub course : Place → ℕ → List Char → List (ℕ × Event) × Place
course from at cs = (run from at cs, place_after from cs)

-- the events of a step at a place, and those of the characters behind it
abbrev pub follow_to : ReaderStep → ℕ → List Char → List (ℕ × Event) × Place
follow_to s at cs = (placed at s.gives ++ run s.place (suc at) cs, place_after s.place cs)

-- the step of a character whose kind is known
pub course_step : (from : Place) (at : ℕ) (c : Char) (cs : List Char) (k : CharKind) → kind c ≡ k
    → course from at (c ∷ cs) ≡ follow_to (step_by from.text from.pending k) at cs
unfolding run place_after
course_step from at c cs k e =
    ap (λ (j : CharKind). follow_to (step_by from.text from.pending j) at cs) e

opened_is : (t : Text) → IsOpen t → opened t ≡ t
opened_is Plain may = refl
opened_is Skipped may = absurd may
opened_is (Within bytes) may = refl

-- a delimiter where a symbol may begin
pub course_begins : (t : Text) (at : ℕ) (c : Char) (cs : List Char) (d : Delimiter) → IsOpen t
    → kind c ≡ Opens d
    → course (place t Nothing) at (c ∷ cs) ≡ course (place t (Opened d)) (suc at) cs
course_begins t at c cs d may h =
    course_step (place t Nothing) at c cs (Opens d) h
    ∙ ap (λ (u : Text). course (place u (Opened d)) (suc at) cs) (opened_is t may)

-- a whole symbol where one may begin
pub course_whole : (t : Text) (at : ℕ) (cs : List Char) {d : Delimiter} {c x y z : Char} {i j k : ℕ}
    → IsOpen t → IsWhole d c x y z i j k
    → course (place t Nothing) at (c ∷ x ∷ y ∷ z ∷ cs)
    ≡ follow_to (finished t d (spelled i j k)) (suc (suc (suc at))) cs
course_whole t at cs {d} {c} {x} {y} {z} {i} {j} {k} may w =
    course_begins t at c (x ∷ y ∷ z ∷ cs) d may w.opens
    ∙ course_step (place t (Opened d)) (suc at) x (y ∷ z ∷ cs) (Byte i) w.first
    ∙ course_step (place t (One d i)) (suc (suc at)) y (z ∷ cs) (Byte j) w.second
    ∙ course_step (place t (Two d i j)) (suc (suc (suc at))) z cs (Byte k) w.third

-- Of where the reader stands, whether nothing is in progress there.
abbrev pub resting : List (ℕ × Event) × Place → List (ℕ × Event) × Bool
resting r = (r.0, at_rest r.1)

-- the events of characters, and whether nothing is in progress after them
abbrev pub reading : Place → ℕ → List Char → List (ℕ × Event) × Bool
reading from at cs = resting (course from at cs)

-- with more events in front
abbrev pub prepend : List (ℕ × Event) → List (ℕ × Event) × Bool → List (ℕ × Event) × Bool
prepend es after = (es ++ after.0, after.1)

abbrev pub follow : ReaderStep → ℕ → List Char → List (ℕ × Event) × Bool
follow s at cs = prepend (placed at s.gives) (reading s.place (suc at) cs)

pub stepped : (from : Place) (at : ℕ) (c : Char) (cs : List Char) (k : CharKind) → kind c ≡ k
    → reading from at (c ∷ cs) ≡ follow (step_by from.text from.pending k) at cs
stepped from at c cs k e = ap resting (course_step from at c cs k e)

pub begins : (t : Text) (at : ℕ) (c : Char) (cs : List Char) (d : Delimiter) → IsOpen t
    → kind c ≡ Opens d
    → reading (place t Nothing) at (c ∷ cs) ≡ reading (place t (Opened d)) (suc at) cs
begins t at c cs d may h = ap resting (course_begins t at c cs d may h)

pub whole : (t : Text) (at : ℕ) (cs : List Char) {d : Delimiter} {c x y z : Char} {i j k : ℕ}
    → IsOpen t → IsWhole d c x y z i j k
    → reading (place t Nothing) at (c ∷ x ∷ y ∷ z ∷ cs)
    ≡ follow (finished t d (spelled i j k)) (suc (suc (suc at))) cs
whole t at cs may w = ap resting (course_whole t at cs may w)

pub below : (a n : ℕ) → a < n → nat_lt a n ≡ true
below a n h = (Decides-ltb a n).1 h

pub not_below : (a n : ℕ) → n ≤ a → nat_lt a n ≡ false
not_below a n h = by_test (nat_lt a n) refl
  where
    by_test : (b : Bool) → nat_lt a n ≡ b → nat_lt a n ≡ false
    by_test false e = e
    by_test true e = absurd (let less : a < n = (Decides-ltb a n).0 e in omega arith)
