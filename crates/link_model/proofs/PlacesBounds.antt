-- A packet in progress never has more than 276 bytes.
use Rattle.link_model.proofs.Prelude.{◌≡◌, ℕ, ◌<◌, ◌≤◌, ◌==◌, nat_lt, nat_le, Bool, true, false, Option, Some, None, List, [], ◌∷◌, ◌++◌, length, if◌then◌else◌, refl, arith, length-append, Decides-ltb, Char, Delimiter, allowed, Fields, spelled, CharKind, Byte, Opens, Idle, Stray, Pending, Nothing, Opened, One, Two, Place, place_start, opened, byte_added, symbol_taken, finished, step_by, step, place_after, IsBounded, Text, Plain, Skipped, Within, text_after, kind}

one_longer : (bytes : List ℕ) (i : ℕ) → length bytes < 276 → length (bytes ++ i ∷ []) ≤ 276
one_longer bytes i h = grind (arith, length-append)

added_bounded : (bytes : List ℕ) (i : ℕ) (b : Bool) → nat_lt (length bytes) 276 ≡ b
    → IsBounded (byte_added bytes i b).place.text
added_bounded bytes i true e = one_longer bytes i ((Decides-ltb (length bytes) 276).0 e)
added_bounded bytes i false e = tt

opened_bounded : (t : Text) → IsBounded t → IsBounded (opened t)
opened_bounded Plain h = tt
opened_bounded Skipped h = tt
opened_bounded (Within bytes) h = h

after_bounded : (t : Text) (s1 : ℕ) → IsBounded t → IsBounded (text_after t s1)
after_bounded t s1 h = by_tests (s1 == 0) (nat_le s1 4)
  where
    by_tests : (b c : Bool) → IsBounded (if b then Within [] else (if c then Plain else t))
    by_tests true c = omega arith
    by_tests false true = tt
    by_tests false false = h

taken_bounded : (t : Text) (s : Fields) (b : Bool) → IsBounded t
    → IsBounded (symbol_taken t s b).place.text
taken_bounded t s true h = after_bounded t s.s1 h
taken_bounded t s false h = tt

finished_bounded : (t : Text) (d : Delimiter) (o : Option Fields) → IsBounded t
    → IsBounded (finished t d o).place.text
finished_bounded t d None h = tt
finished_bounded t d (Some s) h = taken_bounded t s (allowed d s) h

by_bounded : (t : Text) (p : Pending) (k : CharKind) → IsBounded t
    → IsBounded (step_by t p k).place.text
by_bounded t Nothing (Opens d) h = opened_bounded t h
by_bounded Plain Nothing Idle h = tt
by_bounded Plain Nothing (Byte i) h = tt
by_bounded Plain Nothing Stray h = tt
by_bounded Skipped Nothing Idle h = tt
by_bounded Skipped Nothing (Byte i) h = tt
by_bounded Skipped Nothing Stray h = tt
by_bounded (Within bytes) Nothing Idle h = tt
by_bounded (Within bytes) Nothing (Byte i) h =
    added_bounded bytes i (nat_lt (length bytes) 276) refl
by_bounded (Within bytes) Nothing Stray h = tt
by_bounded t (Opened d) (Byte i) h = h
by_bounded t (Opened d) (Opens e) h = tt
by_bounded t (Opened d) Idle h = tt
by_bounded t (Opened d) Stray h = tt
by_bounded t (One d i) (Byte j) h = h
by_bounded t (One d i) (Opens e) h = tt
by_bounded t (One d i) Idle h = tt
by_bounded t (One d i) Stray h = tt
by_bounded t (Two d i j) (Byte k) h = finished_bounded t d (spelled i j k) h
by_bounded t (Two d i j) (Opens e) h = tt
by_bounded t (Two d i j) Idle h = tt
by_bounded t (Two d i j) Stray h = tt

pub step_bounded : (from : Place) (c : Char) → IsBounded from.text
    → IsBounded (step from c).place.text
step_bounded from c h = by_bounded from.text from.pending (kind c) h

pub after_all : (from : Place) (cs : List Char) → IsBounded from.text
    → IsBounded (place_after from cs).text
unfolding place_after
after_all from [] h = h
after_all from (c ∷ cs) h = after_all (step from c).place cs (step_bounded from c h)

pub all_bounded : (chars : List Char) → IsBounded (place_after place_start chars).text
all_bounded chars = after_all place_start chars tt
