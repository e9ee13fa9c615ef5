-- Steps of two readers, of which one hears characters wrong.
use Rattle.lane_faults.proofs.Prelude.{◌≡◌, ◌≢◌, ℕ, ◌==◌, nat_lt, nat_le, Bool, true, false, ◌||◌, Option, Some, None, List, [], ◌∷◌, ◌++◌, length, if◌then◌else◌, refl, sym, ap, ◌∙◌, subst, inl, inr, true≢false, cases_Bool, Char, Data, Special, Invalid, Fields, is_spelling, spelled, fields_at, Ctl, CharKind, Byte, Opens, Idle, Stray, Pending, Nothing, Opened, One, Two, ReaderStep, place, byte_added, outside, broken, symbol_taken, finished, step_by, Text, Plain, Skipped, Within, packet_ended, ends_packet, placed, kind, special_kind, is_delimiter, DifferInOneBlock, GoodStandIn, none_stands, bad_is_passed, same_stands, other_is_passed}
use Rattle.rio_symbols.specs.declared.characters.Delimiter.{Delimiter}
use Rattle.rio_symbols.specs.declared.characters.Delimiter.TheVariants.{Sc, Pd}
use Rattle.rio_symbols.specs.declared.stype1.TheConstants.{START_OF_PACKET, LINK_REQUEST}
use Rattle.rio_symbols.specs.Delimiters.{allowed}
use Rattle.rio_symbols.proofs.ChangeLaws.{first_changed, second_changed, third_changed}
use Rattle.lane_faults.proofs.AmongLaws.{all_stand, AreBad, NoneBad}

-- a step tells nothing good and leaves no symbol in progress
abbrev pub IsQuiet : ReaderStep → Type 0
IsQuiet s = AreBad s.gives × (s.place.pending ≡ Nothing)

-- it begins no symbol
abbrev pub BeginsNone : CharKind → Type 0
BeginsNone (Byte byte) = Unit {0}
BeginsNone (Opens d) = ⊥
BeginsNone Idle = Unit {0}
BeginsNone Stray = Unit {0}

-- a stray: nothing is in progress after it
pub stray_ends : (t : Text) (a : Pending)
    → AreBad (step_by t a Stray).gives × ((step_by t a Stray).place ≡ place Skipped Nothing)
stray_ends Plain Nothing = (tt, refl)
stray_ends _ Nothing = (tt, refl)
stray_ends t (Opened d) = (tt, refl)
stray_ends t (One d x) = (tt, refl)
stray_ends t (Two d x y) = (tt, refl)

added_quiet : (bytes : List ℕ) (byte : ℕ) (room : Bool) → IsQuiet (byte_added bytes byte room)
added_quiet bytes byte true = (tt, refl)
added_quiet bytes byte false = (tt, refl)

outside_quiet : (t : Text) (k : CharKind) → BeginsNone k → IsQuiet (outside t k)
outside_quiet t (Opens d) h = absurd h
outside_quiet Plain (Byte byte) h = (tt, refl)
outside_quiet Skipped (Byte byte) h = (tt, refl)
outside_quiet (Within bytes) (Byte byte) h = added_quiet bytes byte (nat_lt (length bytes) 276)
outside_quiet Plain Idle h = (tt, refl)
outside_quiet Skipped Idle h = (tt, refl)
outside_quiet (Within bytes) Idle h = (tt, refl)
outside_quiet Plain Stray h = (tt, refl)
outside_quiet Skipped Stray h = (tt, refl)
outside_quiet (Within bytes) Stray h = (tt, refl)

-- another byte, within one sub-block
abbrev pub IsOtherByte : ℕ → ℕ → Type 0
IsOtherByte found byte = (found ≢ byte) × DifferInOneBlock byte found

-- What the reader that is astray has in progress, and what the other one has: no symbol; or one
-- that has another byte.
pub data IsAstray : Pending → Pending → Type 0 where
  no_symbol : (b : Pending) → IsAstray Nothing b
  other_first : (d e : Delimiter) (x y : ℕ) → IsOtherByte x y → IsAstray (One d x) (One e y)
  other_before : (d e : Delimiter) (x y z : ℕ) → IsOtherByte x y
      → IsAstray (Two d x z) (Two e y z)
  other_second : (d e : Delimiter) (x y z : ℕ) → IsOtherByte y z
      → IsAstray (Two d x y) (Two e x z)

abbrev pub GoesAstray : ReaderStep → ReaderStep → Type 0
GoesAstray s r = AreBad s.gives × IsAstray s.place.pending r.place.pending

quiet_astray : (s r : ReaderStep) → IsQuiet s → GoesAstray s r
quiet_astray s r h =
    (h.0, subst (λ (a : Pending). IsAstray a r.place.pending) (sym h.1) (no_symbol r.place.pending))

-- three bytes that spell none, and three that spell a symbol that may be told
none_spelled : (t : Text) (d : Delimiter) (s : Fields) (b : Bool) → b ≡ false
    → IsQuiet (finished t d (if b then Some s else None))
none_spelled t d s true h = absurd (true≢false h)
none_spelled t d s false h = (tt, refl)

was_spelled : (t : Text) (d : Delimiter) (s : Fields) (b : Bool)
    → NoneBad (finished t d (if b then Some s else None)).gives → b ≡ true
was_spelled t d s true h = refl
was_spelled t d s false h = absurd h.0

-- of two spellings of which only one can be, the one that is good is
not_both : (t u : Text) (d e : Delimiter) (x y z p q r : ℕ)
    → (is_spelling p q r ≡ true → is_spelling x y z ≡ true → ⊥)
    → NoneBad (finished u e (spelled p q r)).gives → IsQuiet (finished t d (spelled x y z))
unfolding spelled
not_both t u d e x y z p q r never good =
    let sent : is_spelling p q r ≡ true =
    was_spelled u e (fields_at p q r) (is_spelling p q r) good in
    elim (cases_Bool (is_spelling x y z)) [
      | inl found ↦ absurd (never sent found)
      | inr none ↦ none_spelled t d (fields_at x y z) (is_spelling x y z) none
    ]

third_unseen : (x y z r : ℕ) → IsOtherByte z r → is_spelling x y r ≡ true
    → is_spelling x y z ≡ true → ⊥
third_unseen x y z r h sent found = h.0 (sym (third_changed x y r z sent found h.1))

second_unseen : (x y z q : ℕ) → IsOtherByte y q → is_spelling x q z ≡ true
    → is_spelling x y z ≡ true → ⊥
second_unseen x y z q h sent found = h.0 (sym (second_changed x q z y sent found h.1))

first_unseen : (x y z p : ℕ) → IsOtherByte x p → is_spelling p y z ≡ true
    → is_spelling x y z ≡ true → ⊥
first_unseen x y z p h sent found = h.0 (sym (first_changed p y z x sent found h.1))

-- the same data for both
pub astray_data : (t u : Text) {a b : Pending} (z : ℕ) → IsAstray a b
    → NoneBad (step_by u b (Byte z)).gives
    → GoesAstray (step_by t a (Byte z)) (step_by u b (Byte z))
astray_data t u z (no_symbol b) good =
    quiet_astray (outside t (Byte z)) (step_by u b (Byte z)) (outside_quiet t (Byte z) tt)
astray_data t u z (other_first d e x y h) good = (tt, other_before d e x y z h)
astray_data t u z (other_before d e x y v h) good =
    quiet_astray (finished t d (spelled x v z)) (finished u e (spelled y v z))
    (not_both t u d e x v z y v z (first_unseen x v z y h) good)
astray_data t u z (other_second d e x y v h) good =
    quiet_astray (finished t d (spelled x y z)) (finished u e (spelled x v z))
    (not_both t u d e x y z x v z (second_unseen x y z v h) good)

-- what both have in progress if they are not astray
pub data AreAlike : Pending → Pending → Type 0 where
  nothing_begun : (b : Pending) → AreAlike Nothing b
  same_begun : (a : Pending) → AreAlike a a

-- a mistake

pub mistaken_step : (t u : Text) {a b : Pending} (k sent : CharKind) → BeginsNone k
    → ((x y : ℕ) → k ≡ Byte x → sent ≡ Byte y → IsOtherByte x y) → AreAlike a b
    → NoneBad (step_by u b sent).gives → GoesAstray (step_by t a k) (step_by u b sent)
mistaken_step t u k sent none differ (nothing_begun b) good =
    quiet_astray (outside t k) (step_by u b sent) (outside_quiet t k none)
mistaken_step t u k sent none differ (same_begun Nothing) good =
    quiet_astray (outside t k) (outside u sent) (outside_quiet t k none)
mistaken_step t u (Opens f) sent none differ (same_begun (Opened d)) good = absurd none
mistaken_step t u Idle sent none differ (same_begun (Opened d)) good = (tt, no_symbol _)
mistaken_step t u Stray sent none differ (same_begun (Opened d)) good = (tt, no_symbol _)
mistaken_step t u (Byte x) (Byte y) none differ (same_begun (Opened d)) good =
    (tt, other_first d d x y (differ x y refl refl))
mistaken_step t u (Opens f) sent none differ (same_begun (One d v)) good = absurd none
mistaken_step t u Idle sent none differ (same_begun (One d v)) good = (tt, no_symbol _)
mistaken_step t u Stray sent none differ (same_begun (One d v)) good = (tt, no_symbol _)
mistaken_step t u (Byte x) (Byte y) none differ (same_begun (One d v)) good =
    (tt, other_second d d v x y (differ x y refl refl))
mistaken_step t u (Byte x) (Opens f) none differ (same_begun (One d v)) good = absurd good.0
mistaken_step t u (Byte x) Idle none differ (same_begun (One d v)) good = absurd good.0
mistaken_step t u (Byte x) Stray none differ (same_begun (One d v)) good = absurd good.0
mistaken_step t u (Opens f) sent none differ (same_begun (Two d v w)) good = absurd none
mistaken_step t u Idle sent none differ (same_begun (Two d v w)) good = (tt, no_symbol _)
mistaken_step t u Stray sent none differ (same_begun (Two d v w)) good = (tt, no_symbol _)
mistaken_step t u (Byte x) (Byte y) none differ (same_begun (Two d v w)) good =
    quiet_astray (finished t d (spelled v w x)) (finished u d (spelled v w y))
    (not_both t u d d v w x v w y (third_unseen v w x y (differ x y refl refl)) good)
mistaken_step t u (Byte x) (Opens f) none differ (same_begun (Two d v w)) good = absurd good.0
mistaken_step t u (Byte x) Idle none differ (same_begun (Two d v w)) good = absurd good.0
mistaken_step t u (Byte x) Stray none differ (same_begun (Two d v w)) good = absurd good.0
mistaken_step t u (Byte x) _ none differ (same_begun (Opened d)) good = absurd good.0

-- kinds of characters that are mistaken
tests_begin_none : (a b c : Bool) → (a || b) ≡ false
    → BeginsNone (if a then Opens Sc else (if b then Opens Pd else (if c then Idle else Stray)))
tests_begin_none true b c h = absurd (true≢false h)
tests_begin_none false true c h = absurd (true≢false h)
tests_begin_none false false true h = tt
tests_begin_none false false false h = tt

pub begins_none : (c : Char) → is_delimiter c ≡ false → BeginsNone (kind c)
unfolding kind
begins_none (Special byte) h =
    tests_begin_none (byte == 0x1c) (byte == 0x7c)
    ((byte == 0xbc) || ((byte == 0xfd) || (byte == 0xfb))) h
begins_none _ h = tt

abbrev is_byte : CharKind → Bool
is_byte (Byte byte) = true
is_byte _ = false

abbrev byte_in : CharKind → ℕ
byte_in (Byte byte) = byte
byte_in _ = 0

tests_no_byte : (a b c : Bool)
    → is_byte (if a then Opens Sc else (if b then Opens Pd else (if c then Idle else Stray)))
    ≡ false
tests_no_byte true b c = refl
tests_no_byte false true c = refl
tests_no_byte false false true = refl
tests_no_byte false false false = refl

pub data_of_byte : (c : Char) (x : ℕ) → kind c ≡ Byte x → c ≡ Data x
unfolding kind
data_of_byte (Data byte) x e = ap Data (ap byte_in e)
data_of_byte (Special byte) x e =
    let none : is_byte (special_kind byte) ≡ false =
    tests_no_byte (byte == 0x1c) (byte == 0x7c)
    ((byte == 0xbc) || ((byte == 0xfd) || (byte == 0xfb))) in
    absurd (true≢false (sym (ap is_byte e) ∙ none))
data_of_byte Invalid x e = absurd (true≢false (sym (ap is_byte e)))

-- The reader that heard something wrong, and the other one, from where both hear the same: they
-- are at one place; or the first skips data; or it lacks the packet that the other has.
pub data IsBehind : Text → Pending → Text → Pending → Type 0 where
  level_with : (t : Text) (a : Pending) → IsBehind t a t a
  skips : (u : Text) (b : Pending) → IsBehind Skipped Nothing u b
  without : (bytes : List ℕ) (a : Pending) → IsBehind Plain a (Within bytes) a

abbrev pub StepsAlike : ℕ → ReaderStep → ReaderStep → Type 0
StepsAlike at s r =
    GoodStandIn (placed at s.gives) (placed at r.gives)
    × IsBehind s.place.text s.place.pending r.place.text r.place.pending

same_steps : (at : ℕ) (s : ReaderStep) → StepsAlike at s s
same_steps at s = (all_stand (placed at s.gives), level_with s.place.text s.place.pending)

told_alike : (at : ℕ) (bytes : List ℕ) (s : Fields) (ends : Bool)
    → GoodStandIn (placed at ((if ends then packet_ended Plain else []) ++ Ctl s ∷ []))
    (placed at ((if ends then packet_ended (Within bytes) else []) ++ Ctl s ∷ []))
told_alike at bytes s true = other_is_passed _ (same_stands _ none_stands)
told_alike at bytes s false = same_stands _ none_stands

text_alike : (bytes : List ℕ) (begins ends : Bool)
    → IsBehind (if begins then Within [] else (if ends then Plain else Plain)) Nothing
    (if begins then Within [] else (if ends then Plain else Within bytes)) Nothing
text_alike bytes true ends = level_with _ _
text_alike bytes false true = level_with _ _
text_alike bytes false false = without bytes Nothing

taken_alike : (at : ℕ) (bytes : List ℕ) (s : Fields) (may : Bool)
    → StepsAlike at (symbol_taken Plain s may) (symbol_taken (Within bytes) s may)
taken_alike at bytes s true = (
  told_alike at bytes s (ends_packet s.s1),
  text_alike bytes (s.s1 == START_OF_PACKET) (nat_le s.s1 LINK_REQUEST),
)
taken_alike at bytes s false = same_steps at (symbol_taken Plain s false)

finished_alike : (at : ℕ) (bytes : List ℕ) (d : Delimiter) (o : Option Fields)
    → StepsAlike at (finished Plain d o) (finished (Within bytes) d o)
finished_alike at bytes d (Some s) = taken_alike at bytes s (allowed d s)
finished_alike at bytes d None = same_steps at (finished Plain d None)

skips_alike : (at : ℕ) (u : Text) (b : Pending) (k : CharKind)
    → StepsAlike at (outside Skipped k) (step_by u b k)
skips_alike at u b (Byte x) = (none_stands, skips _ _)
skips_alike at u b Stray = (none_stands, skips _ _)
skips_alike at Plain Nothing Idle = (none_stands, level_with _ _)
skips_alike at Skipped Nothing Idle = (none_stands, level_with _ _)
skips_alike at (Within bytes) Nothing Idle = (none_stands, level_with _ _)
skips_alike at u (Opened d) Idle = (none_stands, level_with _ _)
skips_alike at u (One d x) Idle = (none_stands, level_with _ _)
skips_alike at u (Two d x y) Idle = (none_stands, level_with _ _)
skips_alike at Plain Nothing (Opens e) = (none_stands, level_with _ _)
skips_alike at Skipped Nothing (Opens e) = (none_stands, level_with _ _)
skips_alike at (Within bytes) Nothing (Opens e) = (none_stands, without bytes (Opened e))
skips_alike at u (Opened d) (Opens e) = (none_stands, level_with _ _)
skips_alike at u (One d x) (Opens e) = (none_stands, level_with _ _)
skips_alike at u (Two d x y) (Opens e) = (none_stands, level_with _ _)

without_alike : (at : ℕ) (bytes : List ℕ) (a : Pending) (k : CharKind)
    → StepsAlike at (step_by Plain a k) (step_by (Within bytes) a k)
without_alike at bytes Nothing (Opens e) = (none_stands, without bytes (Opened e))
without_alike at bytes Nothing Idle = (none_stands, level_with _ _)
without_alike at bytes Nothing (Byte x) = (bad_is_passed _ _ none_stands, skips _ _)
without_alike at bytes Nothing Stray = (bad_is_passed _ _ none_stands, level_with _ _)
without_alike at bytes (Opened d) (Byte x) = (none_stands, without bytes (One d x))
without_alike at bytes (Opened d) (Opens e) = same_steps at (broken (Opens e))
without_alike at bytes (Opened d) Idle = same_steps at (broken Idle)
without_alike at bytes (Opened d) Stray = same_steps at (broken Stray)
without_alike at bytes (One d v) (Byte x) = (none_stands, without bytes (Two d v x))
without_alike at bytes (One d v) (Opens e) = same_steps at (broken (Opens e))
without_alike at bytes (One d v) Idle = same_steps at (broken Idle)
without_alike at bytes (One d v) Stray = same_steps at (broken Stray)
without_alike at bytes (Two d v w) (Byte x) = finished_alike at bytes d (spelled v w x)
without_alike at bytes (Two d v w) (Opens e) = same_steps at (broken (Opens e))
without_alike at bytes (Two d v w) Idle = same_steps at (broken Idle)
without_alike at bytes (Two d v w) Stray = same_steps at (broken Stray)

-- the same character for both
pub same_step : {t u : Text} {a b : Pending} (at : ℕ) (k : CharKind) → IsBehind t a u b
    → StepsAlike at (step_by t a k) (step_by u b k)
same_step at k (level_with t a) = same_steps at (step_by t a k)
same_step at k (skips u b) = skips_alike at u b k
same_step at k (without bytes a) = without_alike at bytes a k

pub begun_alike : {t u : Text} {a b : Pending} → IsBehind t a u b → AreAlike a b
begun_alike (level_with t a) = same_begun a
begun_alike (skips u b) = nothing_begun b
begun_alike (without bytes a) = same_begun a
