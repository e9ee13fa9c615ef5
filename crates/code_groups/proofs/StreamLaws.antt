-- Laws of characters and groups that come one after another.
use Rattle.std.proofs.Common.{◌≡◌, ◌≢◌, ℕ, suc, ◌+◌, ◌*◌, ◌<◌, ◌⊎◌, Bool, true, false, not, ◌&&◌, ◌||◌, ◌==◌, List, [], ◌∷◌, ◌++◌, length, refl, sym, ap, ◌∙◌, subst, inl, inr, arith, true≢false}
use Rattle.std.proofs.lemmas.Bool.{and_parts, or_cases, eqb-true, eqb-false, not-true}
use Rattle.rio_chars.specs.CharText.{IsData}
use Rattle.rio_chars.specs.declared.chars.Char.{Char}
use Rattle.rio_chars.specs.declared.chars.Char.TheVariants.{Data, Special, Invalid}
use Rattle.code_groups.specs.declared.disparity.Disparity.{Disparity}
use Rattle.code_groups.specs.declared.disparity.Disparity.TheVariants.{Negative, Positive}
use Rattle.code_groups.specs.Disparities.{other_disparity, after_group, level, ones_in}
use Rattle.code_groups.specs.Groups.{has_group, group_of, disparity_after, IsHeardAs}
use Rattle.code_groups.specs.Numbers.{char_at}
use Rattle.code_groups.specs.Streams.{HaveGroups, groups_from, after_chars, AreHeardAs, ones_of}
use Rattle.code_groups.specs.Changes.{with_wrong_bit, with_wrong_bit_at, IsFoundIn}
use Rattle.code_groups.proofs.Characters.{number_of, every, every_at, passes, character_test, char_at-number}
use Rattle.code_groups.proofs.Plain.{plain, heard_group, heard_is, heard_one}

pub sent_heard : (before : Disparity) (chars : List Char) → HaveGroups chars
    → AreHeardAs before (groups_from before chars) chars
sent_heard before [] h = refl
sent_heard before (c ∷ chars) h = (
  heard_group before (group_of before c) c (h.0, refl),
  sent_heard (disparity_after before c) chars h.1,
)

pub sent_only : (before : Disparity) (chars heard : List Char) → HaveGroups chars
    → AreHeardAs before (groups_from before chars) heard → heard ≡ chars
sent_only before [] heard h e = e
sent_only before (c ∷ chars) [] h e = absurd e
sent_only before (c ∷ chars) (x ∷ heard) h e =
    let first : x ≡ c =
    heard_one before (group_of before c) x c e.0
    (heard_group before (group_of before c) c (h.0, refl))
    in
    let rest : heard ≡ chars = sent_only (disparity_after before c) chars heard h.1 e.1 in
    cc

-- ones and zeros
ones_test : Disparity → Char → Bool
ones_test before c =
    ones_in 10 (group_of before c) + level before == 5 + level (disparity_after before c)

all_ones : (before : Disparity) → every 512 (passes (ones_test before)) ≡ true
unfolding ones_test
all_ones Negative = refl
all_ones Positive = refl

ones_is : (before : Disparity) (c : Char) → has_group c ≡ true
    → ones_in 10 (group_of before c) + level before ≡ 5 + level (disparity_after before c)
unfolding ones_test
ones_is before c h = eqb-true _ _ (character_test (ones_test before) (all_ones before) c h)

adds_up : (a b l m n k : ℕ) → a + l ≡ 5 + m → b + m ≡ 5 * n + k → a + b + l ≡ 5 * suc n + k
adds_up a b l m n k e f = omega arith

pub balanced : (before : Disparity) (chars : List Char) → HaveGroups chars
    → ones_of (groups_from before chars) + level before
    ≡ 5 * length chars + level (after_chars before chars)
balanced before [] h = omega arith
balanced before (c ∷ chars) h =
    adds_up (ones_in 10 (group_of before c))
    (ones_of (groups_from (disparity_after before c) chars))
    (level before) (level (disparity_after before c)) (length chars)
    (level (after_chars (disparity_after before c) chars))
    (ones_is before c h.0) (balanced (disparity_after before c) chars h.1)

-- the disparity is the other one
other_of : (a b : Disparity) → level a + level b ≡ 1 → a ≡ other_disparity b
other_of Negative Negative e = absurd (omega (arith, e))
other_of Negative Positive e = refl
other_of Positive Negative e = refl
other_of Positive Positive e = absurd (omega (arith, e))

pub same_level : (a b : Disparity) → level a ≡ level b → a ≡ b
same_level Negative Negative e = refl
same_level Negative Positive e = absurd (omega (arith, e))
same_level Positive Negative e = absurd (omega (arith, e))
same_level Positive Positive e = refl

unfoldable pub is_data : Char → Bool
is_data (Data b) = true
is_data (Special b) = false
is_data Invalid = false

data_is : (c : Char) → is_data c ≡ true → IsData c
unfolding is_data
data_is (Data b) h = tt
data_is (Special b) h = absurd (true≢false (sym h))
data_is Invalid h = absurd (true≢false (sym h))

-- a group that is heard at the wrong disparity: as what it is, and data, or as none
stays_test : Disparity → ℕ → Char → Bool
stays_test before group c =
    (plain (other_disparity before) group == number_of c)
    && (is_data c
    && (level (after_group (other_disparity before) group) + level (disparity_after before c) == 1))

ends_test : Disparity → ℕ → Char → Bool
ends_test before group c =
    (plain (other_disparity before) group == 512)
    && (level (after_group (other_disparity before) group) == level (disparity_after before c))

astray_test : Disparity → Char → Bool
astray_test before c =
    ends_test before (group_of before c) c || stays_test before (group_of before c) c

all_astray : (before : Disparity) → every 512 (passes (astray_test before)) ≡ true
unfolding astray_test ends_test stays_test is_data plain
all_astray Negative = refl
all_astray Positive = refl

-- heard at the other disparity, a group is none, and the disparity after it is right again; or it
-- is the data that was sent, and the disparity after it is still the other one
pub astray_parts : (before : Disparity) (c x : Char) → has_group c ≡ true
    → IsHeardAs (other_disparity before) (group_of before c) x
    → ((x ≡ Invalid)
    × (after_group (other_disparity before) (group_of before c) ≡ disparity_after before c))
    ⊎ ((x ≡ c) × IsData c × (after_group (other_disparity before) (group_of before c)
    ≡ other_disparity (disparity_after before c)))
unfolding astray_test ends_test stays_test
astray_parts before c x has heard =
    let group : ℕ = group_of before c in
    let away : Disparity = other_disparity before in
    let is : x ≡ char_at (plain away group) = heard_is away group x heard in
    elim (or_cases (ends_test before group c) (stays_test before group c)
    (character_test (astray_test before) (all_astray before) c has)) [
      | inl ends ↦
          let parts = and_parts (plain away group == 512)
          (level (after_group away group) == level (disparity_after before c)) ends in
          inl (is ∙ ap char_at (eqb-true _ _ parts.0), same_level _ _ (eqb-true _ _ parts.1))
      | inr stays ↦
          let parts = and_parts (plain away group == number_of c)
          (is_data c && (level (after_group away group) + level (disparity_after before c) == 1))
          stays in
          let more = and_parts (is_data c)
          (level (after_group away group) + level (disparity_after before c) == 1) parts.1 in
          inr (
            is ∙ ap char_at (eqb-true _ _ parts.0) ∙ char_at-number c has,
            data_is c more.0,
            other_of _ _ (eqb-true _ _ more.1),
          )
    ]

pub found_later : (before : Disparity) (rest after : List Char) → HaveGroups rest
    → AreHeardAs (other_disparity before) (groups_from before rest) after → IsFoundIn rest after
found_later before [] after h e = e
found_later before (c ∷ rest) [] h e = absurd e
found_later before (c ∷ rest) (x ∷ after) h e =
    elim (astray_parts before c x h.0 e.0) [
      | inl ends ↦ inl (
        ends.0,
        sent_only (disparity_after before c) rest after h.1
            (subst (λ d. AreHeardAs d (groups_from (disparity_after before c) rest) after)
            ends.1 e.1),
      )
      | inr stays ↦ inr (
        stays.0,
        stays.1,
        found_later (disparity_after before c) rest after h.1
            (subst (λ d. AreHeardAs d (groups_from (disparity_after before c) rest) after)
            stays.2 e.1),
      )
    ]

-- a wrong bit leads to none, or to the other disparity
is_none : Disparity → Char → ℕ → Bool
is_none before c wrong =
    (plain before wrong == 512)
    && (level (after_group before wrong) == level (disparity_after before c))

bit_test : Disparity → Char → ℕ → Bool
bit_test before c bit =
    not (group_of before c == with_wrong_bit bit (group_of before c))
    && (is_none before c (with_wrong_bit bit (group_of before c))
    || (level (after_group before (with_wrong_bit bit (group_of before c)))
    + level (disparity_after before c) == 1))

bits_test : Disparity → Char → Bool
bits_test before c = every 10 (bit_test before c)

all_bits : (before : Disparity) → every 512 (passes (bits_test before)) ≡ true
unfolding bits_test bit_test is_none plain
all_bits Negative = refl
all_bits Positive = refl

bit_parts : (before : Disparity) (c : Char) (bit : ℕ) → has_group c ≡ true → bit < 10
    → (group_of before c ≢ with_wrong_bit bit (group_of before c))
    × (((plain before (with_wrong_bit bit (group_of before c)) ≡ 512)
    × (after_group before (with_wrong_bit bit (group_of before c)) ≡ disparity_after before c))
    ⊎ (after_group before (with_wrong_bit bit (group_of before c))
    ≡ other_disparity (disparity_after before c)))
unfolding bits_test bit_test is_none
bit_parts before c bit h low =
    let wrong : ℕ = with_wrong_bit bit (group_of before c) in
    let all : every 10 (bit_test before c) ≡ true =
    character_test (bits_test before) (all_bits before) c h in
    let here : bit_test before c bit ≡ true = every_at 10 (bit_test before c) bit all low in
    let parts = and_parts (not (group_of before c == wrong))
    (is_none before c wrong
    || (level (after_group before wrong) + level (disparity_after before c) == 1)) here in (
      eqb-false _ _ (not-true _ parts.0),
      elim (or_cases (is_none before c wrong)
          (level (after_group before wrong) + level (disparity_after before c) == 1) parts.1) [
            | inl none ↦
                let both = and_parts (plain before wrong == 512)
                (level (after_group before wrong) == level (disparity_after before c)) none in
                inl (eqb-true _ _ both.0, same_level _ _ (eqb-true _ _ both.1))
            | inr inverted ↦ inr (other_of _ _ (eqb-true _ _ inverted))
          ],
    )

same_group : (before : Disparity) (group : ℕ) (h c : Char) → has_group c ≡ true → h ≡ c
    → IsHeardAs before group h → group_of before c ≡ group
same_group before group h (Data b) has e heard =
    (subst (IsHeardAs before group) e heard).1
same_group before group h (Special b) has e heard =
    (subst (IsHeardAs before group) e heard).1
same_group before group h Invalid has e heard = absurd (true≢false (sym has))

abbrev pub WrongBit : List Char → Char → List Char → List Char → Type 0
WrongBit front c rest heard =
    (h : Char) × (after : List Char) × (heard ≡ front ++ h ∷ after) × (h ≢ c)
    × (((h ≡ Invalid) × (after ≡ rest)) ⊎ IsFoundIn rest after)

-- a character whose group has a wrong bit is heard as another, and then it is invalid and the
-- disparity after it is right, or that is the other one
pub wrong_parts : (before : Disparity) (c h : Char) (bit : ℕ) → bit < 10 → has_group c ≡ true
    → IsHeardAs before (with_wrong_bit bit (group_of before c)) h
    → (h ≢ c) × (((h ≡ Invalid)
    × (after_group before (with_wrong_bit bit (group_of before c)) ≡ disparity_after before c))
    ⊎ (after_group before (with_wrong_bit bit (group_of before c))
    ≡ other_disparity (disparity_after before c)))
wrong_parts before c h bit low has heard =
    let wrong : ℕ = with_wrong_bit bit (group_of before c) in
    let parts = bit_parts before c bit has low in (
      (λ e. parts.0 (same_group before wrong h c has e heard)),
      elim parts.1 [
        | inl none ↦ inl (heard_is before wrong h heard ∙ ap char_at none.0, none.1)
        | inr away ↦ inr away
      ],
    )

first_wrong : (before : Disparity) (c : Char) (rest : List Char) (bit : ℕ) (h : Char)
    (after : List Char) → bit < 10 → HaveGroups (c ∷ rest)
    → IsHeardAs before (with_wrong_bit bit (group_of before c)) h
    → AreHeardAs (after_group before (with_wrong_bit bit (group_of before c)))
    (groups_from (disparity_after before c) rest) after
    → WrongBit [] c rest (h ∷ after)
first_wrong before c rest bit h after low has heard later =
    let parts = wrong_parts before c h bit low has.0 heard in
    let next : Disparity = disparity_after before c in (
      h,
      after,
      refl,
      parts.0,
      elim parts.1 [
        | inl none ↦ inl (
          none.0,
          sent_only next rest after has.1
              (subst (λ d. AreHeardAs d (groups_from next rest) after) none.1 later),
        )
        | inr away ↦ inr (found_later next rest after has.1
            (subst (λ d. AreHeardAs d (groups_from next rest) after) away later))
      ],
    )

pub wrong_bit_found : (before : Disparity) (front : List Char) (c : Char) (rest : List Char)
    (bit : ℕ) (heard : List Char) → bit < 10 → HaveGroups (front ++ c ∷ rest)
    → AreHeardAs before
    (with_wrong_bit_at (length front) bit (groups_from before (front ++ c ∷ rest))) heard
    → WrongBit front c rest heard
wrong_bit_found before [] c rest bit [] low has heard = absurd heard
wrong_bit_found before [] c rest bit (h ∷ after) low has heard =
    first_wrong before c rest bit h after low has heard.0 heard.1
wrong_bit_found before (x ∷ front) c rest bit [] low has heard = absurd heard
wrong_bit_found before (x ∷ front) c rest bit (y ∷ ys) low has heard =
    let first : y ≡ x =
    heard_one before (group_of before x) y x heard.0
    (heard_group before (group_of before x) x (has.0, refl)) in
    let rest_is =
    wrong_bit_found (disparity_after before x) front c rest bit ys low has.1 heard.1 in
    let is : ys ≡ front ++ rest_is.0 ∷ rest_is.1 = rest_is.2 in
    let whole : y ∷ ys ≡ x ∷ (front ++ rest_is.0 ∷ rest_is.1) = cc in
    (rest_is.0, rest_is.1, whole, rest_is.3, rest_is.4)

-- a list with nothing in it
pub none_left : {A : Type 0} → (xs : List A) → length xs < 1 → xs ≡ []
none_left [] h = refl
none_left (x ∷ xs) h = absurd (omega arith)
