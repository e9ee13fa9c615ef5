-- A plain decoder: the one character that a group can be of, if it is of that one at the disparity.
use Rattle.std.proofs.Common.{◌≡◌, ℕ, ◌+◌, ◌-◌, ◌*◌, ◌/◌, ◌%◌, ◌<◌, ◌≤◌, ◌⊎◌, Bool, true, ◌&&◌, ◌||◌, ◌==◌, if◌then◌else◌, List, [], ◌∷◌, get_or, refl, sym, ap, ◌∙◌, subst, inl, inr, arith, true≢false}
use Rattle.std.proofs.lemmas.Bool.{and_parts, eqb-true, cond_both, le-ltb, cases_lt}
use Rattle.rio_chars.specs.declared.chars.Char.{Char}
use Rattle.rio_chars.specs.declared.chars.Char.TheVariants.{Data, Special, Invalid}
use Rattle.code_groups.specs.declared.disparity.Disparity.{Disparity}
use Rattle.code_groups.specs.declared.disparity.Disparity.TheVariants.{Negative, Positive}
use Rattle.code_groups.specs.Groups.{has_group, group_of, IsGroupOf, IsHeardAs}
use Rattle.code_groups.specs.Numbers.{char_at}
use Rattle.code_groups.proofs.Characters.{number_of, number-lt, char_at-number, every, passes, character_test}

-- the low five bits of six, whichever way they are turned, and the high three of four
abbrev low_bits : List ℕ
low_bits =
    32 ∷ 32 ∷ 32 ∷ 32 ∷ 32 ∷ 23 ∷ 8 ∷ 7 ∷ 32 ∷ 27 ∷ 4 ∷ 20 ∷ 24 ∷ 12 ∷ 28 ∷ 32 ∷ 32 ∷ 29 ∷ 2 ∷ 18
    ∷ 31 ∷ 10 ∷ 26 ∷ 15 ∷ 0 ∷ 6 ∷ 22 ∷ 16 ∷ 14 ∷ 1 ∷ 30 ∷ 32 ∷ 32 ∷ 30 ∷ 1 ∷ 17 ∷ 16 ∷ 9 ∷ 25 ∷ 0
    ∷ 15 ∷ 5 ∷ 21 ∷ 31 ∷ 13 ∷ 2 ∷ 29 ∷ 32 ∷ 32 ∷ 3 ∷ 19 ∷ 24 ∷ 11 ∷ 4 ∷ 27 ∷ 32 ∷ 7 ∷ 8 ∷ 23 ∷ 32
    ∷ 32 ∷ 32 ∷ 32 ∷ 32 ∷ []

abbrev high_bits : List ℕ
high_bits =
    8 ∷ 7 ∷ 4 ∷ 3 ∷ 0 ∷ 2 ∷ 6 ∷ 7 ∷ 7 ∷ 1 ∷ 5 ∷ 0 ∷ 3 ∷ 4 ∷ 7 ∷ 8 ∷ []

abbrev special_bits : List ℕ
special_bits =
    8 ∷ 8 ∷ 4 ∷ 3 ∷ 0 ∷ 2 ∷ 6 ∷ 8 ∷ 7 ∷ 1 ∷ 5 ∷ 8 ∷ 8 ∷ 8 ∷ 8 ∷ 8 ∷ []

abbrev plain_data : ℕ → ℕ → ℕ → ℕ
plain_data low high four =
    if (low == 32) || (high == 8) then 512 else
    if ((four == 7) || (four == 8))
    && ((low == 23) || ((low == 27) || ((low == 29) || (low == 30))))
    then 480 + low else low + 32 * high

abbrev plain_code : ℕ → ℕ
plain_code group =
    if group / 16 == 15 then 284 + 32 * get_or special_bits (group % 16) 8 else
    if group / 16 == 48 then 284 + 32 * get_or special_bits (15 - group % 16) 8 else
    plain_data (get_or low_bits (group / 16) 32) (get_or high_bits (group % 16) 8) (group % 16)

abbrev is_group_of : Disparity → ℕ → Char → Bool
is_group_of before group c = has_group c && (group_of before c == group)

abbrev checked_code : Disparity → ℕ → ℕ → ℕ
checked_code before group code =
    if is_group_of before group (char_at code) then code else 512

unfoldable pub plain : Disparity → ℕ → ℕ
plain before group = checked_code before group (plain_code group)

-- either none, or one whose group it is
pub plain_cases : (before : Disparity) (group : ℕ) → (plain before group ≡ 512)
    ⊎ IsGroupOf before group (char_at (plain before group))
unfolding plain
plain_cases before group =
    cond_both (is_group_of before group (char_at (plain_code group))) (plain_code group) 512
    (λ n. (n ≡ 512) ⊎ IsGroupOf before group (char_at n))
    (λ yes. let parts = and_parts _ _ yes in inr (parts.0, eqb-true _ _ parts.1)) (λ no. inl refl)

-- what is sent is found
back_test : Disparity → Char → Bool
back_test before c = plain before (group_of before c) == number_of c

all_back : (before : Disparity) → every 512 (passes (back_test before)) ≡ true
unfolding back_test plain
all_back Negative = refl
all_back Positive = refl

pub back : (before : Disparity) (c : Char) → has_group c ≡ true
    → plain before (group_of before c) ≡ number_of c
unfolding back_test
back before c h = eqb-true _ _ (character_test (back_test before) (all_back before) c h)

pub back_at : (before : Disparity) (group : ℕ) (c : Char) → IsGroupOf before group c
    → plain before group ≡ number_of c
back_at before group c h =
    ap (plain before) (sym h.1) ∙ back before c h.0

-- the plain decoder hears exactly what is heard
pub heard_group : (before : Disparity) (group : ℕ) (c : Char) → IsGroupOf before group c
    → IsHeardAs before group c
heard_group before group (Data b) h = h
heard_group before group (Special b) h = h
heard_group before group Invalid h = absurd (true≢false (sym h.0))

is_plain : (before : Disparity) (group : ℕ) (c : Char) → IsGroupOf before group c
    → c ≡ char_at (plain before group)
is_plain before group c h =
    sym (char_at-number c h.0) ∙ ap char_at (sym (back_at before group c h))

pub heard_is : (before : Disparity) (group : ℕ) (c : Char) → IsHeardAs before group c
    → c ≡ char_at (plain before group)
heard_is before group (Data b) h = is_plain before group (Data b) h
heard_is before group (Special b) h = is_plain before group (Special b) h
heard_is before group Invalid h =
    elim (plain_cases before group) [
      | inl none ↦ sym (ap char_at none)
      | inr found ↦ absurd (h (char_at (plain before group)) found)
    ]

pub plain_heard : (before : Disparity) (group : ℕ)
    → IsHeardAs before group (char_at (plain before group))
plain_heard before group =
    elim (plain_cases before group) [
      | inl none ↦
          subst (λ n. IsHeardAs before group (char_at n)) (sym none)
          (λ c h. let e : number_of c ≡ 512 = sym (back_at before group c h) ∙ none in
          absurd (omega (arith, number-lt c h.0, e)))
      | inr found ↦ heard_group before group (char_at (plain before group)) found
    ]

pub heard_one : (before : Disparity) (group : ℕ) (c d : Char) → IsHeardAs before group c
    → IsHeardAs before group d → c ≡ d
heard_one before group c d hc hd = heard_is before group c hc ∙ sym (heard_is before group d hd)

-- a number of a character that has groups is below 512
has-lt : (n : ℕ) → has_group (char_at n) ≡ true → n < 512
has-lt n h =
    elim (cases_lt n 512) [
      | inl low ↦ low
      | inr high ↦
          let none : char_at n ≡ Invalid =
          rw (le-ltb n 256 (omega arith), le-ltb n 512 high) refl in
          let e : has_group Invalid ≡ true = subst (λ x. has_group x ≡ true) none h in
          absurd (true≢false (sym e))
    ]

pub plain-le : (before : Disparity) (group : ℕ) → plain before group ≤ 512
plain-le before group =
    elim (plain_cases before group) [
      | inl none ↦ omega (arith, none)
      | inr found ↦ let low = has-lt (plain before group) found.0 in omega arith
    ]
