-- Where commas begin.
use Rattle.std.proofs.Common.{◌≡◌, ◌≢◌, ℕ, zero, suc, ◌+◌, ◌*◌, ◌/◌, ◌%◌, ◌^◌, ◌<◌, ◌≤◌, ◌⊎◌, ◌↔◌, Bool, true, false, not, ◌&&◌, ◌||◌, ◌==◌, nat_lt, List, [], ◌∷◌, refl, sym, ap, ◌∙◌, inl, inr, arith, true≢false}
use Rattle.std.proofs.lemmas.Bool.{and_parts, or_cases, eqb-true, not-true, cases_Bool, ltb-true}
use Rattle.rio_chars.specs.declared.chars.Char.{Char}
use Rattle.rio_chars.specs.declared.chars.Char.TheVariants.{Data, Special, Invalid}
use Rattle.code_groups.specs.declared.disparity.Disparity.{Disparity}
use Rattle.code_groups.specs.declared.disparity.Disparity.TheVariants.{Negative, Positive}
use Rattle.code_groups.specs.Groups.{has_group, group_of, disparity_after}
use Rattle.code_groups.specs.Numbers.{char_at}
use Rattle.code_groups.specs.Commas.{is_comma, ten_bits_at, ten_bits_from, NoComma, NoneOfK28_7}
use Rattle.code_groups.specs.Streams.{HaveGroups, groups_from}
use Rattle.code_groups.proofs.Characters.{number_of, every, every_at, passes, character_test, char_at-number}

-- what begins with a comma
has_comma : Char → Bool
has_comma (Data b) = false
has_comma (Special b) = (b == 0x3c) || ((b == 0xbc) || (b == 0xfc))
has_comma Invalid = false

same_bit : Bool → Bool → Bool
same_bit true b = b
same_bit false b = not b

begin_test : Disparity → Char → Bool
begin_test before c = same_bit (is_comma (group_of before c)) (has_comma c)

all_begin : (before : Disparity) → every 512 (passes (begin_test before)) ≡ true
unfolding begin_test same_bit has_comma
all_begin Negative = refl
all_begin Positive = refl

same_from : (a b : Bool) → same_bit a b ≡ true → a ≡ b
unfolding same_bit
same_from true b e = sym e
same_from false b e = sym (not-true b e)

ThreeCommas : Char → Type 0
ThreeCommas c = (c ≡ Special 0x3c) ⊎ ((c ≡ Special 0xbc) ⊎ (c ≡ Special 0xfc))

three : (c : Char) → has_comma c ≡ true → ThreeCommas c
unfolding has_comma ThreeCommas
three (Data b) h = absurd (true≢false (sym h))
three (Special b) h =
    elim (or_cases (b == 0x3c) ((b == 0xbc) || (b == 0xfc)) h) [
      | inl e ↦ inl (ap Special (eqb-true _ _ e))
      | inr more ↦ elim (or_cases (b == 0xbc) (b == 0xfc) more) [
        | inl e ↦ inr (inl (ap Special (eqb-true _ _ e)))
        | inr e ↦ inr (inr (ap Special (eqb-true _ _ e)))
      ]
    ]
three Invalid h = absurd (true≢false (sym h))

three_back : (c : Char) → ThreeCommas c → has_comma c ≡ true
unfolding has_comma ThreeCommas
three_back c h =
    elim h [
      | inl e ↦ ap has_comma e
      | inr more ↦ elim more [ inl e ↦ ap has_comma e | inr e ↦ ap has_comma e ]
    ]

pub commas_are : (before : Disparity) (c : Char) → has_group c ≡ true
    → (is_comma (group_of before c) ≡ true)
    ↔ ((c ≡ Special 0x3c) ⊎ ((c ≡ Special 0xbc) ⊎ (c ≡ Special 0xfc)))
unfolding begin_test ThreeCommas
commas_are before c h =
    let same : is_comma (group_of before c) ≡ has_comma c =
    same_from _ _ (character_test (begin_test before) (all_begin before) c h) in
    ((λ e. three c (sym same ∙ e)), (λ e. same ∙ three_back c e))

-- the last six bits of groups by the disparity after them, and the first six by that in front:
-- which numbers there are, as the ones of a number
ends_at : Disparity → ℕ
ends_at Negative = 1618506912036689780
ends_at Positive = 3380072915157937768

begins_at : Disparity → ℕ
begins_at Negative = 540008542357743616
begins_at Positive = 6499754791829216

has_bit : ℕ → ℕ → Bool
has_bit mask bit = mask / 2 ^ bit % 2 == 1

-- a comma within the first group, from its second bit on
inner_test : Disparity → Char → Bool
inner_test before c =
    (number_of c == 508)
    || (not (is_comma (ten_bits_at 1 (group_of before c) 0))
    && (not (is_comma (ten_bits_at 2 (group_of before c) 0))
    && not (is_comma (ten_bits_at 3 (group_of before c) 0))))

all_inner : (before : Disparity) → every 512 (passes (inner_test before)) ≡ true
unfolding inner_test
all_inner Negative = refl
all_inner Positive = refl

end_test : Disparity → Char → Bool
end_test before c =
    (number_of c == 508) || has_bit (ends_at (disparity_after before c)) (group_of before c % 64)

all_ends : (before : Disparity) → every 512 (passes (end_test before)) ≡ true
unfolding end_test has_bit ends_at
all_ends Negative = refl
all_ends Positive = refl

first_test : Disparity → Char → Bool
first_test before c = has_bit (begins_at before) (group_of before c / 16)

all_firsts : (before : Disparity) → every 512 (passes (first_test before)) ≡ true
unfolding first_test has_bit begins_at
all_firsts Negative = refl
all_firsts Positive = refl

-- six bits, six bits after them, and a comma across
across : ℕ → ℕ → ℕ → Bool
across tail head place = not (is_comma (ten_bits_at (4 + place) tail (head * 16)))

pair_test : Disparity → ℕ → ℕ → Bool
pair_test between tail head =
    not (has_bit (ends_at between) tail && has_bit (begins_at between) head)
    || every 6 (across tail head)

row_test : Disparity → ℕ → Bool
row_test between tail = every 64 (pair_test between tail)

all_pairs : (between : Disparity) → every 64 (row_test between) ≡ true
unfolding row_test pair_test across has_bit ends_at begins_at
all_pairs Negative = refl
all_pairs Positive = refl

second : (a b : Bool) → a ≡ true → (not a || b) ≡ true → b ≡ true
second true b h e = e
second false b h e = absurd (true≢false (sym h))

both : (a b : Bool) → a ≡ true → b ≡ true → (a && b) ≡ true
both true true h k = refl
both true false h k = absurd (true≢false (sym k))
both false b h k = absurd (true≢false (sym h))

no_pair : (between : Disparity) (tail head place : ℕ) → tail < 64 → head < 64 → place < 6
    → has_bit (ends_at between) tail ≡ true → has_bit (begins_at between) head ≡ true
    → is_comma (ten_bits_at (4 + place) tail (head * 16)) ≡ false
unfolding row_test pair_test across
no_pair between tail head place low below few ends begins =
    let row : every 64 (pair_test between tail) ≡ true =
    every_at 64 (row_test between) tail (all_pairs between) low in
    let pair : pair_test between tail head ≡ true =
    every_at 64 (pair_test between tail) head row below in
    let all : every 6 (across tail head) ≡ true =
    second (has_bit (ends_at between) tail && has_bit (begins_at between) head) _
    (both _ _ ends begins) pair in
    not-true _ (every_at 6 (across tail head) place all few)

not_number : (c : Char) → has_group c ≡ true → c ≢ Special 0xfc → (number_of c == 508) ≡ false
not_number c h ne =
    elim (cases_Bool (number_of c == 508)) [
      | inl e ↦ absurd (ne (sym (char_at-number c h) ∙ ap char_at (eqb-true _ _ e)))
      | inr e ↦ e
    ]

other_side : (a b : Bool) → a ≡ false → (a || b) ≡ true → b ≡ true
other_side false b h e = e
other_side true b h e = absurd (true≢false h)

ends_so : (before : Disparity) (c : Char) → has_group c ≡ true → c ≢ Special 0xfc
    → has_bit (ends_at (disparity_after before c)) (group_of before c % 64) ≡ true
unfolding end_test
ends_so before c h ne =
    other_side (number_of c == 508) _ (not_number c h ne)
    (character_test (end_test before) (all_ends before) c h)

begins_so : (before : Disparity) (c : Char) → has_group c ≡ true
    → has_bit (begins_at before) (group_of before c / 16) ≡ true
unfolding first_test
begins_so before c h = character_test (first_test before) (all_firsts before) c h

Inner : Disparity → Char → Type 0
Inner before c =
    (is_comma (ten_bits_at 1 (group_of before c) 0) ≡ false)
    × (is_comma (ten_bits_at 2 (group_of before c) 0) ≡ false)
    × (is_comma (ten_bits_at 3 (group_of before c) 0) ≡ false)

inner_so : (before : Disparity) (c : Char) → has_group c ≡ true → c ≢ Special 0xfc
    → Inner before c
unfolding inner_test Inner
inner_so before c h ne =
    let whole = other_side (number_of c == 508)
    (not (is_comma (ten_bits_at 1 (group_of before c) 0))
    && (not (is_comma (ten_bits_at 2 (group_of before c) 0))
    && not (is_comma (ten_bits_at 3 (group_of before c) 0)))) (not_number c h ne)
    (character_test (inner_test before) (all_inner before) c h) in
    let one = and_parts _ _ whole in
    let two = and_parts _ _ one.1 in
    (not-true _ one.0, not-true _ two.0, not-true _ two.1)

-- ten bits
range_test : Disparity → Char → Bool
range_test before c = nat_lt 0 (group_of before c) && nat_lt (group_of before c) 1024

all_ranges : (before : Disparity) → every 512 (passes (range_test before)) ≡ true
unfolding range_test
all_ranges Negative = refl
all_ranges Positive = refl

pub group-range : (before : Disparity) (c : Char) → has_group c ≡ true
    → (0 < group_of before c) × (group_of before c < 1024)
unfolding range_test
group-range before c h =
    let parts = and_parts _ _ (character_test (range_test before) (all_ranges before) c h) in
    (ltb-true _ _ parts.0, ltb-true _ _ parts.1)

-- the seven bits from a place on
seven_1 : (g h : ℕ) → h < 1024 → ten_bits_at 1 g h / 8 ≡ ten_bits_at 1 g 0 / 8
seven_1 g h low = omega arith

seven_2 : (g h : ℕ) → h < 1024 → ten_bits_at 2 g h / 8 ≡ ten_bits_at 2 g 0 / 8
seven_2 g h low = omega arith

seven_3 : (g h : ℕ) → h < 1024 → ten_bits_at 3 g h / 8 ≡ ten_bits_at 3 g 0 / 8
seven_3 g h low = omega arith

seven_4 : (g h : ℕ) → ten_bits_at 4 g h / 8 ≡ ten_bits_at 4 (g % 64) (h / 16 * 16) / 8
seven_4 g h = omega arith

seven_5 : (g h : ℕ) → ten_bits_at 5 g h / 8 ≡ ten_bits_at 5 (g % 64) (h / 16 * 16) / 8
seven_5 g h = omega arith

seven_6 : (g h : ℕ) → ten_bits_at 6 g h / 8 ≡ ten_bits_at 6 (g % 64) (h / 16 * 16) / 8
seven_6 g h = omega arith

seven_7 : (g h : ℕ) → ten_bits_at 7 g h / 8 ≡ ten_bits_at 7 (g % 64) (h / 16 * 16) / 8
seven_7 g h = omega arith

seven_8 : (g h : ℕ) → ten_bits_at 8 g h / 8 ≡ ten_bits_at 8 (g % 64) (h / 16 * 16) / 8
seven_8 g h = omega arith

seven_9 : (g h : ℕ) → ten_bits_at 9 g h / 8 ≡ ten_bits_at 9 (g % 64) (h / 16 * 16) / 8
seven_9 g h = omega arith

comma_of : ℕ → Bool
comma_of seven = (seven == 0b0011111) || (seven == 0b1100000)

so : (w v : ℕ) → w / 8 ≡ v / 8 → is_comma v ≡ false → is_comma w ≡ false
unfolding comma_of
so w v e h = ap comma_of e ∙ h

nine : (P : ℕ → Type 0) → P 1 → P 2 → P 3 → P 4 → P 5 → P 6 → P 7 → P 8 → P 9 → (n : ℕ) → 1 ≤ n
    → n < 10 → P n
nine P a b c d e f g h i zero low high = absurd (omega arith)
nine P a b c d e f g h i (suc zero) low high = a
nine P a b c d e f g h i (suc (suc zero)) low high = b
nine P a b c d e f g h i (suc (suc (suc zero))) low high = c
nine P a b c d e f g h i (suc (suc (suc (suc zero)))) low high = d
nine P a b c d e f g h i (suc (suc (suc (suc (suc zero))))) low high = e
nine P a b c d e f g h i (suc (suc (suc (suc (suc (suc zero)))))) low high = f
nine P a b c d e f g h i (suc (suc (suc (suc (suc (suc (suc zero))))))) low high = g
nine P a b c d e f g h i (suc (suc (suc (suc (suc (suc (suc (suc zero)))))))) low high = h
nine P a b c d e f g h i (suc (suc (suc (suc (suc (suc (suc (suc (suc zero))))))))) low high = i
nine P a b c d e f g h i (suc (suc (suc (suc (suc (suc (suc (suc (suc (suc n)))))))))) low high =
    absurd (omega arith)

pub no_comma_across : (before : Disparity) (c d : Char) (place : ℕ) → has_group c ≡ true
    → has_group d ≡ true → c ≢ Special 0xfc → 1 ≤ place → place < 10
    → is_comma (ten_bits_at place (group_of before c) (group_of (disparity_after before c) d))
    ≡ false
unfolding Inner
no_comma_across before c d place hc hd ne least most =
    let g : ℕ = group_of before c in
    let h : ℕ = group_of (disparity_after before c) d in
    let tail : g % 64 < 64 = omega arith in
    let high : h < 1024 = (group-range (disparity_after before c) d hd).1 in
    let head : h / 16 < 64 = omega arith in
    let ends = ends_so before c hc ne in
    let begins = begins_so (disparity_after before c) d hd in
    let inner = inner_so before c hc ne in
    let pair : (place : ℕ) → place < 6
    → is_comma (ten_bits_at (4 + place) (g % 64) (h / 16 * 16)) ≡ false =
    λ p few. no_pair (disparity_after before c) (g % 64) (h / 16) p tail head few ends begins in
    nine (λ p. is_comma (ten_bits_at p g h) ≡ false)
    (so _ _ (seven_1 g h high) inner.0)
    (so _ _ (seven_2 g h high) inner.1)
    (so _ _ (seven_3 g h high) inner.2)
    (so _ _ (seven_4 g h) (pair 0 (omega arith)))
    (so _ _ (seven_5 g h) (pair 1 (omega arith)))
    (so _ _ (seven_6 g h) (pair 2 (omega arith)))
    (so _ _ (seven_7 g h) (pair 3 (omega arith)))
    (so _ _ (seven_8 g h) (pair 4 (omega arith)))
    (so _ _ (seven_9 g h) (pair 5 (omega arith)))
    place least most

pub none_seen : (before : Disparity) (chars : List Char) (place : ℕ) → HaveGroups chars
    → NoneOfK28_7 chars → 1 ≤ place → place < 10
    → NoComma (ten_bits_from place (groups_from before chars))
none_seen before [] place has none least most = tt
none_seen before (c ∷ []) place has none least most = tt
none_seen before (c ∷ d ∷ chars) place has none least most = (
  no_comma_across before c d place has.0 has.1.0 none.0 least most,
  none_seen (disparity_after before c) (d ∷ chars) place has.1 none.1 least most,
)
