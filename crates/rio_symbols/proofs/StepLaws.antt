-- Steps of the register of a symbol's CRC: two registers that are apart stay so over the same five
-- bits, and two pieces that are apart lead one register apart.
use Rattle.std.proofs.Common.{◌≡◌, ◌≢◌, ℕ, zero, suc, ◌+◌, ◌*◌, ◌/◌, ◌%◌, ◌^◌, ◌<◌, ◌⊎◌, Bool, true, not, ◌&&◌, ◌||◌, ◌==◌, get_or, bit_xor, refl, sym, ap, ◌∙◌, subst, inl, inr, arith}
use Rattle.std.proofs.lemmas.Bool.{and_parts, or_cases, eqb-true, eqb-false, not-true, cases_lt, cases_eq, ltb-true}
use Rattle.std.proofs.lemmas.Nat.{xor_lt}
use Rattle.rio_symbols.specs.declared.crc.TheConstants.{CRC5_TABLE}
use Rattle.rio_symbols.specs.Fields.{InRange}
use Rattle.rio_symbols.specs.Crc5.{crc5_entry, crc5_value}
use Rattle.rio_symbols.specs.Spelling.{fields_at, is_spelling}
use Rattle.rio_symbols.proofs.CrcLaws.{entry_remainder, crc5_entry-lt, crc5_of-table, crc5_value-of_bits, bits-fields}

abbrev pub every : ℕ → (ℕ → Bool) → Bool
every zero test = true
every (suc n) test = test n && every n test

every_at : (n : ℕ) (test : ℕ → Bool) (i : ℕ) → every n test ≡ true → i < n → test i ≡ true
every_at zero test i all h = absurd (omega arith)
every_at (suc n) test i all h =
    let parts = and_parts (test n) (every n test) all in
    elim (cases_lt i n) [
      | inl less ↦ every_at n test i parts.1 less
      | inr more ↦ let same : n ≡ i = omega arith in subst (λ k. test k ≡ true) same parts.0
    ]

-- the register after five bits more, by the table
abbrev pub after : ℕ → ℕ → ℕ
after register five = get_or CRC5_TABLE (bit_xor register five) 0

-- if two are not one, two others are not one
pub apart : ℕ → ℕ → ℕ → ℕ → Bool
apart a b x y = (a == b) || not (x == y)

apart_at : (a b x y : ℕ) → apart a b x y ≡ true → a ≢ b → x ≢ y
unfolding apart
apart_at a b x y h ne e =
    elim (or_cases (a == b) (not (x == y)) h) [
      | inl same ↦ ne (eqb-true a b same)
      | inr differ ↦ eqb-false x y (not-true (x == y) differ) e
    ]

-- two registers stay apart over the same five bits
keep_v : ℕ → ℕ → ℕ → Bool
keep_v r s v = apart r s (after r v) (after s v)

keep_s : ℕ → ℕ → Bool
keep_s r s = every 32 (keep_v r s)

keep_r : ℕ → Bool
keep_r r = every 32 (keep_s r)

all_keep : every 32 keep_r ≡ true
unfolding keep_r keep_s keep_v apart
all_keep = refl

pub kept : (r s v : ℕ) → r < 32 → s < 32 → v < 32 → r ≢ s → after r v ≢ after s v
unfolding keep_r keep_s keep_v
kept r s v hr hs hv ne =
    apart_at r s (after r v) (after s v)
    (every_at 32 (keep_v r s) v (every_at 32 (keep_s r) s (every_at 32 keep_r r all_keep hr) hs) hv)
    ne

-- five bits that are apart lead one register apart
lead_v : ℕ → ℕ → ℕ → Bool
lead_v r u v = apart u v (after r u) (after r v)

lead_u : ℕ → ℕ → Bool
lead_u r u = every 32 (lead_v r u)

lead_r : ℕ → Bool
lead_r r = every 32 (lead_u r)

all_lead : every 32 lead_r ≡ true
unfolding lead_r lead_u lead_v apart
all_lead = refl

pub led : (r u v : ℕ) → r < 32 → u < 32 → v < 32 → u ≢ v → after r u ≢ after r v
unfolding lead_r lead_u lead_v
led r u v hr hu hv ne =
    apart_at u v (after r u) (after r v)
    (every_at 32 (lead_v r u) v (every_at 32 (lead_u r) u (every_at 32 lead_r r all_lead hr) hu) hv)
    ne

-- the low five bits of the first byte stand in the first two steps
unfoldable pub first_two : ℕ → ℕ → ℕ → ℕ
first_two s p h = bit_xor (after 31 (s * 4 + p / 8)) (p % 8 * 4 + h)

one_h : ℕ → ℕ → ℕ → ℕ → Bool
one_h s p q h = apart p q (first_two s p h) (first_two s q h)

one_q : ℕ → ℕ → ℕ → Bool
one_q s p q = every 4 (one_h s p q)

one_p : ℕ → ℕ → Bool
one_p s p = every 32 (one_q s p)

one_s : ℕ → Bool
one_s s = every 32 (one_p s)

all_one : every 8 one_s ≡ true
unfolding one_s one_p one_q one_h first_two apart
all_one = refl

pub one_low : (s p q h : ℕ) → s < 8 → p < 32 → q < 32 → h < 4 → p ≢ q
    → first_two s p h ≢ first_two s q h
unfolding one_s one_p one_q one_h
one_low s p q h hs hp hq hh ne =
    apart_at p q (first_two s p h) (first_two s q h)
    (every_at 4 (one_h s p q) h (every_at 32 (one_q s p) q
    (every_at 32 (one_p s) p (every_at 8 one_s s all_one hs) hp) hq) hh) ne

-- the high three bits of the second byte stand in the second and the third
unfoldable pub second_third : ℕ → ℕ → ℕ → ℕ
second_third r h w = bit_xor (after r (h / 2)) (h % 2 * 16 + w)

two_w : ℕ → ℕ → ℕ → ℕ → Bool
two_w r h g w = apart h g (second_third r h w) (second_third r g w)

two_g : ℕ → ℕ → ℕ → Bool
two_g r h g = every 16 (two_w r h g)

two_h : ℕ → ℕ → Bool
two_h r h = every 8 (two_g r h)

two_r : ℕ → Bool
two_r r = every 8 (two_h r)

all_two : every 32 two_r ≡ true
unfolding two_r two_h two_g two_w second_third apart
all_two = refl

-- the low five bits of the second byte stand in the third and the fourth
unfoldable pub third_fourth : ℕ → ℕ → ℕ → ℕ
third_fourth r v k = bit_xor (after r (v / 2)) (v % 2 * 16 + k * 2)

three_k : ℕ → ℕ → ℕ → ℕ → Bool
three_k r u v k = apart u v (third_fourth r u k) (third_fourth r v k)

three_v : ℕ → ℕ → ℕ → Bool
three_v r u v = every 8 (three_k r u v)

three_u : ℕ → ℕ → Bool
three_u r u = every 32 (three_v r u)

three_r : ℕ → Bool
three_r r = every 32 (three_u r)

all_three : every 32 three_r ≡ true
unfolding three_r three_u three_v three_k third_fourth apart
all_three = refl

-- the table has each number once
once_v : ℕ → ℕ → Bool
once_v u v = apart u v (get_or CRC5_TABLE u 0) (get_or CRC5_TABLE v 0)

once_u : ℕ → Bool
once_u u = every 32 (once_v u)

all_once : every 32 once_u ≡ true
unfolding once_u once_v apart
all_once = refl

pub once : (u v : ℕ) → u < 32 → v < 32 → u ≢ v → get_or CRC5_TABLE u 0 ≢ get_or CRC5_TABLE v 0
unfolding once_u once_v
once u v hu hv ne =
    apart_at u v (get_or CRC5_TABLE u 0) (get_or CRC5_TABLE v 0)
    (every_at 32 (once_v u) v (every_at 32 once_u u all_once hu) hv) ne

-- five bits in two parts
part_three : ℕ → ℕ → ℕ → Bool
part_three r p q = bit_xor r (p * 4 + q) == bit_xor (bit_xor r (p * 4)) q

part_two : ℕ → ℕ → Bool
part_two r p = every 4 (part_three r p)

part_one : ℕ → Bool
part_one r = every 8 (part_two r)

all_parts : every 32 part_one ≡ true
unfolding part_one part_two part_three
all_parts = refl

pub in_parts : (r p q : ℕ) → r < 32 → p < 8 → q < 4
    → bit_xor r (p * 4 + q) ≡ bit_xor (bit_xor r (p * 4)) q
unfolding part_one part_two part_three
in_parts r p q hr hp hq =
    eqb-true _ _
    (every_at 4 (part_three r p) q
    (every_at 8 (part_two r) p (every_at 32 part_one r all_parts hr) hp)
    hq)

half_three : ℕ → ℕ → ℕ → Bool
half_three r t q = bit_xor r (t * 16 + q) == bit_xor (bit_xor r (t * 16)) q

half_two : ℕ → ℕ → Bool
half_two r t = every 16 (half_three r t)

half_one : ℕ → Bool
half_one r = every 2 (half_two r)

all_halves : every 32 half_one ≡ true
unfolding half_one half_two half_three
all_halves = refl

pub in_halves : (r t q : ℕ) → r < 32 → t < 2 → q < 16
    → bit_xor r (t * 16 + q) ≡ bit_xor (bit_xor r (t * 16)) q
unfolding half_one half_two half_three
in_halves r t q hr ht hq =
    eqb-true _ _
    (every_at 16 (half_three r t) q
    (every_at 2 (half_two r) t (every_at 32 half_one r all_halves hr) ht)
    hq)

pub two_high : (r h g w : ℕ) → r < 32 → h < 8 → g < 8 → w < 16 → h ≢ g
    → second_third r h w ≢ second_third r g w
unfolding two_r two_h two_g two_w
two_high r h g w hr hh hg hw ne =
    apart_at h g (second_third r h w) (second_third r g w)
    (every_at 16 (two_w r h g) w (every_at 8 (two_g r h) g
    (every_at 8 (two_h r) h (every_at 32 two_r r all_two hr) hh) hg) hw) ne

pub three_low : (r u v k : ℕ) → r < 32 → u < 32 → v < 32 → k < 8 → u ≢ v
    → third_fourth r u k ≢ third_fourth r v k
unfolding three_r three_u three_v three_k
three_low r u v k hr hu hv hk ne =
    apart_at u v (third_fourth r u k) (third_fourth r v k)
    (every_at 8 (three_k r u v) k (every_at 32 (three_v r u) v
    (every_at 32 (three_u r) u (every_at 32 three_r r all_three hr) hu) hv) hk) ne

-- what the steps leave is below 32
pub after-lt : (r v : ℕ) → r < 32 → v < 32 → after r v < 32
after-lt r v hr hv =
    let fits : bit_xor r v < 32 = xor_lt 5 r v hr hv in
    subst (λ n. n < 32) (sym (entry_remainder (bit_xor r v) fits)) (crc5_entry-lt (bit_xor r v))

pub entry_is : (r v m : ℕ) → r < 32 → v < 32 → v ≡ m → after r v ≡ crc5_entry (bit_xor r m)
entry_is r v m hr hv e =
    entry_remainder (bit_xor r v) (xor_lt 5 r v hr hv) ∙ ap (λ n. crc5_entry (bit_xor r n)) e

pub piece_one : (x y k n : ℕ) → x < 256 → y < 256 → k < 8 → n ≡ x * 2048 + y * 8 + k
    → x / 8 ≡ n * 2 / 2 ^ 15 % 32
piece_one x y k n hx hy hk e = omega arith

pub piece_two : (x y k n : ℕ) → x < 256 → y < 256 → k < 8 → n ≡ x * 2048 + y * 8 + k
    → x % 8 * 4 + y / 64 ≡ n * 2 / 2 ^ 10 % 32
piece_two x y k n hx hy hk e = omega arith

pub piece_three : (x y k n : ℕ) → x < 256 → y < 256 → k < 8 → n ≡ x * 2048 + y * 8 + k
    → y % 64 / 2 ≡ n * 2 / 2 ^ 5 % 32
piece_three x y k n hx hy hk e = omega arith

pub piece_four : (x y k n : ℕ) → x < 256 → y < 256 → k < 8 → n ≡ x * 2048 + y * 8 + k
    → y % 2 * 16 + k * 2 ≡ n * 2 / 2 ^ 0 % 32
piece_four x y k n hx hy hk e = omega arith
