-- The last bits that were read, as a number.
use Rattle.std.proofs.Common.{◌≡◌, ℕ, ◌+◌, ◌*◌, ◌/◌, ◌%◌, ◌<◌, ◌≤◌, nat_lt, nat_le, ◌==◌, ◌&&◌, ◌||◌, if◌then◌else◌, Bool, true, false, refl, sym, ap, ◌∙◌, arith}
use Rattle.std.proofs.lemmas.Bool.{le-leb, ltb-true}
use Rattle.code_groups.specs.Commas.{is_comma, ten_bits_at}
use Rattle.lane_bits.specs.Aligning.{with_bit, nine_kept, ends_comma}

and_false : (b : Bool) → (b && false) ≡ false
and_false true = refl
and_false false = refl

-- whether seven bits are a comma
abbrev pub is_seven : ℕ → Bool
is_seven n = (n == 0b0011111) || (n == 0b1100000)

pub no_comma_here : (word w : ℕ) → word % 128 ≡ w / 8 → is_comma w ≡ false
    → ends_comma word ≡ false
no_comma_here word w same none =
    ap (λ (n : ℕ). nat_le 128 word && is_seven n) same
    ∙ ap (λ (b : Bool). nat_le 128 word && b) none
    ∙ and_false (nat_le 128 word)

pub comma_here : (word w : ℕ) → 128 ≤ word → word % 128 ≡ w / 8 → is_comma w ≡ true
    → ends_comma word ≡ true
comma_here word w many same one =
    ap (λ (b : Bool). b && is_seven (word % 128)) (le-leb 128 word many)
    ∙ ap is_seven same ∙ one

-- what is kept has the same last nine bits
kept_so : (few : Bool) (word : ℕ) → (if few then word else 512 + word % 512) % 512 ≡ word % 512
kept_so true word = refl
kept_so false word = omega arith

pub kept_low : (word : ℕ) → nine_kept word % 512 ≡ word % 512
kept_low word = kept_so (nat_lt word 1024) word

small_so : (few : Bool) (word : ℕ) → nat_lt word 1024 ≡ few
    → (if few then word else 512 + word % 512) < 1024
small_so true word e = ltb-true word 1024 e
small_so false word e = omega arith

pub kept_small : (word : ℕ) → nine_kept word < 1024
kept_small word = small_so (nat_lt word 1024) word refl

-- one bit more is kept, up to nine
many_so : (few : Bool) (word least : ℕ) → least ≤ word → least ≤ 512
    → least ≤ (if few then word else 512 + word % 512)
many_so true word least h k = h
many_so false word least h k = omega arith

pub kept_many : (word least : ℕ) → least ≤ word → least ≤ 512 → least ≤ nine_kept word
kept_many word least h k = many_so (nat_lt word 1024) word least h k

pub next_64 : (recent x bit : ℕ) → recent % 64 ≡ x % 64
    → nine_kept (with_bit recent bit) % 64 ≡ (2 * x + bit) % 64
next_64 recent x bit same =
    let low = kept_low (with_bit recent bit) in
    omega (arith, low, same)

pub word_128 : (recent x bit : ℕ) → recent % 64 ≡ x % 64
    → with_bit recent bit % 128 ≡ (2 * x + bit) % 128
word_128 recent x bit same = omega (arith, same)

pub kept_128 : (word : ℕ) → nine_kept word % 128 ≡ word % 128
kept_128 word = let low = kept_low word in omega (arith, low)

pub next_256 : (recent x bit : ℕ) → recent % 128 ≡ x
    → nine_kept (with_bit recent bit) % 256 ≡ (2 * x + bit) % 256
next_256 recent x bit same =
    let low = kept_low (with_bit recent bit) in
    omega (arith, low, same)

pub next_512 : (recent x bit : ℕ) → recent % 256 ≡ x
    → nine_kept (with_bit recent bit) % 512 ≡ (2 * x + bit) % 512
next_512 recent x bit same =
    let low = kept_low (with_bit recent bit) in
    omega (arith, low, same)

pub word_1024 : (recent x bit : ℕ) → recent % 512 ≡ x → bit < 2
    → with_bit recent bit % 1024 ≡ (2 * x + bit) % 1024
word_1024 recent x bit same low = omega (arith, same, low)
