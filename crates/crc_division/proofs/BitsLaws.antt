-- Laws of fields of bits.
use Rattle.std.proofs.Common.{◌≡◌, ℕ, zero, suc, ◌+◌, ◌-◌, ◌*◌, ◌%◌, ◌^◌, ◌<◌, ◌≤◌, ◌==◌, Bool, false, List, [], ◌∷◌, ◌++◌, length, replicate, refl, sym, ap, ◌∙◌, subst, inl, inr, arith, bit_xor, eq-or-lt_of_le, true, cond, eqb}
use Rattle.std.proofs.Math.Nat.{pow-suc}
use Rattle.std.specs.Int.{bit_at}
use Rattle.std.proofs.lemmas.Nat.{mod-pow-add}
use Rattle.std.proofs.lemmas.Nat.Bits.{bit_at-lt, bit_at-zero, bit_at_xor, bit_at_cat_low, bit_at_cat_high, same_from_bits_below}
use Rattle.crc_division.specs.Bits.{bits, number}
use Rattle.crc_division.specs.Division.{bit_sum, added}

-- one bit more at the front
pub bits-suc : (w n : ℕ) → bits (suc w) n ≡ (bit_at n w == 1) ∷ bits w n
unfolding bits
bits-suc w n = refl

pub bits-zero : (n : ℕ) → bits 0 n ≡ []
unfolding bits
bits-zero n = refl

pub length-bits : (w n : ℕ) → length (bits w n) ≡ w
unfolding bits
length-bits zero n = refl
length-bits (suc w) n = ap (λ k. suc k) (length-bits w n)

-- the low bits of a number are those of its low part
pub bits_low : (w k a b : ℕ) → w ≤ k → bits w (a * 2 ^ k + b) ≡ bits w b
unfolding bits
bits_low zero k a b h = refl
bits_low (suc w) k a b h =
    let low : bit_at (a * 2 ^ k + b) w ≡ bit_at b w = bit_at_cat_low a k b w (omega arith) in
    let rest : bits w (a * 2 ^ k + b) ≡ bits w b = bits_low w k a b (omega arith) in
    ap (λ t. (t == 1) ∷ bits w (a * 2 ^ k + b)) low ∙ ap (λ t. (bit_at b w == 1) ∷ t) rest

-- two fields side by side
pub bits_cat : (j k a b n : ℕ) → n ≡ j + k → b < 2 ^ k → bits n (a * 2 ^ k + b) ≡ bits j a
    ++ bits k b
bits_cat zero k a b n e h =
    let same : n ≡ k = omega arith in
    rw (same, bits-zero) (bits_low k k a b (omega arith))
bits_cat (suc j) k a b n e h =
    let same : n ≡ suc (j + k) = omega arith in
    let back : j + k - k ≡ j = omega arith in
    let high : bit_at (a * 2 ^ k + b) (j + k) ≡ bit_at a (j + k - k) =
    bit_at_cat_high a k b (j + k) h (omega arith) in
    let rest : bits (j + k) (a * 2 ^ k + b) ≡ bits j a ++ bits k b =
    bits_cat j k a b (j + k) refl h in
    rw same (bits-suc (j + k) _
    ∙ ap (λ t. (t == 1) ∷ bits (j + k) (a * 2 ^ k + b)) (high ∙ ap (bit_at a) back)
    ∙ ap (λ t. (bit_at a j == 1) ∷ t) rest
    ∙ ap (λ t. t ++ bits k b) (sym (bits-suc j a)))

bit_sum-tests : (x y : ℕ) → x < 2 → y < 2 → bit_sum (x == 1) (y == 1) ≡ ((x + y) % 2 == 1)
bit_sum-tests zero zero h k = refl
bit_sum-tests zero (suc zero) h k = refl
bit_sum-tests zero (suc (suc y)) h k = absurd (omega arith)
bit_sum-tests (suc zero) zero h k = refl
bit_sum-tests (suc zero) (suc zero) h k = refl
bit_sum-tests (suc zero) (suc (suc y)) h k = absurd (omega arith)
bit_sum-tests (suc (suc x)) y h k = absurd (omega arith)

-- to add fields of bits is to xor the numbers
pub bits_xor : (w a b : ℕ) → bits w (bit_xor a b) ≡ added (bits w a) (bits w b)
unfolding bits
bits_xor zero a b = refl
bits_xor (suc w) a b =
    let here : (bit_at (bit_xor a b) w == 1) ≡ bit_sum (bit_at a w == 1) (bit_at b w == 1) =
    ap (λ t. t == 1) (bit_at_xor a b w)
    ∙ sym (bit_sum-tests (bit_at a w) (bit_at b w) (bit_at-lt a w) (bit_at-lt b w)) in
    ap (λ t. t ∷ bits w (bit_xor a b)) here
    ∙ ap (λ t. bit_sum (bit_at a w == 1) (bit_at b w == 1) ∷ t) (bits_xor w a b)

-- a field of zero bits
pub bits_of_zero : (w : ℕ) → bits w 0 ≡ replicate w false
unfolding bits
bits_of_zero zero = refl
bits_of_zero (suc w) =
    ap (λ t. (t == 1) ∷ bits w 0) (bit_at-zero w) ∙ ap (λ t. false ∷ t) (bits_of_zero w)

same_by_test : (x y : ℕ) → x < 2 → y < 2 → (x == 1) ≡ (y == 1) → x ≡ y
same_by_test zero zero h k e = refl
same_by_test zero (suc zero) h k e = cc
same_by_test zero (suc (suc y)) h k e = absurd (omega arith)
same_by_test (suc zero) zero h k e = cc
same_by_test (suc zero) (suc zero) h k e = refl
same_by_test (suc zero) (suc (suc y)) h k e = absurd (omega arith)
same_by_test (suc (suc x)) y h k e = absurd (omega arith)

heads : (x y : Bool) (xs ys : List Bool) → x ∷ xs ≡ y ∷ ys → x ≡ y
heads x y xs ys e = cc

tails : (x y : Bool) (xs ys : List Bool) → x ∷ xs ≡ y ∷ ys → xs ≡ ys
tails x y xs ys e = cc

same_bit : (w a b : ℕ) → bits w a ≡ bits w b → (i : ℕ) → i < w → bit_at a i ≡ bit_at b i
unfolding bits
same_bit zero a b e i h = absurd (omega arith)
same_bit (suc w) a b e i h =
    let within : i ≤ w = omega arith in
    elim (eq-or-lt_of_le within) [
      | inl at ↦ subst (λ (k : ℕ). bit_at a k ≡ bit_at b k) (sym at)
          (same_by_test _ _ (bit_at-lt a w) (bit_at-lt b w) (heads _ _ _ _ e))
      | inr below ↦ same_bit w a b (tails _ _ _ _ e) i below
    ]

-- numbers that fit the field and have the same bits are equal
pub same_by_bits : (w a b : ℕ) → a < 2 ^ w → b < 2 ^ w → bits w a ≡ bits w b → a ≡ b
same_by_bits w a b h k e = same_from_bits_below w a b h k (same_bit w a b e)

-- the bit and what is below it
bit_value : (b : ℕ) (p : ℕ) → b < 2 → cond (eqb b 1) p 0 ≡ b * p
bit_value zero p h = omega arith
bit_value (suc zero) p h = omega arith
bit_value (suc (suc b)) p h = absurd (omega arith)

-- a number is spelled by its bits
pub number-bits : (width n : ℕ) → number (bits width n) ≡ n % 2 ^ width
unfolding bits number
number-bits zero n = omega arith
number-bits (suc width) n =
    let rest : number (bits width n) ≡ n % 2 ^ width = number-bits width n in
    let size : length (bits width n) ≡ width = length-bits width n in
    rw (size, rest)
    (ap (λ v. v + n % 2 ^ width) (bit_value (bit_at n width) (2 ^ width) (bit_at-lt n width))
    ∙ sym (mod-pow-add n 1 width) ∙ ap (λ w. n % 2 ^ w) (let same : 1 + width ≡ suc width = omega
    arith in same))

-- it is below the power of 2 that its length gives
pub number-lt : (bs : List Bool) → number bs < 2 ^ length bs
unfolding number
number-lt [] = omega arith
number-lt (true ∷ bs) = omega (arith, number-lt bs, pow-suc 2 (length bs))
number-lt (false ∷ bs) = omega (arith, number-lt bs, pow-suc 2 (length bs))

-- a list of bits is read back from its number
pub bits-number : (bs : List Bool) → bits (length bs) (number bs) ≡ bs
unfolding bits number
bits-number [] = refl
bits-number (true ∷ bs) =
    let size : suc (length bs) ≡ 1 + length bs = omega arith in
    ap (bits (suc (length bs))) (let same : 2 ^ length bs + number bs ≡ 1 * 2 ^ length bs + number
    bs = omega arith in same)
    ∙ bits_cat 1 (length bs) 1 (number bs) (suc (length bs)) size (number-lt bs)
    ∙ ap (λ rest. true ∷ rest) (bits-number bs)
bits-number (false ∷ bs) =
    let size : suc (length bs) ≡ 1 + length bs = omega arith in
    ap (bits (suc (length bs))) (let same : 0 + number bs ≡ 0 * 2 ^ length bs + number bs = omega
    arith in same)
    ∙ bits_cat 1 (length bs) 0 (number bs) (suc (length bs)) size (number-lt bs)
    ∙ ap (λ rest. false ∷ rest) (bits-number bs)
