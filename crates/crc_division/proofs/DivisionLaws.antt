-- Laws of sums without carry and of long division, over any polynomial.
use Rattle.std.proofs.Common.{◌≡◌, ℕ, zero, suc, ◌+◌, ◌-◌, ◌*◌, ◌^◌, ◌<◌, ◌≤◌, Bool, true, false, List, [], ◌∷◌, ◌++◌, length, replicate, refl, sym, ap, ◌∙◌, arith, bit_xor, length-drop}
use Rattle.std.specs.Int.{bit_at}
use Rattle.std.proofs.lemmas.Nat.Bits.{bit_at_above, bit_at_cat_high}
use Rattle.crc_division.specs.Bits.{bits}
use Rattle.crc_division.specs.Division.{bit_sum, added, division_step, division_steps, complemented}
use Rattle.crc_division.proofs.BitsLaws.{bits-suc, length-bits, bits_low, bits_cat, bits_xor, bits_of_zero}

bit_sum-bit_sum : (x y z : Bool) → bit_sum x (bit_sum y z) ≡ bit_sum (bit_sum y x) z
bit_sum-bit_sum false false z = refl
bit_sum-bit_sum false true z = refl
bit_sum-bit_sum true false z = refl
bit_sum-bit_sum true true false = refl
bit_sum-bit_sum true true true = refl

bit_sum_swap : (x y z : Bool) → bit_sum x (bit_sum y z) ≡ bit_sum y (bit_sum x z)
bit_sum_swap false false z = refl
bit_sum_swap false true z = refl
bit_sum_swap true false z = refl
bit_sum_swap true true z = refl

bit_sum-false : (x : Bool) → bit_sum x false ≡ x
bit_sum-false false = refl
bit_sum-false true = refl

pub added-nil : (bs : List Bool) → added [] bs ≡ bs
added-nil [] = refl
added-nil (b ∷ bs) = refl

pub length-added : (xs bs : List Bool) → length (added xs bs) ≡ length bs
length-added xs [] = refl
length-added [] (b ∷ bs) = refl
length-added (x ∷ xs) (b ∷ bs) = ap (λ n. suc n) (length-added xs bs)

-- two lists are added in either order
pub added_swap : (xs ys bs : List Bool) → added xs (added ys bs) ≡ added ys (added xs bs)
added_swap xs ys [] = refl
added_swap [] ys (b ∷ bs) = added-nil _
added_swap (x ∷ xs) [] (b ∷ bs) = refl
added_swap (x ∷ xs) (y ∷ ys) (b ∷ bs) =
    ap (λ t. t ∷ added xs (added ys bs)) (bit_sum_swap x y b)
    ∙ ap (λ t. bit_sum y (bit_sum x b) ∷ t) (added_swap xs ys bs)

-- or as their sum
pub added-added : (xs ys bs : List Bool) → length ys ≤ length xs → added xs (added ys bs)
    ≡ added (added ys xs) bs
added-added xs ys [] h = refl
added-added xs [] (b ∷ bs) h = rw added-nil refl
added-added [] (y ∷ ys) (b ∷ bs) h = absurd (omega arith)
added-added (x ∷ xs) (y ∷ ys) (b ∷ bs) h =
    ap (λ t. t ∷ added xs (added ys bs)) (bit_sum-bit_sum x y b)
    ∙ ap (λ t. bit_sum (bit_sum y x) b ∷ t) (added-added xs ys bs (omega arith))

-- zeros change nothing where they are added
pub added_zeros : (n : ℕ) (bs : List Bool) → added (replicate n false) bs ≡ bs
added_zeros zero bs = added-nil bs
added_zeros (suc n) [] = refl
added_zeros (suc n) (b ∷ bs) = ap (λ t. b ∷ t) (added_zeros n bs)

-- nor at the end of what is added
pub added_end_zeros : (n : ℕ) (xs bs : List Bool) → added (xs ++ replicate n false) bs ≡ added xs bs
added_end_zeros n xs [] = refl
added_end_zeros n [] (b ∷ bs) = added_zeros n (b ∷ bs)
added_end_zeros n (x ∷ xs) (b ∷ bs) = ap (λ t. bit_sum x b ∷ t) (added_end_zeros n xs bs)

-- what is added to zeros stands in their place
pub added_to_zeros : (xs bs : List Bool) (k : ℕ) → added (xs ++ replicate k false)
    (replicate (length xs) false ++ bs) ≡ xs ++ bs
added_to_zeros [] bs k = added_zeros k bs
added_to_zeros (x ∷ xs) bs k =
    ap (λ t. t ∷ added (xs ++ replicate k false) (replicate (length xs) false ++ bs))
    (bit_sum-false x)
    ∙ ap (λ t. x ∷ t) (added_to_zeros xs bs k)

-- to complement bits at the front is to add ones there
pub complemented-append : (n : ℕ) (xs bs : List Bool) → n ≤ length xs → complemented n xs ++ bs
    ≡ added (replicate n true) (xs ++ bs)
unfolding complemented
complemented-append zero xs bs h = sym (added-nil _)
complemented-append (suc n) [] bs h = absurd (omega arith)
complemented-append (suc n) (false ∷ xs) bs h =
    ap (λ t. true ∷ t) (complemented-append n xs bs (omega arith))
complemented-append (suc n) (true ∷ xs) bs h =
    ap (λ t. false ∷ t) (complemented-append n xs bs (omega arith))

-- steps one after another
pub division_steps-add : (m n k : ℕ) (divisor bs : List Bool) → k ≡ m + n
    → division_steps k divisor bs ≡ division_steps n divisor (division_steps m divisor bs)
unfolding division_steps
division_steps-add zero n k divisor bs e = let same : k ≡ n = omega arith in rw same refl
division_steps-add (suc m) n k divisor bs e =
    let same : k ≡ suc (m + n) = omega arith in
    rw same (division_steps-add m n (m + n) divisor (division_step divisor bs) refl)

-- A register in front of a 0 bit whose first bit is 0: its other bits move up.
pub division_step_low : (w r : ℕ) (rest bs : List Bool) → r < 2 ^ w
    → division_step (true ∷ rest) (added (bits (suc w) r) (false ∷ bs))
    ≡ added (bits (suc w) (r * 2)) bs
division_step_low w r rest bs h =
    let first : bit_at r w ≡ 0 = bit_at_above r w w h (omega arith) in
    let moved : bits (suc w) (r * 2 ^ 1 + 0) ≡ bits w r ++ bits 1 0 =
    bits_cat w 1 r 0 (suc w) (omega arith) (omega arith) in
    let doubled : r * 2 ^ 1 + 0 ≡ r * 2 = omega arith in
    rw (bits-suc w r, first)
    (sym (ap (λ n. added (bits (suc w) n) bs) (sym doubled)
    ∙ ap (λ t. added t bs) (moved ∙ ap (λ t. bits w r ++ t) (bits_of_zero 1))
    ∙ added_end_zeros 1 (bits w r) bs))

-- Where its first bit is 1 the divisor is added.
pub division_step_high : (w r p : ℕ) (bs : List Bool) → 2 ^ w ≤ r → r < 2 * 2 ^ w
    → division_step (true ∷ bits (suc w) p) (added (bits (suc w) r) (false ∷ bs))
    ≡ added (bits (suc w) (bit_xor ((r - 2 ^ w) * 2) p)) bs
division_step_high w r p bs low high =
    let s = r - 2 ^ w in
    let split : r ≡ 1 * 2 ^ w + s = omega arith in
    let below : s < 2 ^ w = omega arith in
    let none : w - w ≡ 0 = omega arith in
    let first : bit_at r w ≡ 1 = ap (λ n. bit_at n w) split
    ∙ bit_at_cat_high 1 w s w below (omega arith) ∙ ap (bit_at 1) none in
    let same : bits w r ≡ bits w s = ap (bits w) split ∙ bits_low w w 1 s (omega arith) in
    let moved : bits (suc w) (s * 2 ^ 1 + 0) ≡ bits w s ++ bits 1 0 =
    bits_cat w 1 s 0 (suc w) (omega arith) (omega arith) in
    let doubled : s * 2 ^ 1 + 0 ≡ s * 2 = omega arith in
    let shorter : length (bits w s) ≤ length (bits (suc w) p) =
    rw (length-bits w s, length-bits (suc w) p) (omega arith) in
    let step : division_step (true ∷ bits (suc w) p) (added (bits (suc w) r) (false ∷ bs))
    ≡ added (bits (suc w) p) (added (bits w s) bs) =
    rw (bits-suc w r, first, same) refl in
    let sum : added (added (bits w s) (bits (suc w) p)) bs
    ≡ added (bits (suc w) (bit_xor (s * 2) p)) bs =
    ap (λ t. added t bs) (sym (bits_xor (suc w) (s * 2) p
    ∙ ap (λ t. added t (bits (suc w) p))
    (ap (bits (suc w)) (sym doubled) ∙ moved ∙ ap (λ t. bits w s ++ t) (bits_of_zero 1))
    ∙ added_end_zeros 1 (bits w s) (bits (suc w) p))) in
    step ∙ added-added (bits (suc w) p) (bits w s) bs shorter ∙ sum

-- A register takes in the bits behind it, which leaves zeros in their place.
pub absorbed : (w r v k : ℕ) (xs bs : List Bool) → bits w v ≡ xs ++ replicate k false
    → added (bits w r) (xs ++ bs) ≡ added (bits w (bit_xor r v)) (replicate (length xs) false ++ bs)
absorbed w r v k xs bs e =
    let zeros = replicate (length xs) false ++ bs in
    let size : length (bits w r) ≤ length (bits w v) =
    rw (length-bits w r, length-bits w v) (omega arith) in
    let there : added (bits w v) zeros ≡ xs ++ bs = rw e (added_to_zeros xs bs k) in
    ap (added (bits w r)) (sym there)
    ∙ added_swap (bits w r) (bits w v) zeros
    ∙ added-added (bits w v) (bits w r) zeros size
    ∙ ap (λ t. added t zeros) (sym (bits_xor w r v))

-- a step takes one bit away
length-division_step : (divisor bs : List Bool) → length (division_step divisor bs) ≡ length bs - 1
length-division_step divisor [] = omega arith
length-division_step divisor (false ∷ bs) = omega arith
length-division_step divisor (true ∷ bs) = simp (length-drop, length-added) (omega arith)

-- and each further step one more
pub length-division_steps : (count : ℕ) (divisor bs : List Bool)
    → length (division_steps count divisor bs) ≡ length bs - count
unfolding division_steps
length-division_steps zero divisor bs = omega arith
length-division_steps (suc count) divisor bs =
    length-division_steps count divisor (division_step divisor bs)
    ∙ omega (arith, length-division_step divisor bs)

-- bits that are turned over are as many
pub length-complemented : (count : ℕ) (bs : List Bool) → length (complemented count bs) ≡ length bs
unfolding complemented
length-complemented zero bs = refl
length-complemented (suc count) [] = refl
length-complemented (suc count) (b ∷ bs) = ap suc (length-complemented count bs)
