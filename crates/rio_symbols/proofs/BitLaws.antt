-- Bits of remainders and of numbers cut in two.
use Rattle.std.proofs.Common.{◌≡◌, ℕ, zero, suc, ◌+◌, ◌/◌, ◌%◌, ◌^◌, ◌≤◌, Bool, List, ◌++◌, refl, sym, ◌∙◌, ap}
use Rattle.std.proofs.lemmas.Nat.{pow_pos, mod_below, shr_split}
use Rattle.crc_division.specs.Bits.{bits}
use Rattle.crc_division.proofs.BitsLaws.{bits_low, bits_cat}

-- the low bits of a number are those of its remainder
pub bits-mod : (width k n : ℕ) → width ≤ k → bits width (n % 2 ^ k) ≡ bits width n
bits-mod width k n h =
    sym (bits_low width k (n / 2 ^ k) (n % 2 ^ k) h) ∙ ap (bits width) (shr_split n k)

-- a number cut in two
pub halves : (high low n width : ℕ) → width ≡ high + low
    → bits width n ≡ bits high (n / 2 ^ low) ++ bits low (n % 2 ^ low)
halves high low n width e =
    ap (bits width) (sym (shr_split n low))
    ∙ bits_cat high low (n / 2 ^ low) (n % 2 ^ low) width e (mod_below n (2 ^ low) (pow_pos low))

-- two lists that begin with as many bits
pub bits-cancel : (width x y : ℕ) (xs ys : List Bool) → bits width x ++ xs ≡ bits width y ++ ys
    → (bits width x ≡ bits width y) × (xs ≡ ys)
unfolding bits
bits-cancel zero x y xs ys e = (refl, e)
bits-cancel (suc width) x y xs ys e =
    let rest : bits width x ++ xs ≡ bits width y ++ ys = cc in
    let both : (bits width x ≡ bits width y) × (xs ≡ ys) = bits-cancel width x y xs ys rest in
    let front : bits width x ≡ bits width y = both.0 in
    (cc, both.1)
