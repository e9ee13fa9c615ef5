-- Long division of a list of bits by a polynomial, whose coefficients are bits too: sums are
-- without carry.
use Rattle.std.specs.Prelude.{ℕ, zero, suc, ◌+◌, ◌-◌, if◌then◌else◌, Bool, true, false, not, List, [], ◌∷◌, length, drop}

-- the sum of two bits
abbrev pub bit_sum : Bool → Bool → Bool
bit_sum false b = b
bit_sum true b = not b

-- the second list, with the first added to it bit by bit at its front
abbrev pub added : List Bool → List Bool → List Bool
added xs [] = []
added [] (b ∷ bs) = b ∷ bs
added (x ∷ xs) (b ∷ bs) = bit_sum x b ∷ added xs bs

-- one step: where the first bit is 1 the divisor is added at the front; then the first bit goes
abbrev pub division_step : List Bool → List Bool → List Bool
division_step divisor [] = []
division_step divisor (b ∷ bs) = drop 1 (if b then added divisor (b ∷ bs) else (b ∷ bs))

-- that many steps
unfoldable pub division_steps : ℕ → List Bool → List Bool → List Bool
division_steps zero divisor bs = bs
division_steps (suc count) divisor bs = division_steps count divisor (division_step divisor bs)

-- what is left once the list is shorter than the divisor
abbrev pub remainder : List Bool → List Bool → List Bool
remainder bs divisor = division_steps (length bs + 1 - length divisor) divisor bs

-- a list of bits with its first `count` ones turned over
unfoldable pub complemented : ℕ → List Bool → List Bool
complemented zero bs = bs
complemented (suc count) [] = []
complemented (suc count) (b ∷ bs) = not b ∷ complemented count bs
