-- Numbers as lists of bits, the most significant bit first.
use Rattle.std.specs.Prelude.{ℕ, zero, suc, ◌+◌, ◌^◌, ◌==◌, if◌then◌else◌, Bool, List, [], ◌∷◌, length}
use Rattle.std.specs.Int.{bit_at}
use Rattle.std.specs.List.{flat_map}

-- a number as a field of this many bits; of a larger number these are its low bits
unfoldable pub bits : ℕ → ℕ → List Bool
bits zero n = []
bits (suc width) n = (bit_at n width == 1) ∷ bits width n

-- bytes as one list of bits
abbrev pub bits_of : List ℕ → List Bool
bits_of bytes = flat_map (bits 8) bytes

-- the number that a list of bits spells
unfoldable pub number : List Bool → ℕ
number [] = 0
number (b ∷ bs) = (if b then 2 ^ length bs else 0) + number bs
