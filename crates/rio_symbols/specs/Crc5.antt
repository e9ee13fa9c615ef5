-- The CRC of a control symbol: the polynomial and the preset are the standard's, the bit that is
-- added to the nineteen is this project's profile.
use Rattle.std.specs.Prelude.{ℕ, Bool, true, false, List, [], ◌∷◌, ◌++◌, replicate}
use Rattle.crc_division.specs.Bits.{bits, number}
use Rattle.crc_division.specs.Division.{remainder, complemented}
use Rattle.rio_symbols.specs.Fields.{Fields}

-- x^5 + x^4 + x^2 + 1
abbrev pub crc5_divisor : List Bool
crc5_divisor = true ∷ true ∷ false ∷ true ∷ false ∷ true ∷ []

-- the nineteen bits of the fields, in the order in which they are sent
unfoldable pub field_bits : Fields → List Bool
field_bits symbol =
    bits 3 symbol.s0
    ++ (bits 5 symbol.p0 ++ (bits 5 symbol.p1 ++ (bits 3 symbol.s1 ++ bits 3 symbol.cmd)))

-- what is divided: the nineteen bits and a 0, the first five turned over, and then five 0 bits
unfoldable pub crc5_message : Fields → List Bool
crc5_message symbol =
    complemented 5 (field_bits symbol ++ false ∷ []) ++ false ∷ false ∷ false ∷ false ∷ false ∷ []

-- the CRC, five bits
unfoldable pub crc5_of : Fields → List Bool
crc5_of symbol = remainder (crc5_message symbol) crc5_divisor

-- the CRC as a number
unfoldable pub crc5_value : Fields → ℕ
crc5_value symbol = number (crc5_of symbol)

-- the remainder of a number's five bits and five 0 bits behind them, as a number
abbrev pub crc5_entry : ℕ → ℕ
crc5_entry five = number (remainder (bits 5 five ++ replicate 5 false) crc5_divisor)
