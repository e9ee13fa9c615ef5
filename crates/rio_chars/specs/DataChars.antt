-- Data characters, and the bytes of characters.
use Rattle.std.specs.Prelude.{ℕ, Bool, true, false}
use Rattle.rio_chars.specs.declared.chars.Char.{Char}
use Rattle.rio_chars.specs.declared.chars.Char.TheVariants.{Data, Special, Invalid}

-- whether a character is data
abbrev pub is_data_char : Char → Bool
is_data_char (Data byte) = true
is_data_char (Special byte) = false
is_data_char Invalid = false

-- the byte of a character, and 0 of one that has none
abbrev pub byte_of_char : Char → ℕ
byte_of_char (Data byte) = byte
byte_of_char (Special byte) = byte
byte_of_char Invalid = 0
