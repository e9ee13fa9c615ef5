-- Characters as numbers: 0 to 255 is data, 256 to 511 is special, and any other number is no
-- character, as which 512 is written.
use Rattle.std.specs.Prelude.{ℕ, ◌+◌, ◌-◌, nat_lt, if◌then◌else◌, List, map}
use Rattle.rio_chars.specs.declared.chars.Char.{Char}
use Rattle.rio_chars.specs.declared.chars.Char.TheVariants.{Data, Special, Invalid}
use Rattle.link_model.specs.Prelude.{Fields, symbol_chars_of}

-- the character of a number
abbrev pub wire_char : ℕ → Char
wire_char number =
    if nat_lt number 256 then Data number
    else (if nat_lt number 512 then Special (number - 256) else Invalid)

-- the number of a character
abbrev pub char_wire : Char → ℕ
char_wire (Data byte) = byte
char_wire (Special byte) = 256 + byte
char_wire Invalid = 512

abbrev pub wire_chars : List ℕ → List Char
wire_chars numbers = map wire_char numbers

abbrev pub char_wires : List Char → List ℕ
char_wires chars = map char_wire chars

-- the characters that are sent for a symbol
abbrev pub symbol_wires : Fields → List ℕ
symbol_wires symbol = char_wires (symbol_chars_of symbol)
