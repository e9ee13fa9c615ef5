-- The text of a character.
use Rattle.std.specs.Prelude.{ℕ, ◌<◌, List, [], ◌∷◌, ◌++◌}
use Rattle.rio_chars.specs.HexText.{hex_of}
use Rattle.rio_chars.specs.declared.chars.Char.{Char}
use Rattle.rio_chars.specs.declared.chars.Char.TheVariants.{Data, Special, Invalid}

-- `d` or `k` and two hexadecimal digits of the byte, or `inv`
abbrev pub char_text_of : Char → List ℕ
char_text_of (Data byte) = 100 ∷ hex_of (byte ∷ [])
char_text_of (Special byte) = 107 ∷ hex_of (byte ∷ [])
char_text_of Invalid = 105 ∷ 110 ∷ 118 ∷ []

-- its byte is one
abbrev pub HasByte : Char → Type 0
HasByte (Data byte) = byte < 256
HasByte (Special byte) = byte < 256
HasByte Invalid = Unit {0}

-- the texts of characters, each behind a space
abbrev pub spaced_chars : List Char → List ℕ
spaced_chars [] = []
spaced_chars (c ∷ chars) = 32 ∷ char_text_of c ++ spaced_chars chars

-- it is a data character
abbrev pub IsData : Char → Type 0
IsData (Data byte) = Unit {0}
IsData (Special byte) = ⊥
IsData Invalid = ⊥

abbrev pub AreData : List Char → Type 0
AreData [] = Unit {0}
AreData (c ∷ chars) = IsData c × AreData chars

-- the byte of a character, and 0 where there is none
abbrev pub byte_of : Char → ℕ
byte_of (Data byte) = byte
byte_of (Special byte) = byte
byte_of Invalid = 0
