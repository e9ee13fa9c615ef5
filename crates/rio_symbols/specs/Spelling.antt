-- A control symbol and its three bytes.
use Rattle.std.specs.Prelude.{◌≡◌, ℕ, ◌+◌, ◌*◌, ◌/◌, ◌%◌, ◌<◌, ◌==◌, nat_lt, ◌&&◌, if◌then◌else◌, Bool, List, [], ◌∷◌, ◌++◌, slice_index, All, Option, Some, None}
use Rattle.std.specs.List.{flat_map}
use Rattle.crc_division.specs.Bits.{bits}
use Rattle.rio_symbols.specs.Crc5.{field_bits, crc5_of, crc5_value}
use Rattle.rio_symbols.specs.Fields.{Fields, InRange}

-- the bits of the bytes are those of the fields and then those of the CRC; it names no direction
pub record SpellsSymbol (symbol : Fields) (bytes : List ℕ) : Type 0 where
  pub in_range : InRange symbol
  pub are_bytes : All (λ b. b < 256) bytes
  pub same_bits : flat_map (bits 8) bytes ≡ field_bits symbol ++ crc5_of symbol

-- the bytes that are sent for a symbol
unfoldable pub symbol_bytes : Fields → List ℕ
symbol_bytes symbol =
    (symbol.s0 * 32 + symbol.p0) ∷ (symbol.p1 * 8 + symbol.s1)
    ∷ (symbol.cmd * 32 + crc5_value symbol) ∷ []

-- the fields that stand in the first nineteen bits of three bytes
abbrev pub fields_at : ℕ → ℕ → ℕ → Fields
fields_at x y z = record { s0 = x / 32; p0 = x % 32; p1 = y / 8; s1 = y % 8; cmd = z / 32 }

-- the last five bits of three bytes, and the CRC of the first nineteen
abbrev pub found_crc : List ℕ → ℕ
found_crc bytes = slice_index bytes 2 % 32

abbrev pub computed_crc : List ℕ → ℕ
computed_crc bytes =
    crc5_value (fields_at (slice_index bytes 0) (slice_index bytes 1) (slice_index bytes 2))

-- whether three numbers are bytes whose last five bits are the CRC of the first nineteen
unfoldable pub is_spelling : ℕ → ℕ → ℕ → Bool
is_spelling x y z =
    nat_lt x 256 && (nat_lt y 256 && (nat_lt z 256 && (z % 32 == crc5_value (fields_at x y z))))

-- the symbol that three numbers spell, if they spell one
unfoldable pub spelled : ℕ → ℕ → ℕ → Option Fields
spelled x y z = if (is_spelling x y z) then Some (fields_at x y z) else None

-- the same of a list, from its first three places
abbrev pub spelled_in : List ℕ → Option Fields
spelled_in bytes = spelled (slice_index bytes 0) (slice_index bytes 1) (slice_index bytes 2)
