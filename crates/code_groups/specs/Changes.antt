-- A wrong bit, and what becomes of it.
use Rattle.std.specs.Prelude.{◌≡◌, ℕ, zero, suc, ◌/◌, ◌%◌, ◌^◌, ◌==◌, nat_lt, ◌||◌, ◌⊎◌, Bool, false, List, [], ◌∷◌, bit_xor}
use Rattle.rio_chars.specs.CharText.{IsData}
use Rattle.rio_chars.specs.declared.chars.Char.{Char}
use Rattle.rio_chars.specs.declared.chars.Char.TheVariants.{Data, Special, Invalid}

-- a group with one bit turned over: bit 9 is the first one that is sent
abbrev pub with_wrong_bit : ℕ → ℕ → ℕ
with_wrong_bit bit group = bit_xor group (2 ^ bit)

-- The same in the group at a place.
abbrev pub with_wrong_bit_at : ℕ → ℕ → List ℕ → List ℕ
with_wrong_bit_at place bit [] = []
with_wrong_bit_at zero bit (group ∷ groups) = with_wrong_bit bit group ∷ groups
with_wrong_bit_at (suc place) bit (group ∷ groups) = group ∷ with_wrong_bit_at place bit groups

-- What is heard of what was sent after a wrong bit: all as it was sent, and data, up to one that
-- is invalid, and all as it was sent after that. If none is invalid, all of it was data: an invalid
-- one stands at the next special character at the latest.
abbrev pub IsFoundIn : List Char → List Char → Type 0
IsFoundIn [] heard = heard ≡ []
IsFoundIn (c ∷ sent) [] = ⊥
IsFoundIn (c ∷ sent) (h ∷ heard) =
    ((h ≡ Invalid) × (heard ≡ sent)) ⊎ ((h ≡ c) × IsData c × IsFoundIn sent heard)

-- the delimiters SC and PD; and all characters that are used: data, these, and the idles K, A and R
abbrev pub is_delimiter : Char → Bool
is_delimiter (Data byte) = false
is_delimiter (Special byte) = (byte == 0x1c) || (byte == 0x7c)
is_delimiter Invalid = false

abbrev pub is_used : Char → Bool
is_used (Data byte) = nat_lt byte 256
is_used (Special byte) =
    (byte == 0x1c)
    || ((byte == 0x7c) || ((byte == 0xbc) || ((byte == 0xfb) || (byte == 0xfd))))
is_used Invalid = false

-- two bytes that differ in their low five bits alone, or in their high three
abbrev pub DifferInOneBlock : ℕ → ℕ → Type 0
DifferInOneBlock a b = (a / 32 ≡ b / 32) ⊎ (a % 32 ≡ b % 32)
