-- The code group of each character (RapidIO Interconnect Specification 1.3, Part 6, "8B/10B
-- Transmission Code"). A group is a number of ten bits, a to j. Bit a is sent first, and is the
-- most significant. Its first six bits are those of the low five bits of the character, and its
-- last four those of the high three.
use Rattle.std.specs.Prelude.{◌≡◌, IsTrue, ℕ, ◌+◌, ◌-◌, ◌*◌, ◌/◌, ◌%◌, ◌^◌, ◌==◌, nat_lt, ◌&&◌, ◌||◌, if◌then◌else◌, Bool, true, false, List, [], ◌∷◌, get_or}
use Rattle.rio_chars.specs.declared.chars.Char.{Char}
use Rattle.rio_chars.specs.declared.chars.Char.TheVariants.{Data, Special, Invalid}
use Rattle.code_groups.specs.declared.disparity.Disparity.{Disparity}
use Rattle.code_groups.specs.declared.disparity.Disparity.TheVariants.{Negative, Positive}
use Rattle.code_groups.specs.Disparities.{after_block, after_group}

-- Bits a to i of D0 to D31 at negative disparity.
abbrev pub five_six : List ℕ
five_six =
    0b100111 ∷ 0b011101 ∷ 0b101101 ∷ 0b110001 ∷ 0b110101 ∷ 0b101001 ∷ 0b011001 ∷ 0b111000
    ∷ 0b111001 ∷ 0b100101 ∷ 0b010101 ∷ 0b110100 ∷ 0b001101 ∷ 0b101100 ∷ 0b011100 ∷ 0b010111
    ∷ 0b011011 ∷ 0b100011 ∷ 0b010011 ∷ 0b110010 ∷ 0b001011 ∷ 0b101010 ∷ 0b011010 ∷ 0b111010
    ∷ 0b110011 ∷ 0b100110 ∷ 0b010110 ∷ 0b110110 ∷ 0b001110 ∷ 0b101110 ∷ 0b011110 ∷ 0b101011 ∷ []

-- bits f to j of Dx.0 to Dx.7 at negative disparity in front of them
abbrev pub three_four : List ℕ
three_four =
    0b1011 ∷ 0b1001 ∷ 0b0101 ∷ 0b1100 ∷ 0b1101 ∷ 0b1010 ∷ 0b0110 ∷ 0b1110 ∷ []

-- bits f to j of K28.0 to K28.7 of a group that begins with 001111
abbrev pub three_four_special : List ℕ
three_four_special =
    0b0100 ∷ 0b1001 ∷ 0b0101 ∷ 0b0011 ∷ 0b0010 ∷ 0b1010 ∷ 0b0110 ∷ 0b1000 ∷ []

-- each of so many bits turned over
abbrev pub inverted : ℕ → ℕ → ℕ
inverted width block = 2 ^ width - 1 - block

-- whether a sub-block leaves either disparity as it was
abbrev pub leaves_it : Disparity → Disparity → Bool
leaves_it Negative Positive = true
leaves_it Negative Negative = false
leaves_it Positive Negative = false
leaves_it Positive Positive = false

abbrev pub is_neutral : ℕ → ℕ → Bool
is_neutral width block =
    leaves_it (after_block width block Negative) (after_block width block Positive)

-- a sub-block at a disparity: what stands at negative, and at positive turned over unless neutral
abbrev pub block_at : ℕ → ℕ → Disparity → ℕ
block_at width block Negative = block
block_at width block Positive = if is_neutral width block then block else inverted width block

-- whether D17.7 and the like end in 0111 or 1000, by the disparity in front of these four bits
abbrev pub is_alternate : Disparity → ℕ → Bool
is_alternate Negative low = (low == 17) || ((low == 18) || (low == 20))
is_alternate Positive low = (low == 11) || ((low == 13) || (low == 14))

-- bits f to j of a data character at negative disparity, where this disparity stands in front
abbrev pub four_bits : Disparity → ℕ → ℕ
four_bits before byte =
    if (byte / 32 == 7) && is_alternate before (byte % 32) then 0b0111 else
    get_or three_four (byte / 32) 0

-- the six bits, and the four after them
abbrev pub group_joined : ℕ → Disparity → ℕ → ℕ
group_joined six between byte = six * 16 + block_at 4 (four_bits between byte) between

abbrev pub group_after_six : ℕ → Disparity → ℕ → ℕ
group_after_six six before byte = group_joined six (after_block 6 six before) byte

abbrev pub data_group : Disparity → ℕ → ℕ
data_group before byte =
    group_after_six (block_at 6 (get_or five_six (byte % 32) 0) before) before byte

-- the special characters: K28.0 to K28.7, K23.7, K27.7, K29.7 and K30.7
abbrev pub is_special : ℕ → Bool
is_special byte =
    nat_lt byte 256
    && ((byte % 32 == 28)
    || ((byte == 0xf7) || ((byte == 0xfb) || ((byte == 0xfd) || (byte == 0xfe)))))

abbrev pub special_at_negative : ℕ → ℕ
special_at_negative byte =
    if byte % 32 == 28 then 0b001111 * 16 + get_or three_four_special (byte / 32) 0 else
    get_or five_six (byte % 32) 0 * 16 + 0b1000

-- all ten bits of a special character are turned over at positive disparity
abbrev pub special_group : Disparity → ℕ → ℕ
special_group Negative byte = special_at_negative byte
special_group Positive byte = inverted 10 (special_at_negative byte)

-- whether a character has code groups
abbrev pub has_group : Char → Bool
has_group (Data byte) = nat_lt byte 256
has_group (Special byte) = is_special byte
has_group Invalid = false

-- the group of a character at a disparity
abbrev pub group_of : Disparity → Char → ℕ
group_of before (Data byte) = data_group before byte
group_of before (Special byte) = special_group before byte
group_of before Invalid = 0

-- the disparity after a character
abbrev pub disparity_after : Disparity → Char → Disparity
disparity_after before c = after_group before (group_of before c)

-- a character whose group it is at a disparity
abbrev pub IsGroupOf : Disparity → ℕ → Char → Type 0
IsGroupOf before group c = IsTrue (has_group c) × (group_of before c ≡ group)

-- What a receiver at a disparity takes a group for: the character whose group it is there. If it is
-- that of none, it is invalid.
abbrev pub IsHeardAs : Disparity → ℕ → Char → Type 0
IsHeardAs before group (Data byte) = IsGroupOf before group (Data byte)
IsHeardAs before group (Special byte) = IsGroupOf before group (Special byte)
IsHeardAs before group Invalid = (c : Char) → IsGroupOf before group c → ⊥
