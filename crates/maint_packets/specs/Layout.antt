-- The layout of maintenance packets behind the IDs (RapidIO Interconnect Specification 1.3, Part 1,
-- maintenance packets; Part 3, hop count). Bytes are counted from where the IDs end, which is byte
-- 4 if they have 8 bits each, and byte 6 if they have 16:
--
--     0         ttype, and size or status
--     1         TID
--     2         hop count
--     3 to 5    offset, or reserved
--     6 to 13   two words of data, or none
--
-- The first byte of a number is its highest. A missing byte is read as 0.
use Rattle.std.specs.Prelude.{ℕ, ◌+◌, ◌*◌, ◌/◌, ◌%◌, Bool, true, false, List, [], ◌∷◌, ◌++◌, slice_index, Option, Some, None}
use Rattle.rio_packets.specs.Fields.{ids_end}
use Rattle.rio_packets.specs.Words.{word_bytes}

-- the number of 24 bits in the three bytes behind the hop count
abbrev pub offset_of : List ℕ → ℕ
offset_of bytes =
    0x10000 * slice_index bytes (ids_end bytes + 3)
    + 0x100 * slice_index bytes (ids_end bytes + 4) + slice_index bytes (ids_end bytes + 5)

-- the transaction number
abbrev pub tid_of : List ℕ → ℕ
tid_of bytes = slice_index bytes (ids_end bytes + 1)

-- the lower half of the byte with the transaction type: of a request a code of how many bytes it
-- asks for, of a response its status
abbrev pub low_half_of : List ℕ → ℕ
low_half_of bytes = slice_index bytes (ids_end bytes) % 16

-- the length of a link form without data, with IDs of 8 bits or of 16
abbrev pub short_length : Bool → ℕ
short_length false = 12
short_length true = 16

-- the length of a link form with two words of data
abbrev pub long_length : Bool → ℕ
long_length false = 20
long_length true = 24

-- two words as data
abbrev pub data_bytes : Option (ℕ × ℕ) → List ℕ
data_bytes None = []
data_bytes (Some words) = word_bytes words.0 ++ word_bytes words.1

-- what stands behind the IDs
abbrev pub behind_ids : ℕ → ℕ → ℕ → ℕ → ℕ → Option (ℕ × ℕ) → List ℕ
behind_ids ttype low_half tid hop offset words =
    (16 * ttype + low_half) ∷ tid ∷ hop
    ∷ offset / 0x10000 ∷ offset / 0x100 % 0x100 ∷ offset % 0x100 ∷ data_bytes words
