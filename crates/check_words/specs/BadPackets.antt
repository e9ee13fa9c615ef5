-- What of a word is to blame that is no packet.
use Rattle.std.specs.Prelude.{◌≡◌, ◌≢◌, ◌⊎◌, ℕ, ◌+◌, ◌-◌, ◌%◌, ◌<◌, ◌≤◌, List, [], ◌∷◌, Some, drop, length, slice_get, slice_index, take}
use Rattle.rio_chars.specs.HexText.{hex_digit, hex_of}
use Rattle.rio_packets.specs.LinkForm.{IsCrc}
use Rattle.check_words.specs.declared.misfits.WordFault.{WordFault}
use Rattle.check_words.specs.declared.misfits.WordFault.TheVariants as F

-- A CRC stands behind 80 bytes if there are 84 or more, and at the end, or before two zero bytes
-- there.
abbrev pub IsCrcPlace : List ℕ → ℕ → Type 0
IsCrcPlace bytes behind = ((behind ≡ 80) × (84 ≤ length bytes))
    ⊎ ((behind + 2 ≡ length bytes)
    ⊎ ((behind + 4 ≡ length bytes) × (drop (behind + 2) bytes ≡ 0 ∷ 0 ∷ [])))

-- The two bytes behind so many are not the CRC of these, which is another.
pub record IsWrongCrc (bytes : List ℕ) (behind : ℕ) (there right : List ℕ) : Type 0 where
  pub place : IsCrcPlace bytes behind
  pub there_is : there ≡ take 2 (drop behind bytes)
  pub right_is : IsCrc (take behind bytes) (slice_index right 0) (slice_index right 1)
  pub differ : there ≢ right

-- no packet has so many bytes
abbrev pub IsNoLength : ℕ → Type 0
IsNoLength n = (n < 8) ⊎ ((276 < n) ⊎ (n % 4 ≢ 0))

abbrev pub AreBadBytes : List ℕ → WordFault → Type 0
AreBadBytes bytes (F.PacketLength n) = (n ≡ length bytes) × IsNoLength n
AreBadBytes bytes F.AckId = 4 ≤ slice_index bytes 0
AreBadBytes bytes (F.Crc behind there right) = IsWrongCrc bytes behind there right
AreBadBytes bytes fault = ⊥

-- a word is to be a packet
abbrev pub IsBadPacket : List ℕ → WordFault → Type 0
IsBadPacket word (F.Capital place) =
    (digit : ℕ) × (slice_get word (place - 1) ≡ Some digit) × (65 ≤ digit) × (digit ≤ 70)
IsBadPacket word (F.NoDigit place) = (byte : ℕ) × (slice_get word (place - 1) ≡ Some byte)
    × ((n : ℕ) → n < 16 → byte ≢ hex_digit n)
IsBadPacket word F.OddDigits = length word % 2 ≡ 1
IsBadPacket word fault = (bytes : List ℕ) × (word ≡ hex_of bytes) × AreBadBytes bytes fault
