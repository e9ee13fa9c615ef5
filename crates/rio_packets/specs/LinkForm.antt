-- The form in which a packet stands on a link: its body, one CRC or two, and a pad (RapidIO
-- Interconnect Specification 1.3, Part 6, packet format and packet CRC; the ranges are this
-- project's profile).
use Rattle.std.specs.Prelude.{◌≡◌, ℕ, ◌%◌, ◌<◌, ◌≤◌, ◌==◌, ◌⊎◌, List, [], ◌∷◌, ◌++◌, length, take, drop, All, slice_index, if◌then◌else◌}
use Rattle.crc_division.specs.Bits.{bits}
use Rattle.rio_packets.specs.Crc16.{crc16_of}
use Rattle.rio_packets.specs.Register.{running}

-- each number is a byte
abbrev pub AreBytes : List ℕ → Type 0
AreBytes bytes = All (λ b. b < 256) bytes

-- What stands before CRCs and pad: an even number of 4 to 272 bytes, of which the first six bits
-- are 0.
pub record IsBody (body : List ℕ) : Type 0 where
  pub even : length body % 2 ≡ 0
  pub least : 4 ≤ length body
  pub most : length body ≤ 272
  pub range : AreBytes body
  pub origin : slice_index body 0 < 4

-- its length is not that of a body
abbrev pub IsBadLength : List ℕ → Type 0
IsBadLength body = (length body % 2 ≡ 1) ⊎ (272 < length body)

-- x and y are the two bytes of the message's CRC
pub record IsCrc (message : List ℕ) (x y : ℕ) : Type 0 where
  pub high : x < 256
  pub low : y < 256
  pub spells : bits 8 x ++ bits 8 y ≡ crc16_of message

-- two zero bytes at the end where the length is no multiple of four
abbrev pub padded : List ℕ → List ℕ
padded bytes = if length bytes % 4 == 0 then bytes else (bytes ++ 0 ∷ 0 ∷ [])

-- A body of at most 80 bytes is followed by its CRC and the pad.
pub record ShortForm (body bytes : List ℕ) : Type 0 where
  pub within : length body ≤ 80
  pub x : ℕ
  pub y : ℕ
  pub crc : IsCrc body x y
  pub is : bytes ≡ padded (body ++ x ∷ y ∷ [])

-- the first 80 bytes of a body, a CRC, and its rest
abbrev pub split_by : List ℕ → ℕ → ℕ → List ℕ
split_by body x y = take 80 body ++ x ∷ y ∷ drop 80 body

-- A longer body has a CRC of its first 80 bytes behind these, and at its end a CRC of all before
-- it, the first CRC too.
pub record LongForm (body bytes : List ℕ) : Type 0 where
  pub beyond : 80 < length body
  pub x : ℕ
  pub y : ℕ
  pub u : ℕ
  pub v : ℕ
  pub first : IsCrc (take 80 body) x y
  pub second : IsCrc (split_by body x y) u v
  pub is : bytes ≡ padded (split_by body x y ++ u ∷ v ∷ [])

-- the bytes are the link form of the body
pub record LinkForm (body bytes : List ℕ) : Type 0 where
  pub is_body : IsBody body
  pub form : ShortForm body bytes ⊎ LongForm body bytes

-- Bytes that are the link form of some body, told by the running register: it is 0 at the end, and
-- from 84 bytes on also after byte 82.
pub record Passes (bytes : List ℕ) : Type 0 where
  pub fours : length bytes % 4 ≡ 0
  pub least : 8 ≤ length bytes
  pub most : length bytes ≤ 276
  pub range : AreBytes bytes
  pub origin : slice_index bytes 0 < 4
  pub ends : running bytes ≡ 0
  pub middle : 84 ≤ length bytes → running (take 82 bytes) ≡ 0
