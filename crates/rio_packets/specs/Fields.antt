-- The fields at the front of a packet's bytes (RapidIO Interconnect Specification 1.3, Part 6,
-- packet header; Part 3, IDs; Part 1, maintenance packets). A missing byte is read as 0.
use Rattle.std.specs.Prelude.{◌≡◌, ℕ, ◌+◌, ◌-◌, ◌*◌, ◌/◌, ◌%◌, ◌≢◌, ◌==◌, ◌&&◌, Bool, true, false, nat_lt, nat_le, List, [], ◌∷◌, ◌++◌, length, slice_index, take, Option, Some, None, IsTrue, if◌then◌else◌}
use Rattle.rio_packets.specs.LinkForm.{IsCrc}

-- the priority, 0 to 3
abbrev pub prio_of : List ℕ → ℕ
prio_of bytes = slice_index bytes 1 / 64

-- the transport type
abbrev pub tt_of : List ℕ → ℕ
tt_of bytes = slice_index bytes 1 / 16 % 4

-- the format type
abbrev pub ftype_of : List ℕ → ℕ
ftype_of bytes = slice_index bytes 1 % 16

-- where the IDs end, which have one byte each, or two if the transport type is 1
abbrev pub ids_end : List ℕ → ℕ
ids_end bytes = if tt_of bytes == 1 then 6 else 4

-- the number in two bytes, the high byte first
abbrev pub half_word_at : List ℕ → ℕ → ℕ
half_word_at bytes at = 0x100 * slice_index bytes at + slice_index bytes (at + 1)

-- the destination ID, of one byte if the transport type is 0 and of two if it is 1
abbrev pub dest_of : List ℕ → Option ℕ
dest_of bytes = if tt_of bytes == 0 then Some (slice_index bytes 2)
    else (if tt_of bytes == 1 then Some (half_word_at bytes 2) else None)

-- the source ID, which has the size of the destination ID
abbrev pub source_of : List ℕ → Option ℕ
source_of bytes = if tt_of bytes == 0 then Some (slice_index bytes 3)
    else (if tt_of bytes == 1 then Some (half_word_at bytes 4) else None)

-- 12, 20, 28 and so on up to 76: no or up to eight double-words of data
abbrev pub is_maintenance_length : ℕ → Bool
is_maintenance_length n = (n % 8 == 4) && (nat_le 12 n && nat_le n 76)

-- 16, 24, 32 and so on up to 80 bytes, of which the last two are 0: two-byte IDs bring this pad,
-- and two bytes more
abbrev pub is_padded_form : List ℕ → Bool
is_padded_form bytes = is_maintenance_length (length bytes - 4)
    && ((slice_index bytes (length bytes - 2) == 0) && (slice_index bytes (length bytes - 1) == 0))

-- whether the bytes end as those of a maintenance packet of their transport type
abbrev pub has_maintenance_form : List ℕ → Bool
has_maintenance_form bytes = if tt_of bytes == 0 then is_maintenance_length (length bytes)
    else ((tt_of bytes == 1) && is_padded_form bytes)

-- whether it is a maintenance packet, which has format type 8 and transport type 0 or 1
abbrev pub is_maintenance : List ℕ → Bool
is_maintenance bytes = (ftype_of bytes == 8) && has_maintenance_form bytes

-- where the hop count of a maintenance packet stands
abbrev pub hop_place : List ℕ → ℕ
hop_place bytes = ids_end bytes + 2

-- where its CRC stands: at its end, or before the pad
abbrev pub crc_place : List ℕ → ℕ
crc_place bytes = length bytes - (if tt_of bytes == 1 then 4 else 2)

-- the hop count of a maintenance packet
abbrev pub hop_of : List ℕ → Option ℕ
hop_of bytes = if is_maintenance bytes then Some (slice_index bytes (hop_place bytes)) else None

-- the transaction type
abbrev pub ttype_of : List ℕ → ℕ
ttype_of bytes = slice_index bytes (ids_end bytes) / 16

-- whether it is a maintenance request, to read or to write
abbrev pub is_request : List ℕ → Bool
is_request bytes = is_maintenance bytes && nat_lt (ttype_of bytes) 2

-- priority, transport type and format type in a byte: the transport type is 1 if the IDs have two
-- bytes, and 0 otherwise
abbrev pub types_of : Bool → ℕ → ℕ → ℕ
types_of false prio ftype = 64 * prio + ftype
types_of true prio ftype = 64 * prio + 16 + ftype

-- the destination ID and the source ID in one byte each, or in two with the high byte first
abbrev pub ids_of : Bool → ℕ → ℕ → List ℕ
ids_of false dest source = dest ∷ source ∷ []
ids_of true dest source =
    dest / 0x100 ∷ dest % 0x100 ∷ source / 0x100 ∷ source % 0x100 ∷ []

-- the body of a packet
abbrev pub body_of : ℕ → ℕ → Bool → ℕ → ℕ → List ℕ → List ℕ
body_of prio ftype large dest source rest =
    0 ∷ types_of large prio ftype ∷ (ids_of large dest source ++ rest)

-- the fields in front of a packet's data
pub record HasFields (prio ftype : ℕ) (large : Bool) (dest source : ℕ) (packet : List ℕ) : Type 0
  where
    pub prio_is : prio_of packet ≡ prio
    pub ftype_is : ftype_of packet ≡ ftype
    pub tt_is : tt_of packet ≡ (if large then 1 else 0)
    pub dest_is : dest_of packet ≡ Some dest
    pub source_is : source_of packet ≡ Some source

-- Two maintenance packets of one length and one transport type that differ in the hop count, which
-- is one less in the new one, and in the CRC, which is made of the new bytes before it.
pub record Lowered (old new : List ℕ) : Type 0 where
  pub was : IsTrue (is_maintenance old)
  pub is : IsTrue (is_maintenance new)
  pub same_length : length new ≡ length old
  pub same_type : tt_of new ≡ tt_of old
  pub hop : slice_index new (hop_place old) + 1 ≡ slice_index old (hop_place old)
  pub others : (k : ℕ) → k ≢ hop_place old → k ≢ crc_place old → k ≢ crc_place old + 1
      → slice_index new k ≡ slice_index old k
  pub crc : IsCrc (take (crc_place old) new) (slice_index new (crc_place old))
      (slice_index new (crc_place old + 1))
