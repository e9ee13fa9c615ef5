-- The layout of the packets of reads and writes of memory behind the IDs (RapidIO Interconnect
-- Specification 1.3, Part 1, request and response packet formats):
--
--     ftype   byte   4               5     6 to 9               10 on
--     2, 5           ttype, size     TID   address word         the data of a write
--
--     ftype   byte   4 to 7          8 on
--     6              address word    data
--
--     ftype   byte   4               5     6 on
--     13             ttype, status   TID   data, or none
--
-- An address word has 29 bits of an address in double-words, the bit wdptr, which is reserved in a
-- packet of ftype 6, and two bits that extend the address. The first byte of a number is its
-- highest. A missing byte is read as 0.
use Rattle.std.specs.Prelude.{ℕ, ◌+◌, ◌-◌, ◌*◌, ◌/◌, ◌%◌, ◌==◌, List, [], ◌∷◌, length, slice_index, slice_range, Option, Some, None, if◌then◌else◌}
use Rattle.rio_packets.specs.Words.{word_at}

-- the source ID, of eight bits
abbrev pub source_in : List ℕ → ℕ
source_in bytes = slice_index bytes 3

-- the upper half of the byte behind the IDs, the transaction type
abbrev pub high_half_of : List ℕ → ℕ
high_half_of bytes = slice_index bytes 4 / 16

-- the lower half of the byte with the transaction type: of a request a code of its size, of a
-- response its status
abbrev pub io_low_half_of : List ℕ → ℕ
io_low_half_of bytes = slice_index bytes 4 % 16

-- the transaction number
abbrev pub io_tid_of : List ℕ → ℕ
io_tid_of bytes = slice_index bytes 5

-- its address in bytes, which is a multiple of 8
abbrev pub addr_in : ℕ → ℕ
addr_in word = word / 8 * 8

abbrev pub wdptr_in : ℕ → ℕ
wdptr_in word = word / 4 % 2

abbrev pub extension_in : ℕ → ℕ
extension_in word = word % 4

-- how many bytes a code and wdptr ask for, if this project's profile has them
abbrev pub size_named : ℕ → ℕ → Option ℕ
size_named code wdptr =
    if code == 11 then Some (if wdptr == 0 then 8 else 16)
    else (if code == 12 then Some (if wdptr == 0 then 32 else 64) else None)

-- how many bytes a request asks for, if its size is one of the profile and its address is not
-- extended
abbrev pub size_of : List ℕ → Option ℕ
size_of bytes =
    if extension_in (word_at bytes 6) == 0
    then size_named (io_low_half_of bytes) (wdptr_in (word_at bytes 6)) else None

-- the bytes from a place on, without so many at the end
abbrev pub between : List ℕ → ℕ → ℕ → List ℕ
between bytes from behind = slice_range bytes from (length bytes - behind)
