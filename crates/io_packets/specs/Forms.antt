-- Which reads, writes and responses this project's profile has (RapidIO Interconnect Specification
-- 1.3, Part 1, has more sizes and other statuses).
use Rattle.std.specs.Prelude.{◌≡◌, ℕ, ◌%◌, ◌==◌, ◌&&◌, ◌||◌, Bool, nat_le, length, Some, None, IsTrue}
use Rattle.rio_packets.specs.Words.{is_status}
use Rattle.io_packets.specs.declared.io.Io.{Io}
use Rattle.io_packets.specs.declared.io.Io.TheVariants.{NRead, NWrite, NWriteR, SWrite, Reply, BadRead, BadWriteR, BadWrite, Other}

-- how many bytes a read, a write or a response with data has
abbrev pub is_size : ℕ → Bool
is_size n = (n == 8) || ((n == 16) || ((n == 32) || (n == 64)))

-- how many bytes a streaming write has: 8 to 64, in whole double-words
abbrev pub is_stream_size : ℕ → Bool
is_stream_size n = (n % 8 == 0) && (nat_le 8 n && nat_le n 64)

-- an address begins a double-word
abbrev pub IsAligned : ℕ → Type 0
IsAligned addr = addr % 8 ≡ 0

-- It is one of the five packets of the profile: a request at an address that begins a double-word,
-- for a size of the profile, or a response; one with data is done.
abbrev pub IsGood : Io → Type 0
IsGood (NRead tid addr size) = IsAligned addr × IsTrue (is_size size)
IsGood (NWrite addr load) = IsAligned addr × IsTrue (is_size (length load))
IsGood (NWriteR tid addr load) = IsAligned addr × IsTrue (is_size (length load))
IsGood (SWrite addr load) = IsAligned addr × IsTrue (is_stream_size (length load))
IsGood (Reply status tid None) = IsTrue (is_status status)
IsGood (Reply status tid (Some load)) = (status ≡ 0) × IsTrue (is_size (length load))
IsGood _ = ⊥

-- as far as it is one of these five, it is good
abbrev pub CanBeRead : Io → Type 0
CanBeRead (BadRead tid) = Unit {0}
CanBeRead (BadWriteR tid) = Unit {0}
CanBeRead BadWrite = Unit {0}
CanBeRead Other = Unit {0}
CanBeRead io = IsGood io

-- a read asks for a size of the profile
abbrev pub IsSized : Io → Type 0
IsSized (NRead tid addr size) = IsTrue (is_size size)
IsSized _ = Unit {0}
