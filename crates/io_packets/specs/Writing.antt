-- The packets of reads and writes of memory and of the responses to them (RapidIO Interconnect
-- Specification 1.3, Part 1, request and response packet formats; that NWRITE, which has no
-- transaction number, has 0 there is this project's profile).
use Rattle.std.specs.Prelude.{ℕ, ◌+◌, ◌*◌, ◌==◌, ◌||◌, nat_lt, List, [], ◌∷◌, ◌++◌, length, Some, None, if◌then◌else◌, false}
use Rattle.rio_packets.specs.Fields.{body_of}
use Rattle.rio_packets.specs.Making.{made}
use Rattle.rio_packets.specs.Words.{word_bytes}
use Rattle.io_packets.specs.declared.io.Io.{Io}
use Rattle.io_packets.specs.declared.io.Io.TheVariants.{NRead, NWrite, NWriteR, SWrite, Reply}

-- the code of a size of the profile
abbrev pub code_of : ℕ → ℕ
code_of size = if nat_lt size 32 then 11 else 12

-- and the bit wdptr
abbrev pub wdptr_of : ℕ → ℕ
wdptr_of size = if (size == 8) || (size == 32) then 0 else 1

-- the format type
abbrev pub type_of : Io → ℕ
type_of (NRead tid addr size) = 2
type_of (NWrite addr load) = 5
type_of (NWriteR tid addr load) = 5
type_of (SWrite addr load) = 6
type_of _ = 13

-- what stands before the data of a request for so many bytes
abbrev pub io_request_head : ℕ → ℕ → ℕ → ℕ → List ℕ
io_request_head ttype size tid addr =
    (16 * ttype + code_of size) ∷ tid ∷ word_bytes (addr + 4 * wdptr_of size)

-- what stands behind the IDs
abbrev pub io_behind_ids : Io → List ℕ
io_behind_ids (NRead tid addr size) = io_request_head 4 size tid addr
io_behind_ids (NWrite addr load) = io_request_head 4 (length load) 0 addr ++ load
io_behind_ids (NWriteR tid addr load) = io_request_head 5 (length load) tid addr ++ load
io_behind_ids (SWrite addr load) = word_bytes addr ++ load
io_behind_ids (Reply status tid None) = status ∷ tid ∷ []
io_behind_ids (Reply status tid (Some load)) = (16 * 8 + status) ∷ tid ∷ load
io_behind_ids _ = []

-- the body of the packet of a read, a write or a response
abbrev pub io_body : ℕ → ℕ → ℕ → Io → List ℕ
io_body prio dest source io = body_of prio (type_of io) false dest source (io_behind_ids io)

-- and the packet
abbrev pub io_bytes : ℕ → ℕ → ℕ → Io → List ℕ
io_bytes prio dest source io = made (io_body prio dest source io)
