-- What an endpoint does with its memory on a read or a write, and what it answers (RapidIO
-- Interconnect Specification 1.3, Part 1, input and output operations; that what is out of range is
-- answered by status 7 is this project's profile).
use Rattle.std.specs.Prelude.{ℕ, ◌+◌, Bool, nat_le, List, ◌++◌, length, take, drop, slice_range, Option, Some, None, if◌then◌else◌}
use Rattle.io_packets.specs.declared.io.Io.{Io}
use Rattle.io_packets.specs.declared.io.Io.TheVariants.{NRead, NWrite, NWriteR, SWrite, Reply, BadRead, BadWriteR}

-- so many bytes at an address are all in the memory
abbrev pub is_within : List ℕ → ℕ → ℕ → Bool
is_within memory addr size = nat_le (addr + size) (length memory)

-- a memory with bytes put at an address
abbrev pub memory_put : List ℕ → ℕ → List ℕ → List ℕ
memory_put memory addr load = take addr memory ++ (load ++ drop (addr + length load) memory)

-- the memory after a write: it changes only if all that is written is within it
abbrev pub written : List ℕ → ℕ → List ℕ → List ℕ
written memory addr load =
    if is_within memory addr (length load) then memory_put memory addr load else memory

-- the memory after anything that is served: only a write changes it
abbrev pub memory_after : List ℕ → Io → List ℕ
memory_after memory (NWrite addr load) = written memory addr load
memory_after memory (NWriteR tid addr load) = written memory addr load
memory_after memory (SWrite addr load) = written memory addr load
memory_after memory _ = memory

-- what was asked could not be done
abbrev pub failed : ℕ → Option Io
failed tid = Some (Reply 7 tid None)

-- The answer: a read within the memory gives the bytes that stand there, and a write that is to be
-- answered says that it is done. What is out of range, and a bad request that is to be answered,
-- fails. Nothing else is answered.
abbrev pub answer_to : List ℕ → Io → Option Io
answer_to memory (NRead tid addr size) =
    if is_within memory addr size
    then Some (Reply 0 tid (Some (slice_range memory addr (addr + size)))) else failed tid
answer_to memory (NWriteR tid addr load) =
    if is_within memory addr (length load) then Some (Reply 0 tid None) else failed tid
answer_to memory (BadRead tid) = failed tid
answer_to memory (BadWriteR tid) = failed tid
answer_to memory _ = None
