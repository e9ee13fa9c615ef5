-- What becomes of a packet that comes to an endpoint, with memory or without.
use Rattle.std.specs.Prelude.{ℕ, ◌+◌, List, [], ◌∷◌, length, slice_range, if◌then◌else◌}
use Rattle.rio_packets.specs.Fields.{ftype_of}
use Rattle.io_packets.specs.declared.io.Io.{Io}
use Rattle.io_packets.specs.declared.io.Io.TheVariants.{NRead, NWrite, NWriteR, SWrite, Reply, Other as NoIo}
use Rattle.io_packets.specs.Reading.{io_of}
use Rattle.io_packets.specs.Serving.{is_within, memory_put, memory_after}
use Rattle.io_memory.specs.declared.meeting.Met.{Met}
use Rattle.io_memory.specs.declared.meeting.Met.TheVariants.{Read, Written, Failed, Done, Other}

-- a read: it is done if all of it is within the memory
abbrev pub met_read : List ℕ → ℕ → ℕ → ℕ → Met
met_read memory ftype addr size =
    if is_within memory addr size then Read addr (slice_range memory addr (addr + size))
    else Failed ftype

-- and so a write
abbrev pub met_write : List ℕ → ℕ → ℕ → List ℕ → Met
met_write memory ftype addr load =
    if is_within memory addr (length load) then Written addr load else Failed ftype

-- what becomes of what a packet of a format type carries, at an endpoint with memory
abbrev pub met_at : List ℕ → ℕ → Io → Met
met_at memory ftype (NRead tid addr size) = met_read memory ftype addr size
met_at memory ftype (NWrite addr load) = met_write memory ftype addr load
met_at memory ftype (NWriteR tid addr load) = met_write memory ftype addr load
met_at memory ftype (SWrite addr load) = met_write memory ftype addr load
met_at memory ftype (Reply status tid load) = Done tid status load
met_at memory ftype NoIo = Other ftype
met_at memory ftype _ = Failed ftype

-- and at one without: only a response means anything there
abbrev pub met_without : ℕ → Io → Met
met_without ftype (Reply status tid load) = Done tid status load
met_without ftype _ = Other ftype

-- what becomes of a packet at a memory
abbrev pub met_of : List ℕ → List ℕ → Met
met_of memory packet = met_at memory (ftype_of packet) (io_of packet)

-- ---- one packet after another

-- what becomes of packets that come to a memory
abbrev pub met_in_turn : List ℕ → List (List ℕ) → List Met
met_in_turn memory [] = []
met_in_turn memory (packet ∷ packets) =
    met_of memory packet ∷ met_in_turn (memory_after memory (io_of packet)) packets

-- a memory in which what was written stands, and nothing else has changed
abbrev pub memory_held : List ℕ → List Met → List ℕ
memory_held memory [] = memory
memory_held memory (Written addr load ∷ mets) = memory_held (memory_put memory addr load) mets
memory_held memory (_ ∷ mets) = memory_held memory mets
