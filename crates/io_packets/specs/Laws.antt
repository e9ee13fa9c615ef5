-- Laws of reads and writes.
use Rattle.std.specs.Prelude.{◌≡◌, ℕ, ◌+◌, ◌<◌, ◌≤◌, ◌⊎◌, List, length, slice_range}
use Rattle.rio_packets.specs.LinkForm.{LinkForm}
use Rattle.io_packets.specs.declared.io.Io.{Io}
use Rattle.io_packets.specs.Forms.{IsGood}
use Rattle.io_packets.specs.Reading.{io_of}
use Rattle.io_packets.specs.Writing.{io_body}
use Rattle.io_packets.specs.Serving.{written}

-- What is read of a packet that was written is what was written.
abbrev pub ReadsBack : Type 0
ReadsBack = (prio dest source : ℕ) (io : Io) (packet : List ℕ) → prio < 4 → IsGood io
    → LinkForm (io_body prio dest source io) packet → io_of packet ≡ io

-- What is read of a memory where something was written is what was written.
abbrev pub KeepsWritten : Type 0
KeepsWritten = (memory load : List ℕ) (addr : ℕ) → addr + length load ≤ length memory
    → slice_range (written memory addr load) addr (addr + length load) ≡ load

-- Elsewhere it stays.
abbrev pub KeepsOthers : Type 0
KeepsOthers = (memory load : List ℕ) (addr from to : ℕ)
    → (to ≤ addr) ⊎ (addr + length load ≤ from)
    → slice_range (written memory addr load) from to ≡ slice_range memory from to

-- It stays as long as it is.
abbrev pub KeepsLength : Type 0
KeepsLength = (memory load : List ℕ) (addr : ℕ) → length (written memory addr load) ≡ length memory
