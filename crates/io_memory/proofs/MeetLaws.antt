-- The bytes of each read are those that the writes before it left.
use Rattle.std.proofs.Common.{◌≡◌, ℕ, zero, suc, ◌+◌, ◌-◌, Bool, true, false, List, [], ◌∷◌, length, take, drop, refl, sym, ap, ◌∙◌, arith, if◌then◌else◌, length-take, length-drop, leb-true}
use Rattle.std.specs.Prelude.{slice_range, nat_le}
use Rattle.rio_packets.specs.Fields.{ftype_of}
use Rattle.io_packets.specs.declared.io.Io.{Io}
use Rattle.io_packets.specs.declared.io.Io.TheVariants.{NRead, NWrite, NWriteR, SWrite, Reply, BadRead, BadWriteR, BadWrite, Other as NoIo}
use Rattle.io_packets.specs.Reading.{io_of}
use Rattle.io_packets.specs.Serving.{is_within, memory_put, written, memory_after}
use Rattle.io_memory.specs.declared.meeting.Met.{Met}
use Rattle.io_memory.specs.declared.meeting.Met.TheVariants.{Read, Written, Failed, Done, Other}
use Rattle.io_memory.specs.Meeting.{met_read, met_write, met_at, met_of, met_in_turn, memory_held}
use Rattle.io_memory.specs.Laws.{ReadsAreHeld}

-- ---- what a meeting leaves is what its line says

-- a write
write_held : (memory : List ℕ) (ftype addr : ℕ) (load : List ℕ)
    → written memory addr load ≡ memory_held memory (met_write memory ftype addr load ∷ [])
write_held memory ftype addr load = by (is_within memory addr (length load))
  where
    by : (b : Bool) → (if b then memory_put memory addr load else memory)
        ≡ memory_held memory ((if b then Written addr load else Failed ftype) ∷ [])
    by true = refl
    by false = refl

-- a read
read_held : (memory : List ℕ) (ftype addr size : ℕ)
    → memory ≡ memory_held memory (met_read memory ftype addr size ∷ [])
read_held memory ftype addr size = by (is_within memory addr size)
  where
    by : (b : Bool)
        → memory
        ≡ memory_held memory
        ((if b then Read addr (slice_range memory addr (addr + size)) else Failed ftype) ∷ [])
    by true = refl
    by false = refl

pub after_held : (memory : List ℕ) (ftype : ℕ) (io : Io)
    → memory_after memory io ≡ memory_held memory (met_at memory ftype io ∷ [])
after_held memory ftype (NRead tid addr size) = read_held memory ftype addr size
after_held memory ftype (NWrite addr load) = write_held memory ftype addr load
after_held memory ftype (NWriteR tid addr load) = write_held memory ftype addr load
after_held memory ftype (SWrite addr load) = write_held memory ftype addr load
after_held memory ftype (Reply status tid load) = refl
after_held memory ftype (BadRead tid) = refl
after_held memory ftype (BadWriteR tid) = refl
after_held memory ftype BadWrite = refl
after_held memory ftype NoIo = refl

-- one line and then others
held-cons : (memory : List ℕ) (met : Met) (mets : List Met)
    → memory_held memory (met ∷ mets) ≡ memory_held (memory_held memory (met ∷ [])) mets
held-cons memory (Read addr load) mets = refl
held-cons memory (Written addr load) mets = refl
held-cons memory (Failed ftype) mets = refl
held-cons memory (Done tid status load) mets = refl
held-cons memory (Other ftype) mets = refl

-- ---- a read gives what stands in the memory

read_bytes : (memory : List ℕ) (ftype at size addr : ℕ) (load : List ℕ)
    → met_read memory ftype at size ≡ Read addr load
    → load ≡ slice_range memory addr (addr + length load)
read_bytes memory ftype at size addr load is = by (is_within memory at size) refl is
  where
    by : (b : Bool) → nat_le (at + size) (length memory) ≡ b
        → (if b then Read at (slice_range memory at (at + size)) else Failed ftype) ≡ Read addr load
        → load ≡ slice_range memory addr (addr + length load)
    by true within e =
        let place : at ≡ addr = cc in
        let bytes : slice_range memory at (at + size) ≡ load = cc in
        let fits = leb-true (at + size) (length memory) within in
        let taken = length-take (at + size - at) (drop at memory) in
        let rest = length-drop at memory in
        let long : length (slice_range memory at (at + size)) ≡ size =
        omega (arith, taken, rest, fits) in
        let count : size ≡ length load = sym long ∙ ap length bytes in
        sym bytes
        ∙ ap (λ n. slice_range memory at (at + n)) count
        ∙ ap (λ n. slice_range memory n (n + length load)) place
    by false within e = absurd (cc)

no_read : (memory : List ℕ) (ftype at : ℕ) (more : List ℕ) (addr : ℕ) (load : List ℕ)
    → met_write memory ftype at more ≡ Read addr load
    → load ≡ slice_range memory addr (addr + length load)
no_read memory ftype at more addr load is = by (is_within memory at (length more)) is
  where
    by : (b : Bool) → (if b then Written at more else Failed ftype) ≡ Read addr load
        → load ≡ slice_range memory addr (addr + length load)
    by true e = absurd (cc)
    by false e = absurd (cc)

bytes_read : (memory : List ℕ) (ftype : ℕ) (io : Io) (addr : ℕ) (load : List ℕ)
    → met_at memory ftype io ≡ Read addr load
    → load ≡ slice_range memory addr (addr + length load)
bytes_read memory ftype (NRead tid at size) addr load is =
    read_bytes memory ftype at size addr load is
bytes_read memory ftype (NWrite at more) addr load is = no_read memory ftype at more addr load is
bytes_read memory ftype (NWriteR tid at more) addr load is =
    no_read memory ftype at more addr load is
bytes_read memory ftype (SWrite at more) addr load is = no_read memory ftype at more addr load is
bytes_read memory ftype (Reply status tid more) addr load is = absurd (cc)
bytes_read memory ftype (BadRead tid) addr load is = absurd (cc)
bytes_read memory ftype (BadWriteR tid) addr load is = absurd (cc)
bytes_read memory ftype BadWrite addr load is = absurd (cc)
bytes_read memory ftype NoIo addr load is = absurd (cc)

-- ---- one packet after another

pub reads_held : ReadsAreHeld
reads_held memory [] k addr load is = absurd (cc)
reads_held memory (packet ∷ packets) zero addr load is =
    let first : met_of memory packet ≡ Read addr load = cc in
    bytes_read memory (ftype_of packet) (io_of packet) addr load first
reads_held memory (packet ∷ packets) (suc k) addr load is =
    let next = memory_after memory (io_of packet) in
    let met = met_of memory packet in
    let lines = take k (met_in_turn next packets) in
    let same : memory_held next lines ≡ memory_held memory (met ∷ lines) =
    ap (λ (m : List ℕ). memory_held m lines) (after_held memory (ftype_of packet) (io_of packet))
    ∙ sym (held-cons memory met lines) in
    reads_held next packets k addr load is
    ∙ ap (λ (m : List ℕ). slice_range m addr (addr + length load)) same
