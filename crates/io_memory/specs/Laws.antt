-- Laws of packets that come to a memory, and of the answers to them.
use Rattle.std.specs.Prelude.{◌≡◌, ℕ, ◌+◌, ◌<◌, ◌↔◌, List, length, take, slice_get, slice_range, Option, Some, None}
use Rattle.rio_packets.specs.LinkForm.{LinkForm}
use Rattle.rio_packets.specs.Fields.{ftype_of}
use Rattle.io_packets.specs.declared.io.Io.{Io}
use Rattle.io_packets.specs.declared.io.Io.TheVariants.{NRead, NWriteR, BadRead, BadWriteR, Reply}
use Rattle.io_packets.specs.Reading.{io_of}
use Rattle.io_packets.specs.Writing.{io_body}
use Rattle.io_packets.specs.Serving.{answer_to}
use Rattle.io_memory.specs.declared.meeting.Met.{Met}
use Rattle.io_memory.specs.declared.meeting.Met.TheVariants.{Read, Written, Failed, Done}
use Rattle.io_memory.specs.Meeting.{met_of, met_without, met_in_turn, memory_held}

-- The bytes that are read are those that the writes before left.
abbrev pub ReadsAreHeld : Type 0
ReadsAreHeld = (memory : List ℕ) (packets : List (List ℕ)) (k addr : ℕ) (load : List ℕ)
    → slice_get (met_in_turn memory packets) k ≡ Some (Read addr load)
    → load ≡ slice_range (memory_held memory (take k (met_in_turn memory packets)))
    addr (addr + length load)

-- The packet of an answer is a response wherever it comes, with the number, the status and the data
-- that it was made of.
abbrev pub AnswersAreDone : Type 0
AnswersAreDone = (memory packet : List ℕ) (prio dest source status tid : ℕ)
    (load : Option (List ℕ)) (answer : List ℕ)
    → answer_to memory (io_of packet) ≡ Some (Reply status tid load) → prio < 4
    → LinkForm (io_body prio dest source (Reply status tid load)) answer
    → ((other : List ℕ) → met_of other answer ≡ Done tid status load)
    × (met_without (ftype_of answer) (io_of answer) ≡ Done tid status load)

-- ---- what an answer tells of the memory

-- the number of a request that is to be answered
abbrev pub io_number_of : Io → Option ℕ
io_number_of (NRead tid addr size) = Some tid
io_number_of (NWriteR tid addr load) = Some tid
io_number_of (BadRead tid) = Some tid
io_number_of (BadWriteR tid) = Some tid
io_number_of _ = None

-- The answer to the request of a number tells what became of it: a read gives the bytes that were
-- read, a write says that it is done, and status 7 says that it failed.
pub record IsToldBack (met : Met) (tid : ℕ) (answer : Option Io) : Type 0 where
  pub read : (load : List ℕ) → ((addr : ℕ) × (met ≡ Read addr load))
      ↔ (answer ≡ Some (Reply 0 tid (Some load)))
  pub written : ((addr : ℕ) × (load : List ℕ) × (met ≡ Written addr load))
      ↔ (answer ≡ Some (Reply 0 tid None))
  pub failed : ((ftype : ℕ) × (met ≡ Failed ftype)) ↔ (answer ≡ Some (Reply 7 tid None))

abbrev pub AnswersTellBack : Type 0
AnswersTellBack = (memory packet : List ℕ) (tid : ℕ) → io_number_of (io_of packet) ≡ Some tid
    → IsToldBack (met_of memory packet) tid (answer_to memory (io_of packet))

-- Nothing else is answered.
abbrev pub OthersAreUnanswered : Type 0
OthersAreUnanswered = (memory packet : List ℕ)
    → (io_number_of (io_of packet) ≡ None) ↔ (answer_to memory (io_of packet) ≡ None)
