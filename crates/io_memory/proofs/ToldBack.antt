-- An answer tells what became of its request at the memory.
use Rattle.std.proofs.Common.{◌≡◌, ℕ, ◌+◌, Bool, true, false, ◌↔◌, List, length, Some, None, refl, subst, if◌then◌else◌}
use Rattle.std.specs.Prelude.{slice_range}
use Rattle.rio_packets.specs.Fields.{ftype_of}
use Rattle.io_packets.specs.declared.io.Io.{Io}
use Rattle.io_packets.specs.declared.io.Io.TheVariants.{NRead, NWrite, NWriteR, SWrite, Reply, BadRead, BadWriteR, BadWrite, Other as NoIo}
use Rattle.io_packets.specs.Reading.{io_of}
use Rattle.io_packets.specs.Serving.{is_within, answer_to}
use Rattle.io_memory.specs.declared.meeting.Met.TheVariants.{Read, Written, Failed}
use Rattle.io_memory.specs.Meeting.{met_at}
use Rattle.io_memory.specs.Laws.{io_number_of, IsToldBack, AnswersTellBack, OthersAreUnanswered}

failed_back : (tid ftype : ℕ) → IsToldBack (Failed ftype) tid (Some (Reply 7 tid None))
failed_back tid ftype = record {
  read = λ load. (λ met. let no = met.1 in absurd (cc), λ answer. absurd (cc));
  written = (λ met. let no = met.2 in absurd (cc), λ answer. absurd (cc));
  failed = (λ met. refl, λ answer. (ftype, refl));
}

module _ (memory : List ℕ) (tid ftype addr : ℕ) where
  read_back : (size : ℕ) (within : Bool)
      → IsToldBack
      (if within then Read addr (slice_range memory addr (addr + size)) else Failed ftype) tid
      (if within then Some (Reply 0 tid (Some (slice_range memory addr (addr + size))))
      else Some (Reply 7 tid None))
  read_back size true = record {
    read = λ load. (λ met. let is = met.1 in cc, λ answer. (addr, cc));
    written = (λ met. let no = met.2 in absurd (cc), λ answer. absurd (cc));
    failed = (λ met. let no = met.1 in absurd (cc), λ answer. absurd (cc));
  }
  read_back size false = failed_back tid ftype

  write_back : (load : List ℕ) (within : Bool)
      → IsToldBack (if within then Written addr load else Failed ftype) tid
      (if within then Some (Reply 0 tid None) else Some (Reply 7 tid None))
  write_back load true = record {
    read = λ read. (λ met. let no = met.1 in absurd (cc), λ answer. absurd (cc));
    written = (λ met. refl, λ answer. (addr, load, refl));
    failed = (λ met. let no = met.1 in absurd (cc), λ answer. absurd (cc));
  }
  write_back load false = failed_back tid ftype

back_at : (memory : List ℕ) (ftype tid : ℕ) (io : Io) → io_number_of io ≡ Some tid
    → IsToldBack (met_at memory ftype io) tid (answer_to memory io)
back_at memory ftype tid (NRead number addr size) is =
    let same : number ≡ tid = cc in
    subst (λ n. IsToldBack (met_at memory ftype (NRead number addr size)) n
    (answer_to memory (NRead number addr size))) same
    (read_back memory number ftype addr size (is_within memory addr size))
back_at memory ftype tid (NWriteR number addr load) is =
    let same : number ≡ tid = cc in
    subst (λ n. IsToldBack (met_at memory ftype (NWriteR number addr load)) n
    (answer_to memory (NWriteR number addr load))) same
    (write_back memory number ftype addr load (is_within memory addr (length load)))
back_at memory ftype tid (BadRead number) is =
    let same : number ≡ tid = cc in
    subst (λ n. IsToldBack (Failed ftype) n (Some (Reply 7 number None))) same
    (failed_back number ftype)
back_at memory ftype tid (BadWriteR number) is =
    let same : number ≡ tid = cc in
    subst (λ n. IsToldBack (Failed ftype) n (Some (Reply 7 number None))) same
    (failed_back number ftype)
back_at memory ftype tid (NWrite addr load) is = absurd (cc)
back_at memory ftype tid (SWrite addr load) is = absurd (cc)
back_at memory ftype tid (Reply status number load) is = absurd (cc)
back_at memory ftype tid BadWrite is = absurd (cc)
back_at memory ftype tid NoIo is = absurd (cc)

pub answers_tell_back : AnswersTellBack
answers_tell_back memory packet tid is = back_at memory (ftype_of packet) tid (io_of packet) is

-- ---- what is not answered

some_answer : (within : Bool) (done failed : Io)
    → (if within then Some done else Some failed) ≡ None → ⊥
some_answer true done failed is = absurd (cc)
some_answer false done failed is = absurd (cc)

unanswered_at : (memory : List ℕ) (io : Io)
    → (io_number_of io ≡ None) ↔ (answer_to memory io ≡ None)
unanswered_at memory (NRead tid addr size) = (
  λ none. absurd (cc),
  λ none. absurd (some_answer (is_within memory addr size)
      (Reply 0 tid (Some (slice_range memory addr (addr + size)))) (Reply 7 tid None) none),
)
unanswered_at memory (NWriteR tid addr load) = (
  λ none. absurd (cc),
  λ none. absurd (some_answer (is_within memory addr (length load)) (Reply 0 tid None)
      (Reply 7 tid None) none),
)
unanswered_at memory (BadRead tid) = (λ none. absurd (cc), λ none. absurd (cc))
unanswered_at memory (BadWriteR tid) = (λ none. absurd (cc), λ none. absurd (cc))
unanswered_at memory (NWrite addr load) = (λ none. refl, λ none. refl)
unanswered_at memory (SWrite addr load) = (λ none. refl, λ none. refl)
unanswered_at memory (Reply status tid load) = (λ none. refl, λ none. refl)
unanswered_at memory BadWrite = (λ none. refl, λ none. refl)
unanswered_at memory NoIo = (λ none. refl, λ none. refl)

pub others_are_unanswered : OthersAreUnanswered
others_are_unanswered memory packet = unanswered_at memory (io_of packet)
