-- The packet of an answer is met as what it was made of.
use Rattle.std.proofs.Common.{◌≡◌, ℕ, ◌+◌, ◌-◌, Bool, true, false, Some, None, List, length, drop, refl, ap, subst, arith, if◌then◌else◌, length-take, length-drop, leb-true}
use Rattle.std.specs.Prelude.{slice_range, nat_le}
use Rattle.rio_packets.specs.Fields.{ftype_of}
use Rattle.io_packets.specs.declared.io.Io.{Io}
use Rattle.io_packets.specs.declared.io.Io.TheVariants.{NRead, NWrite, NWriteR, SWrite, Reply, BadRead, BadWriteR, BadWrite, Other as NoIo}
use Rattle.io_packets.specs.Forms.{is_size, IsGood, CanBeRead}
use Rattle.io_packets.specs.Reading.{io_of}
use Rattle.io_packets.specs.Serving.{is_within, answer_to}
use Rattle.io_packets.proofs.ReadLaws.{io_good}
use Rattle.io_packets.proofs.WriteLaws.{reads_back}
use Rattle.io_memory.specs.Meeting.{met_at, met_without}
use Rattle.io_memory.specs.Laws.{AnswersAreDone}

-- ---- what is answered can be written

read_good : (memory : List ℕ) (tid addr size : ℕ) (answer : Io) → is_size size ≡ true
    → answer_to memory (NRead tid addr size) ≡ Some answer → IsGood answer
read_good memory tid addr size answer good is = by (is_within memory addr size) refl is
  where
    by : (b : Bool) → nat_le (addr + size) (length memory) ≡ b
        → (if b then Some (Reply 0 tid (Some (slice_range memory addr (addr + size))))
        else Some (Reply 7 tid None)) ≡ Some answer
        → IsGood answer
    by true within e =
        let fits = leb-true (addr + size) (length memory) within in
        let taken = length-take (addr + size - addr) (drop addr memory) in
        let rest = length-drop addr memory in
        let long : size ≡ length (slice_range memory addr (addr + size)) =
        omega (arith, taken, rest, fits) in
        let same : Reply 0 tid (Some (slice_range memory addr (addr + size))) ≡ answer = cc in
        subst IsGood same (refl, subst (λ n. is_size n ≡ true) long good)
    by false within e = let same : Reply 7 tid None ≡ answer = cc in subst IsGood same refl

write_good : (memory : List ℕ) (tid addr : ℕ) (load : List ℕ) (answer : Io)
    → answer_to memory (NWriteR tid addr load) ≡ Some answer → IsGood answer
write_good memory tid addr load answer is = by (is_within memory addr (length load)) is
  where
    by : (b : Bool) → (if b then Some (Reply 0 tid None) else Some (Reply 7 tid None)) ≡ Some answer
        → IsGood answer
    by true e = let same : Reply 0 tid None ≡ answer = cc in subst IsGood same refl
    by false e = let same : Reply 7 tid None ≡ answer = cc in subst IsGood same refl

answer_good : (memory : List ℕ) (io answer : Io) → CanBeRead io
    → answer_to memory io ≡ Some answer → IsGood answer
answer_good memory (NRead tid addr size) answer good is =
    read_good memory tid addr size answer good.1 is
answer_good memory (NWriteR tid addr load) answer good is =
    write_good memory tid addr load answer is
answer_good memory (BadRead tid) answer good is =
    let same : Reply 7 tid None ≡ answer = cc in subst IsGood same refl
answer_good memory (BadWriteR tid) answer good is =
    let same : Reply 7 tid None ≡ answer = cc in subst IsGood same refl
answer_good memory (NWrite addr load) answer good is = absurd (cc)
answer_good memory (SWrite addr load) answer good is = absurd (cc)
answer_good memory (Reply status tid load) answer good is = absurd (cc)
answer_good memory BadWrite answer good is = absurd (cc)
answer_good memory NoIo answer good is = absurd (cc)

-- ---- and is read back where it comes

pub answers_done : AnswersAreDone
answers_done memory packet prio dest source status tid load answer is small form =
    let reply = Reply status tid load in
    let good = answer_good memory (io_of packet) reply (io_good packet) is in
    let read = reads_back prio dest source reply answer small good form in (
      (λ other. ap (λ io. met_at other (ftype_of answer) io) read),
      ap (λ io. met_without (ftype_of answer) io) read,
    )
