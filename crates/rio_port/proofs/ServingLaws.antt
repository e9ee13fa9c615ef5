-- Lines that are served, one after another.
use Rattle.std.proofs.Common.{◌≡◌, ◌≢◌, ℕ, ◌+◌, ◌-◌, ◌^◌, Option, List, [], ◌∷◌, ◌++◌, refl, sym, ap, ◌∙◌, subst, append-nil, append_assoc}
use Rattle.std.specs.Io.KnownBytes.{Consumes}
use Rattle.rio_chars.specs.Written.{Outgoing, Writes}
use Rattle.live_lines.specs.Lines.{IsLine, with_feed}
use Rattle.live_lines.specs.Serving.{ServesLines, end_status}
use Rattle.live_lines.specs.declared.input.LineEnd.{LineEnd}
use Rattle.live_lines.specs.declared.input.LineEnd.TheVariants.{End, Fault, TooLong, NoMemory}
use Rattle.live_lines.specs.declared.status.LiveStatus.{LiveStatus}
use Rattle.live_lines.specs.declared.status.LiveStatus.TheVariants as Status
use Rattle.live_lines.specs.declared.status.LiveStatus.TheVariants.{Undetected}
use Rattle.live_lines.proofs.ServingLaws.{served_none, Going, Going-begin, Going-line, Going-told, Going-read}
use Rattle.port_lines.specs.Answers.{ClockedAnswer, standing_at, behind_text}
use Rattle.port_lines.specs.Clocks.{ClockedState}
use Rattle.port_lines.specs.Lines.{AnswersLine, PortAnswersLines}
use Rattle.rio_port.specs.Program.{ServesFrom}

-- a line more is answered
pub AnswersLines-more : (port : ClockedState) (lines : List (List ℕ)) (line : List ℕ)
    (so_far next : ClockedAnswer) → PortAnswersLines port lines so_far
    → AnswersLine so_far.stands line next
    → PortAnswersLines port (lines ++ line ∷ []) (behind_text so_far.text next)
AnswersLines-more port [] line so_far next h k = (
  next,
  standing_at next.stands [],
  subst (λ p. AnswersLine p line next) (ap (λ (a : ClockedAnswer). a.stands) h) k,
  refl,
  ap (standing_at next.stands)
      (ap (λ (a : ClockedAnswer). a.text ++ next.text) h ∙ sym (append-nil next.text)),
)
AnswersLines-more port (other ∷ lines) line so_far next h k = (
  h.0,
  behind_text h.1.text next,
  h.2,
  AnswersLines-more h.0.stands lines line h.1 next h.3
      (subst (λ p. AnswersLine p line next) (ap (λ (a : ClockedAnswer). a.stands) h.4) k),
  ap (λ (a : ClockedAnswer). standing_at next.stands (a.text ++ next.text)) h.4
      ∙ ap (standing_at next.stands) (append_assoc h.0.text h.1.text next.text),
)

-- there is no further line, which is no event that was not sent
pub end_is_sent : (end : LineEnd) → end_status end ≢ Undetected
end_is_sent End same = absurd cc
end_is_sent Fault same = absurd cc
end_is_sent TooLong same = absurd cc
end_is_sent NoMemory same = absurd cc

-- nothing was served, since there was no memory
pub unserved : (port : ClockedState) (status : LiveStatus) (left : Option (List ℕ))
    (read_faults : ℕ) (written : Option (List ℕ)) (write_faults : ℕ) → status ≡ Status.NoMemory
    → ServesFrom port status left left read_faults read_faults written written write_faults
    write_faults
unserved port status left read_faults written write_faults is = rw is record {
  lines = [];
  answer = standing_at port [];
  answers = refl;
  ends = λ same. absurd cc;
  serves = served_none (2 ^ 64 - 1) left written read_faults write_faults;
}

-- Lines were served so far, and these bytes were read behind the last one.
pub record Served (begun out : Outgoing) (port now : ClockedState) (left left_now : Option (List ℕ))
    (pending : List ℕ) (count : ℕ) (read_faults read_faults_now : ℕ) : Type 0 where
  pub lines : List (List ℕ)
  pub answer : ClockedAnswer
  pub answers : PortAnswersLines port lines answer
  pub stands : now ≡ answer.stands
  pub going : Going begun out left left_now pending count read_faults read_faults_now lines
      answer.text

module _ (begun : Outgoing) (port : ClockedState) (left : Option (List ℕ)) (read_faults : ℕ) where
  pub Served-begin : (pending : List ℕ) → pending ≡ []
      → Served begun begun port port left left pending 0 read_faults read_faults
  Served-begin pending none = record {
    lines = [];
    answer = standing_at port [];
    answers = refl;
    stands = refl;
    going = Going-begin begun left read_faults pending none;
  }

  -- a line more was read and answered
  pub Served-line : {out next : Outgoing} {now after : ClockedState}
      {left_now left_next : Option (List ℕ)} (pending pending_next line taken : List ℕ)
      {count : ℕ} (read_faults_now read_faults_next : ℕ) (answer : ClockedAnswer)
      → Served begun out port now left left_now pending count read_faults read_faults_now
      → Consumes left_now left_next taken → pending ++ taken ≡ with_feed line ++ pending_next
      → IsLine line → AnswersLine now line answer → after ≡ answer.stands
      → Writes out next answer.text → read_faults_next ≡ read_faults_now
      → Served begun next port after left left_next pending_next (count + 1)
      read_faults read_faults_next
  Served-line {out} {next} {now} {after} {left_now} {left_next} pending pending_next line taken
      {count} read_faults_now read_faults_next answer h more is good answers stands told same =
      record {
        lines = h.lines ++ line ∷ [];
        answer = behind_text h.answer.text answer;
        answers =
            AnswersLines-more port h.lines line h.answer answer h.answers
            (subst (λ p. AnswersLine p line answer) h.stands answers);
        stands = stands;
        going =
            Going-told begun left read_faults pending_next read_faults_next
            (h.lines ++ line ∷ []) h.answer.text answer.text
            (Going-line begun left read_faults pending pending_next line taken
            read_faults_now read_faults_next h.lines h.answer.text h.going more is good same)
            told;
      }

  -- bytes were read that are no line, and the port stays
  pub Served-read : {out : Outgoing} {now : ClockedState} {left_now left_next : Option (List ℕ)}
      (pending taken rest : List ℕ) {count : ℕ} (read_faults_now read_faults_next : ℕ)
      → Served begun out port now left left_now pending count read_faults read_faults_now
      → Consumes left_now left_next taken → pending ++ taken ≡ rest
      → read_faults_next ≡ read_faults_now
      → Served begun out port now left left_next rest count read_faults read_faults_next
  Served-read pending taken rest read_faults_now read_faults_next h more is same = record {
    lines = h.lines;
    answer = h.answer;
    answers = h.answers;
    stands = h.stands;
    going =
        Going-read begun left read_faults pending taken rest read_faults_now
        read_faults_next h.lines h.answer.text h.going more is same;
  }

-- the lines that were served are all, where it ended
pub Served-ends : {begun out : Outgoing} {port now : ClockedState}
    {left left_now : Option (List ℕ)} {pending : List ℕ} {count read_faults read_faults_now : ℕ}
    {status : LiveStatus} {left_after written written_after : Option (List ℕ)}
    {faults_before faults_after write_faults write_faults_after : ℕ}
    → (h : Served begun out port now left left_now pending count read_faults read_faults_now)
    → status ≢ Undetected
    → ServesLines (2 ^ 64 - 1) status left left_after faults_before faults_after
    written written_after write_faults write_faults_after h.lines h.answer.text
    → ServesFrom port status left left_after faults_before faults_after
    written written_after write_faults write_faults_after
Served-ends h ends serves = record {
  lines = h.lines;
  answer = h.answer;
  answers = h.answers;
  ends = ends;
  serves = serves;
}
