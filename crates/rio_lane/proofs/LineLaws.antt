-- Lines that are served, one after another.
use Rattle.std.proofs.Common.{◌≡◌, ℕ, ◌+◌, Option, List, [], ◌∷◌, ◌++◌, refl, sym, ap, ◌∙◌, subst, append-nil, append_assoc}
use Rattle.std.specs.Io.KnownBytes.{Consumes}
use Rattle.rio_chars.specs.Written.{Outgoing, Writes}
use Rattle.rio_chars.proofs.WrittenLaws.{Writes-then}
use Rattle.live_lines.specs.Lines.{IsLine, with_feed}
use Rattle.live_lines.proofs.ServingLaws.{Going, Going-begin, Going-line, Going-told, Going-read}
use Rattle.rio_lane.specs.declared.ends.LaneEnds.{LaneEnds}
use Rattle.rio_lane.specs.declared.ends.LaneTask.{LaneTask}
use Rattle.rio_lane.specs.LaneAnswers.{LaneAnswer, lane_says}
use Rattle.rio_lane.specs.LaneLines.{AnswersLane, AnswersLanes, after_said}

module _ (task : LaneTask) (commas : ℕ) where
  -- a line more is answered
  pub AnswersLanes-more : (ends : LaneEnds) (lines : List (List ℕ)) (line : List ℕ)
      (so_far next : LaneAnswer) → AnswersLanes task commas ends lines so_far
      → AnswersLane task commas so_far.ends line next
      → AnswersLanes task commas ends (lines ++ line ∷ []) (after_said so_far.text next)
  AnswersLanes-more ends [] line so_far next h k = (
    next,
    lane_says next.ends [],
    subst (λ p. AnswersLane task commas p line next) (ap (λ (a : LaneAnswer). a.ends) h) k,
    refl,
    ap (lane_says next.ends)
        (ap (λ (a : LaneAnswer). a.text ++ next.text) h ∙ sym (append-nil next.text)),
  )
  AnswersLanes-more ends (other ∷ lines) line so_far next h k = (
    h.0,
    after_said h.1.text next,
    h.2,
    AnswersLanes-more h.0.ends lines line h.1 next h.3
        (subst (λ p. AnswersLane task commas p line next) (ap (λ (a : LaneAnswer). a.ends) h.4) k),
    ap (λ (a : LaneAnswer). lane_says next.ends (a.text ++ next.text)) h.4
        ∙ ap (lane_says next.ends) (append_assoc h.0.text h.1.text next.text),
  )

-- Lines were served so far, and these bytes were read after the last one.
pub record LanesServed (task : LaneTask) (commas : ℕ) (begun out : Outgoing) (ends now : LaneEnds)
    (left left_now : Option (List ℕ))
    (pending : List ℕ) (count : ℕ) (read_faults read_faults_now : ℕ) : Type 0 where
  pub lines : List (List ℕ)
  pub answer : LaneAnswer
  pub answers : AnswersLanes task commas ends lines answer
  pub stands : now ≡ answer.ends
  pub going : Going begun out left left_now pending count read_faults read_faults_now lines
      answer.text

module _ (task : LaneTask) (commas : ℕ) (begun : Outgoing) (ends : LaneEnds)
    (left : Option (List ℕ)) (read_faults : ℕ) where
  pub LanesServed-begin : (pending : List ℕ) → pending ≡ []
      → LanesServed task commas begun begun ends ends left left pending 0 read_faults read_faults
  LanesServed-begin pending none = record {
    lines = [];
    answer = lane_says ends [];
    answers = refl;
    stands = refl;
    going = Going-begin begun left read_faults pending none;
  }

  -- a line more was read and answered, and all of the answer was written
  pub LanesServed-line : {out told next : Outgoing} {now after : LaneEnds}
      {left_now left_next : Option (List ℕ)} (pending pending_next line taken : List ℕ)
      {count : ℕ} (read_faults_now read_faults_next : ℕ) (answer : LaneAnswer)
      → LanesServed task commas begun out ends now left left_now pending count
      read_faults read_faults_now
      → Consumes left_now left_next taken → pending ++ taken ≡ with_feed line ++ pending_next
      → IsLine line → AnswersLane task commas now line answer → after ≡ answer.ends
      → Writes out told answer.text → Writes told next [] → read_faults_next ≡ read_faults_now
      → LanesServed task commas begun next ends after left left_next pending_next (count + 1)
      read_faults read_faults_next
  LanesServed-line {out} {told} {next} {now} {after} {left_now} {left_next} pending pending_next
      line taken {count} read_faults_now read_faults_next answer h more is good answers stands
      tells writes same =
      record {
        lines = h.lines ++ line ∷ [];
        answer = after_said h.answer.text answer;
        answers =
            AnswersLanes-more task commas ends h.lines line h.answer answer h.answers
            (subst (λ p. AnswersLane task commas p line answer) h.stands answers);
        stands = stands;
        going =
            Going-told begun left read_faults pending_next read_faults_next
            (h.lines ++ line ∷ []) h.answer.text answer.text
            (Going-line begun left read_faults pending pending_next line taken
            read_faults_now read_faults_next h.lines h.answer.text h.going more is good same)
            (subst (Writes out next) (append-nil answer.text)
            (Writes-then answer.text [] tells writes));
      }

  -- bytes were read that are no line, and the ends stay
  pub LanesServed-read : {out : Outgoing} {now : LaneEnds} {left_now left_next : Option (List ℕ)}
      (pending taken rest : List ℕ) {count : ℕ} (read_faults_now read_faults_next : ℕ)
      → LanesServed task commas begun out ends now left left_now pending count
      read_faults read_faults_now
      → Consumes left_now left_next taken → pending ++ taken ≡ rest
      → read_faults_next ≡ read_faults_now
      → LanesServed task commas begun out ends now left left_next rest count
      read_faults read_faults_next
  LanesServed-read pending taken rest read_faults_now read_faults_next h more is same = record {
    lines = h.lines;
    answer = h.answer;
    answers = h.answers;
    stands = h.stands;
    going =
        Going-read begun left read_faults pending taken rest read_faults_now
        read_faults_next h.lines h.answer.text h.going more is same;
  }
