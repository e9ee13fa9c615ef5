-- Texts that spell something, and texts that spell nothing.
use Rattle.std.proofs.Common.{◌≡◌, ℕ, List, Option, Some, None, refl, sym, subst}
use Rattle.rio_chars.specs.Written.{Outgoing, Writes}
use Rattle.rio_lane.specs.declared.ends.LaneEnds.{LaneEnds}
use Rattle.rio_lane.specs.LaneAnswers.{LaneAnswer, lane_says, AnsweredAs}

module _ {X : Type 0} (Spells : List (List ℕ) → X → Type 0)
    {words others : List (List ℕ)} where
  pub spelled_text : {Answers : Option X → Type 0} (x : X) → words ≡ others
      → Spells words x → Answers (Some x) → AnsweredAs (Spells others) Answers
  spelled_text x are spelled is = record {
    read = Some x;
    reads = subst (λ (ws : List (List ℕ)). Spells ws x) are spelled;
    is = is;
  }

  -- it is refused, and the lane stays as it was
  pub refused_text : {ends : LaneEnds} {old new : Outgoing} (said : List ℕ)
      (Answers : Option X → LaneAnswer → Type 0) → Answers None (lane_says ends said)
      → words ≡ others → ((x : X) → ¬ Spells words x) → Writes old new said
      → (answer : LaneAnswer)
      × AnsweredAs (Spells others) (λ read. Answers read answer)
      × (ends ≡ answer.ends) × Writes old new answer.text
  refused_text {ends} said Answers is are none told = (
    lane_says ends said,
    record {
      read = None;
      reads = λ x h. none x (subst (λ (ws : List (List ℕ)). Spells ws x) (sym are) h);
      is = is;
    },
    refl,
    told,
  )
