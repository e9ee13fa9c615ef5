-- What a device owes and sends, one after another.
use Rattle.std.proofs.Common.{◌≡◌, ℕ, ◌≤◌, ◌+◌, ◌↔◌, IsTrue, IsFalse, true, false, Bool, MatchBool, List, [], ◌∷◌, ◌++◌, map, refl, sym, ap, ◌∙◌, subst}
use Rattle.std.proofs.lemmas.List.Elements.{All-nil}
use Rattle.fabric_script.specs.Scripts.{pieces_of}
use Rattle.conform_lines.specs.declared.counting.Counted.{Counted}
use Rattle.conform_lines.specs.declared.judging.Leeway.{Leeway}
use Rattle.conform_lines.specs.declared.judging.Owed.{Owed}
use Rattle.conform_lines.specs.Counting.{AnswerCounts, LinesComeTo}
use Rattle.conform_lines.specs.Tolerances.{JudgeState, Pays, IsAllowedAnswer, SaysAlike, counted_of, judged_by, most_late, owed_since}
use Rattle.conform_lines.proofs.CountLaws.{LinesComeTo-once}

-- what is owed is what is sent, and what is owed still
pub Pays-adds : (owed : List Owed) (sent : List Counted) (left : List Owed) → Pays owed sent left
    → counted_of owed ≡ sent ++ counted_of left
Pays-adds owed [] left h = ap counted_of (sym h)
Pays-adds [] (counted ∷ sent) left h = absurd h
Pays-adds (first ∷ owed) (counted ∷ sent) left h =
    ap (λ c. c ∷ counted_of owed) h.0 ∙ ap (λ l. counted ∷ l) (Pays-adds owed sent left h.1)

-- all of it is paid
pub Pays-all : (turns : ℕ) (sent : List Counted) → Pays (map (owed_since turns) sent) sent []
Pays-all turns [] = refl
Pays-all turns (counted ∷ sent) = (refl, Pays-all turns sent)

map-append : (turns : ℕ) (owed : List Owed) (sent : List Counted)
    → counted_of (owed ++ map (owed_since turns) sent) ≡ counted_of owed ++ sent
map-append turns [] [] = refl
map-append turns [] (counted ∷ sent) = ap (λ l. counted ∷ l) (map-append turns [] sent)
map-append turns (first ∷ owed) sent = ap (λ l. first.counted ∷ l) (map-append turns owed sent)

-- an answer that is allowed sends what is owed
pub sends_same : (its : Leeway) (right came : List ℕ) (at next : JudgeState)
    (allowed : IsAllowedAnswer its right came at next)
    → counted_of at.owed ++ allowed.right_counts.sent
    ≡ allowed.came_counts.sent ++ counted_of next.owed
sends_same its right came at next allowed =
    sym (map-append next.turns at.owed allowed.right_counts.sent)
    ∙ Pays-adds (at.owed ++ map (owed_since next.turns) allowed.right_counts.sent)
    allowed.came_counts.sent next.owed allowed.pays

alike : (is_state : Bool) (text : List ℕ) → MatchBool is_state (Unit {0}) (text ≡ text)
alike true text = tt
alike false text = refl

-- the right answer is allowed for itself
pub allowed_itself : (its : Leeway) (text : List ℕ) (at : JudgeState) (counts : AnswerCounts)
    → at.came ≡ at.right → at.owed ≡ [] → LinesComeTo at.right (pieces_of text) counts
    → IsAllowedAnswer its text text at (judged_by its at counts)
allowed_itself its text at counts same none comes = record {
  right_counts = counts;
  came_counts = counts;
  right_comes = comes;
  came_comes = subst (λ p. LinesComeTo p (pieces_of text) counts) (sym same) comes;
  says = alike its.is_state counts.other;
  right_place = refl;
  came_place = refl;
  turns = refl;
  pays =
      subst (λ o. Pays (o ++ map (owed_since (at.turns + its.turns)) counts.sent) counts.sent [])
      (sym none) (Pays-all (at.turns + its.turns) counts.sent);
  in_time = All-nil (λ (o : Owed). at.turns + its.turns ≤ o.turns + most_late);
}

-- ---- of the code

-- what the right answer and another come to, from where a judge stands
module _ {shown at : JudgeState} (is : shown ≡ at) (its : Leeway) (right came : List ℕ)
    (right_counts came_counts : AnswerCounts)
    (right_shown : LinesComeTo shown.right (pieces_of right) right_counts)
    (came_shown : LinesComeTo shown.came (pieces_of came) came_counts) where
  pub right_comes : LinesComeTo at.right (pieces_of right) right_counts
  right_comes =
      subst (λ (j : JudgeState). LinesComeTo j.right (pieces_of right) right_counts) is right_shown

  pub came_comes : LinesComeTo at.came (pieces_of came) came_counts
  came_comes =
      subst (λ (j : JudgeState). LinesComeTo j.came (pieces_of came) came_counts) is came_shown

  -- what holds of an answer that is allowed, by what both come to
  pub allowed_says : (next : JudgeState) → IsAllowedAnswer its right came at next
      → SaysAlike its right_counts.other came_counts.other
  allowed_says next h =
      subst (λ (c : AnswerCounts). SaysAlike its c.other came_counts.other)
      (LinesComeTo-once at.right (pieces_of right) h.right_counts right_counts h.right_comes
      right_comes)
      (subst (λ (c : AnswerCounts). SaysAlike its h.right_counts.other c.other)
      (LinesComeTo-once at.came (pieces_of came) h.came_counts came_counts h.came_comes came_comes)
      h.says)

  pub allowed_pays : (next : JudgeState) → IsAllowedAnswer its right came at next
      → Pays (at.owed ++ map (owed_since (at.turns + its.turns)) right_counts.sent)
      came_counts.sent next.owed
  allowed_pays next h =
      subst (λ t. Pays (at.owed ++ map (owed_since t) right_counts.sent) came_counts.sent next.owed)
      h.turns
      (subst (λ (c : AnswerCounts). Pays (at.owed ++ map (owed_since next.turns) c.sent)
      came_counts.sent next.owed)
      (LinesComeTo-once at.right (pieces_of right) h.right_counts right_counts h.right_comes
      right_comes)
      (subst (λ (c : AnswerCounts).
      Pays (at.owed ++ map (owed_since next.turns) h.right_counts.sent) c.sent next.owed)
      (LinesComeTo-once at.came (pieces_of came) h.came_counts came_counts h.came_comes came_comes)
      h.pays))

-- what is owed still is one thing
pub Pays-once : (owed : List Owed) (sent : List Counted) (left other : List Owed)
    → Pays owed sent left → Pays owed sent other → left ≡ other
Pays-once owed [] left other h k = h ∙ sym k
Pays-once [] (counted ∷ sent) left other h k = absurd h
Pays-once (first ∷ owed) (counted ∷ sent) left other h k = Pays-once owed sent left other h.1 k.1

-- what a test says is not so
pub no_iff : {P : Type 0} (test : Bool) → IsFalse test → (IsTrue test ↔ P) → ¬ P
no_iff test h iff p = let yes = iff.1 p in absurd cc
