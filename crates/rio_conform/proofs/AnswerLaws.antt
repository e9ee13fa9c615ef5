-- The lines of an answer, one after another.
use Rattle.std.proofs.Common.{◌≡◌, ◌≢◌, ℕ, Option, List, [], ◌∷◌, ◌++◌, All, codes, refl, sym, ap, ◌∙◌, append-nil, append_assoc}
use Rattle.std.specs.List.{flat_map}
use Rattle.std.specs.Io.KnownBytes.{Consumes}
use Rattle.std.proofs.KnownBytes.{Consumes-trans, Consumes-nil}
use Rattle.std.proofs.lemmas.Grind.{flat_map-append}
use Rattle.std.proofs.lemmas.List.Elements.{All-nil, All-push}
use Rattle.live_lines.specs.declared.input.LineEnd.{LineEnd}
use Rattle.live_lines.specs.declared.input.LineEnd.TheVariants.{End, Fault, TooLong, NoMemory}
use Rattle.live_lines.specs.Lines.{IsLine, LinesStop, with_feed}
use Rattle.rio_conform.specs.Answers.{Came, EndsEarly}

-- Lines of an answer were read, of which none is `ok`.
pub record ReadSoFar (left left_now : Option (List ℕ)) (pending pending_now answer : List ℕ)
    : Type 0 where
  pub lines : List (List ℕ)
  pub are_lines : All (λ line. IsLine line) lines
  pub none_ends : All (λ line. line ≢ codes "ok") lines
  pub answer_is : answer ≡ flat_map with_feed lines
  pub came : Came left left_now pending pending_now answer

pub ReadSoFar-begin : (left : Option (List ℕ)) (pending : List ℕ)
    → ReadSoFar left left pending pending []
ReadSoFar-begin left pending = record {
  lines = [];
  are_lines = All-nil (λ line. IsLine line);
  none_ends = All-nil (λ line. line ≢ codes "ok");
  answer_is = refl;
  came = record { taken = []; read = Consumes-nil left; are = append-nil pending };
}

-- one line behind what came
pub Came-then : {left mid last : Option (List ℕ)} {pending pending_mid pending_last : List ℕ}
    (answer line : List ℕ) → Came left mid pending pending_mid answer
    → ((taken : List ℕ) × Consumes mid last taken
    × (pending_mid ++ taken ≡ with_feed line ++ pending_last))
    → Came left last pending pending_last (answer ++ with_feed line)
Came-then {left} {mid} {last} {pending} {pending_mid} {pending_last} answer line h k = record {
  taken = h.taken ++ k.0;
  read = Consumes-trans left mid last h.taken k.0 h.read k.1;
  are =
      sym (append_assoc pending h.taken k.0) ∙ ap (λ l. l ++ k.0) h.are
      ∙ append_assoc answer pending_mid k.0 ∙ ap (λ l. answer ++ l) k.2
      ∙ sym (append_assoc answer (with_feed line) pending_last);
}

module _ {left mid last : Option (List ℕ)} {pending pending_mid pending_last answer : List ℕ}
    (line : List ℕ) (h : ReadSoFar left mid pending pending_mid answer) (good : IsLine line)
    (read : (taken : List ℕ) × Consumes mid last taken
    × (pending_mid ++ taken ≡ with_feed line ++ pending_last)) where
  came : Came left last pending pending_last (answer ++ with_feed line)
  came = Came-then answer line h.came read

  -- a line more that is not `ok`
  pub ReadSoFar-more : line ≢ codes "ok"
      → ReadSoFar left last pending pending_last (answer ++ with_feed line)
  ReadSoFar-more other = record {
    lines = h.lines ++ line ∷ [];
    are_lines = All-push (λ l. IsLine l) h.lines line h.are_lines good;
    none_ends = All-push (λ l. l ≢ codes "ok") h.lines line h.none_ends other;
    answer_is =
        ap (λ l. l ++ with_feed line) h.answer_is
        ∙ ap (λ l. flat_map with_feed h.lines ++ l) (sym (append-nil (with_feed line)))
        ∙ sym (flat_map-append with_feed h.lines (line ∷ []));
    came = came;
  }

  pub ReadSoFar-came : Came left last pending pending_last (answer ++ with_feed line)
  ReadSoFar-came = came

-- the source is at its end behind such lines
pub ended_at : {left mid last : Option (List ℕ)} {pending pending_mid answer : List ℕ}
    (end : LineEnd) (faults faults_after : ℕ) → ReadSoFar left mid pending pending_mid answer
    → ((taken : List ℕ) × Consumes mid last taken
    × LinesStop end last faults faults_after (pending_mid ++ taken))
    → end ≡ End → EndsEarly left last pending
ended_at {left} {mid} {last} {pending} {pending_mid} {answer} End faults faults_after h k same =
    record {
      at_end = k.2.0;
      taken = h.came.taken ++ k.0;
      read = Consumes-trans left mid last h.came.taken k.0 h.came.read k.1;
      none = record {
        lines = h.lines;
        are_lines = h.are_lines;
        none_ends = h.none_ends;
        behind = pending_mid ++ k.0;
        no_feed = k.2.1;
        came_is =
            sym (append_assoc pending h.came.taken k.0) ∙ ap (λ l. l ++ k.0) h.came.are
            ∙ append_assoc answer pending_mid k.0
            ∙ ap (λ l. l ++ (pending_mid ++ k.0)) h.answer_is;
      };
    }
ended_at Fault faults faults_after h k same = absurd cc
ended_at TooLong faults faults_after h k same = absurd cc
ended_at NoMemory faults faults_after h k same = absurd cc
