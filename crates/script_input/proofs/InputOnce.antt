-- An input has one reading or one refusal, and not both.
use Rattle.std.proofs.Common.{◌≡◌, ℕ, suc, Bool, true, false, MatchBool, List, [], ◌∷◌, refl, sym, ap, ◌∙◌, subst}
use Rattle.fabric_script.specs.declared.lines.Line.{Line}
use Rattle.fabric_script.specs.declared.lines.Numbered.{Numbered}
use Rattle.fabric_script.specs.Known.{IsOrderly, Known, known_after, nothing_in, of_set_up}
use Rattle.fabric_script.specs.Reading.{new_name_in}
use Rattle.fabric_script.specs.Scripts.{is_skipped, KeptThen, pieces_of, RefusedIn, SpellsFrom}
use Rattle.fabric_script.specs.SetUps.{for_event}
use Rattle.fabric_script.proofs.KnownLaws.{nothing-orderly}
use Rattle.fabric_script.proofs.LineLaws.{same_line}
use Rattle.fabric_script.proofs.ScriptLaws.{not_refused, orderly-spelled, refused_once, same_lines}
use Rattle.script_input.specs.Inputs.{Hit, IsAccepted, IsInput, IsRefusedInput, NotParted, set_up_bytes}

-- ---- the set-up lines say one thing

-- what a text that is kept spells, with those behind it
abbrev Kept : ℕ → Known → List ℕ → List (List ℕ) → List Numbered → Known → Type 0
Kept number known text texts lines end =
    KeptThen (λ next rest. SpellsFrom (suc number) next texts rest end) number known text lines

pub by_skipped : (A B C : Type 0) (skipped : Bool) → (A → C) → (B → C) → MatchBool skipped A B → C
by_skipped A B C true f g h = f h
by_skipped A B C false f g h = g h

pub both_skipped : (A B C D E : Type 0) (skipped : Bool) → (A → C → E) → (B → D → E)
    → MatchBool skipped A B → MatchBool skipped C D → E
both_skipped A B C D E true f g h k = f h k
both_skipped A B C D E false f g h k = g h k

pub spelled_orderly : (number : ℕ) (known : Known) (texts : List (List ℕ)) (lines : List Numbered)
    (end : Known) → IsOrderly known → SpellsFrom number known texts lines end → IsOrderly end
spelled_orderly number known [] lines end orderly spelled =
    subst IsOrderly (sym spelled.1) orderly
spelled_orderly number known (text ∷ texts) lines end orderly spelled =
    by_skipped (SpellsFrom (suc number) known texts lines end)
    (Kept number known text texts lines end) (IsOrderly end) (is_skipped text)
    (λ skips. spelled_orderly (suc number) known texts lines end orderly skips)
    (λ keeps. spelled_orderly (suc number)
    (known_after known (new_name_in text keeps.0) keeps.0) texts keeps.1 end
    (orderly-spelled known text keeps.0 orderly keeps.3) keeps.4)
    spelled

module _ (bytes : List ℕ) where
  pub accepted_orderly : (lines : List Numbered) (known : Known) → IsAccepted bytes lines known
      → IsOrderly known
  accepted_orderly lines known is =
      let end = spelled_orderly 1 (nothing_in of_set_up) (pieces_of (set_up_bytes bytes)) lines
      is.end (nothing-orderly of_set_up) is.spelled in
      subst IsOrderly (sym is.known_is) (record { named = end.named; apart = end.apart })

  accepted_once : (lines lines' : List Numbered) (known known' : Known)
      → IsAccepted bytes lines known → IsAccepted bytes lines' known'
      → (lines ≡ lines') × (known ≡ known')
  accepted_once lines lines' known known' one other =
      let same = same_lines 1 (nothing_in of_set_up) (pieces_of (set_up_bytes bytes)) lines lines'
      one.end other.end (nothing-orderly of_set_up) one.spelled other.spelled in (
        same.0,
        one.known_is ∙ ap for_event same.1 ∙ sym other.known_is,
      )

  pub input_once : (lines lines' : List Numbered) (known known' : Known)
      (texts texts' : List (List ℕ)) → IsInput bytes lines known texts
      → IsInput bytes lines' known' texts'
      → (lines ≡ lines') × (known ≡ known') × (texts ≡ texts')
  input_once lines lines' known known' texts texts' one other =
      let same = accepted_once lines lines' known known' one.accepted other.accepted in
      let found = sym one.behind ∙ other.behind in
      (same.0, same.1, cc)

  -- what is so of one input is so of the other
  pub for_other : (Of : List Numbered → Known → List (List ℕ) → Type 0)
      (lines lines' : List Numbered) (known known' : Known) (texts texts' : List (List ℕ))
      → IsInput bytes lines known texts
      → IsInput bytes lines' known' texts' → Of lines' known' texts' → Of lines known texts
  for_other Of lines lines' known known' texts texts' one other so =
      let same = input_once lines lines' known known' texts texts' one other in
      subst (λ l. Of l known texts) (sym same.0)
      (subst (λ k. Of lines' k texts) (sym same.1)
      (subst (λ t. Of lines' known' t) (sym same.2) so))

  -- ---- it is refused, or has a reading

  not_hit : (lines : List Numbered) (known : Known) (line reason : ℕ)
      → IsAccepted bytes lines known → RefusedIn of_set_up (set_up_bytes bytes) line reason → ⊥
  not_hit lines known line reason is refused =
      not_refused of_set_up (set_up_bytes bytes) is.end.names lines line reason
      (is.end, refl, is.spelled) refused

  pub not_input : (line reason : ℕ) (lines : List Numbered) (known : Known) (texts : List (List ℕ))
      → IsRefusedInput bytes line reason → IsInput bytes lines known texts → ⊥
  not_input line reason lines known texts (Hit refused) input =
      not_hit lines known line reason input.accepted refused
  not_input line reason lines known texts (NotParted accepted none) input =
      let found = input.behind in
      absurd (cc (found, none))

  pub refused_alone : (line reason line' reason' : ℕ) → IsRefusedInput bytes line reason
      → IsRefusedInput bytes line' reason' → (line ≡ line') × (reason ≡ reason')
  refused_alone line reason line' reason' (Hit one) (Hit other) =
      refused_once of_set_up (set_up_bytes bytes) line reason line' reason' one other
  refused_alone line reason line' reason' (Hit one) (NotParted accepted none) =
      absurd (not_hit _ _ line reason accepted one)
  refused_alone line reason line' reason' (NotParted accepted none) (Hit other) =
      absurd (not_hit _ _ line' reason' accepted other)
  refused_alone line reason line' reason' (NotParted one none) (NotParted other none') =
      (refl, refl)
