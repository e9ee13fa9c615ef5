-- The lines of bytes, one after another.
use Rattle.std.proofs.Common.{◌≡◌, ◌==◌, ℕ, ◌+◌, ◌++◌, ◌<◌, ◌≤◌, Bool, true, false, List, [], ◌∷◌, All, length, Some, None, refl, sym, ap, ◌∙◌, subst, arith, append_assoc, length-append, if◌then◌else◌}
use Rattle.std.proofs.lemmas.List.{append-nil}
use Rattle.std.proofs.lemmas.List.Splits.{length-slice_split, slice_split_none}
use Rattle.fabric_script.specs.declared.lines.Numbered.{Numbered}
use Rattle.fabric_script.specs.Known.{Known, nothing_in, of_set_up}
use Rattle.fabric_script.specs.Scripts.{pieces_of, SpellsFrom}
use Rattle.fabric_script.specs.SetUps.{for_event}
use Rattle.script_input.specs.Inputs.{lines_fed, is_between, IsAccepted, set_up_bytes, set_up_texts, texts_of, texts_behind, without_empty_end}

-- ---- the first line

-- pieces are some, so a text before them is no empty end
front_stays : (text : List ℕ) (pieces : List (List ℕ)) → 1 ≤ length pieces
    → without_empty_end (text ∷ pieces) ≡ text ∷ without_empty_end pieces
front_stays text [] some = absurd (omega (arith, some))
front_stays [] (next ∷ pieces) some = refl
front_stays (byte ∷ bytes) (next ∷ pieces) some = refl

pub first_of : (bytes line behind : List ℕ) → pieces_of bytes ≡ line ∷ pieces_of behind
    → texts_of bytes ≡ line ∷ texts_of behind
first_of bytes line behind pieces =
    let counted = length-slice_split (λ b. b == 10) behind in
    ap without_empty_end pieces ∙ front_stays line (pieces_of behind) (omega (arith, counted))

-- bytes without a line feed are one line
pub only_line : (bytes : List ℕ) → 0 < length bytes → All (λ b. (b == 10) ≡ false) bytes
    → texts_of bytes ≡ bytes ∷ texts_of []
only_line [] some none = absurd (omega (arith, some))
only_line (byte ∷ bytes) some none =
    ap without_empty_end (slice_split_none (λ b. b == 10) (byte ∷ bytes) none)

-- ---- the set-up lines

-- so many lines stand before what is left, and none of them is the line between
pub record IsBehind (bytes left : List ℕ) (lines : ℕ) : Type 0 where
  pub before : List (List ℕ)
  pub set_up : set_up_texts (texts_of bytes) ≡ before ++ set_up_texts (texts_of left)
  pub behind : texts_behind (texts_of bytes) ≡ texts_behind (texts_of left)
  pub count : lines ≡ length before
  pub few : lines + length left ≤ length bytes
  pub joined : 0 < length left → bytes ≡ lines_fed before ++ left

fed-append : (texts : List (List ℕ)) (text : List ℕ)
    → lines_fed (texts ++ text ∷ []) ≡ lines_fed texts ++ (text ++ 10 ∷ [])
fed-append [] text = append-nil (text ++ 10 ∷ [])
fed-append (x ∷ texts) text =
    ap (λ (l : List ℕ). (x ++ 10 ∷ []) ++ l) (fed-append texts text)
    ∙ sym (append_assoc (x ++ 10 ∷ []) (lines_fed texts) (text ++ 10 ∷ []))

-- one more line that is not the line between
pub one_before : (bytes left text behind : List ℕ) (lines : ℕ) → IsBehind bytes left lines
    → texts_of left ≡ text ∷ texts_of behind → is_between text ≡ false
    → length behind < length left → (0 < length behind → left ≡ text ++ 10 ∷ behind)
    → IsBehind bytes behind (lines + 1)
one_before bytes left text behind lines is texts other less joined =
    let counted = length-append is.before (text ∷ []) in
    let count = is.count in
    let few = is.few in
    record {
      before = is.before ++ text ∷ [];
      set_up = is.set_up
          ∙ ap (λ (l : List (List ℕ)). is.before ++ set_up_texts l) texts
          ∙ ap (λ x. is.before ++ (if x then [] else text ∷ set_up_texts (texts_of behind))) other
          ∙ sym (append_assoc is.before (text ∷ []) (set_up_texts (texts_of behind)));
      behind = is.behind ∙ ap texts_behind texts
          ∙ ap (λ x. if x then Some (texts_of behind) else texts_behind (texts_of behind)) other;
      count = omega (arith, counted, count);
      few = omega (arith, few, less);
      joined = λ some.
          is.joined (omega (arith, less, some))
          ∙ ap (λ (l : List ℕ). lines_fed is.before ++ l) (joined some)
          ∙ ap (λ (l : List ℕ). lines_fed is.before ++ l) (sym (append_assoc text (10 ∷ []) behind))
          ∙ sym (append_assoc (lines_fed is.before) (text ++ 10 ∷ []) behind)
          ∙ ap (λ (l : List ℕ). l ++ behind) (sym (fed-append is.before text));
    }

-- if there is no line between, all lines are set-up lines
pub all_set_up : (texts : List (List ℕ)) → texts_behind texts ≡ None → set_up_texts texts ≡ texts
all_set_up [] none = refl
all_set_up (text ∷ texts) none =
    by_test (is_between text) none (all_set_up texts)
  where
    by_test : (x : Bool) → (if x then Some texts else texts_behind texts) ≡ None
        → (texts_behind texts ≡ None → set_up_texts texts ≡ texts)
        → (if x then [] else text ∷ set_up_texts texts) ≡ text ∷ texts
    by_test true none rest = absurd cc
    by_test false none rest = ap (λ (l : List (List ℕ)). text ∷ l) (rest none)

-- ---- what the set-up lines give

pub accepted_by : (bytes script : List ℕ) (lines : List Numbered) (known : Known)
    → script ≡ set_up_bytes bytes
    → (end : Known) × SpellsFrom 1 (nothing_in of_set_up) (pieces_of script) lines end
    × (known ≡ for_event end)
    → IsAccepted bytes lines known
accepted_by bytes script lines known is spelled = record {
  end = spelled.0;
  spelled = subst (λ (b : List ℕ).
      SpellsFrom 1 (nothing_in of_set_up) (pieces_of b) lines spelled.0) is spelled.1;
  known_is = spelled.2;
}
