-- A text is a line, or some reason is the least that hits it.
use Rattle.std.proofs.Common.{◌≡◌, ℕ, List, length, Option, Some, None, refl, ◌⊎◌, inl, inr}
use Rattle.fabric_script.specs.declared.reasons.Reason.{Reason}
use Rattle.fabric_script.specs.declared.reasons.Reason.TheVariants.{UnknownLine}
use Rattle.fabric_script.specs.declared.forms.Form.{Form}
use Rattle.fabric_script.specs.declared.lines.Line.{Line}
use Rattle.fabric_script.specs.Forms.{keyword_of, fields_of}
use Rattle.fabric_script.specs.Lines.{words_of}
use Rattle.fabric_script.specs.Known.{Known, IsOrderly}
use Rattle.fabric_script.specs.LineWords.{line_saying}
use Rattle.fabric_script.specs.Refusals.{refuses}
use Rattle.fabric_script.specs.Reading.{Spells, LeastHit}
use Rattle.fabric_script.specs.Words.{Left, reason_at_end, first_word, after_word}
use Rattle.fabric_script.proofs.ReadLaws.{Behind, behind_first, reads_no_form, reads_hit, says_made, reads_refused}
use Rattle.script_law.proofs.TakingWords.{AllTaken, take_words}
use Rattle.script_law.proofs.FormChoice.{form_or_none}
use Rattle.script_law.proofs.ReasonChoice.{least_or_none}

-- a text is a line, or some reason is the least that hits it
abbrev pub SpelledOrHit : Known → List ℕ → Type 0
SpelledOrHit known text =
    ((line : Line) × Spells known text line) ⊎ ((reason : Reason) × LeastHit known text reason)

-- all words of a text, and those behind its keyword
abbrev all_words : List ℕ → Left
all_words text = record { words = words_of text; hit = None }

of_form : (known : Known) (text : List ℕ) (form : Form) → IsOrderly known
    → keyword_of form ≡ first_word (words_of text) → SpelledOrHit known text
of_form known text form orderly is = by_end (reason_at_end t.next) refl
  where
    left : Left
    left = after_word (all_words text)

    behind : Behind text form left
    behind =
        behind_first text form (first_word (words_of text)) (all_words text) left refl refl refl is

    t : AllTaken known (fields_of form) left
    t = take_words known (fields_of form) left

    line : Line
    line = line_saying form (length known.names) t.values

    by_end : (end : Option Reason) → reason_at_end t.next ≡ end → SpelledOrHit known text
    by_end (Some reason) ended =
        inr (
          reason,
          reads_hit known text form left t.next t.values reason orderly behind t.takes ended,
        )
    by_end None ended =
        let made = says_made known text form left t.next t.values t.values line orderly behind
        t.takes ended refl refl in
        elim (least_or_none (λ reason. refuses known reason line)) [
          | inl hit ↦ inr (hit.0, reads_refused known text line hit.0 orderly made.1 hit.1 hit.2)
          | inr free ↦ inl (line, record { says = made.1; free = free })
        ]

pub spelled_or_hit : (known : Known) (text : List ℕ) → IsOrderly known → SpelledOrHit known text
spelled_or_hit known text orderly = elim (form_or_none (first_word (words_of text))) [
  | inl form ↦ of_form known text form.0 orderly form.1
  | inr none ↦ inr (UnknownLine, reads_no_form known text none)
]
