-- Every input is parted by its line `---`, or is refused.
use Rattle.std.proofs.Common.{◌≡◌, ℕ, ◌+◌, List, length, Option, Some, None, refl, ◌⊎◌, inl, inr}
use Rattle.fabric_script.specs.declared.lines.Numbered.{Numbered}
use Rattle.fabric_script.specs.Known.{Known, of_set_up}
use Rattle.fabric_script.specs.Scripts.{IsScriptIn}
use Rattle.fabric_script.specs.SetUps.{for_event}
use Rattle.script_input.specs.Inputs.{Hit, NotParted, IsAccepted, IsInput, IsRefusedInput, set_up_bytes, texts_behind, texts_of}
use Rattle.script_law.proofs.TextChoice.{script_or_refused}

abbrev IsJudged : List ℕ → Type 0
IsJudged bytes = ((lines : List Numbered) × (known : Known) × (texts : List (List ℕ))
    × IsInput bytes lines known texts)
    ⊎ ((line : ℕ) × (reason : ℕ) × IsRefusedInput bytes line reason)

module _ (bytes : List ℕ) (names : List (List ℕ)) (lines : List Numbered)
    (script : IsScriptIn of_set_up (set_up_bytes bytes) names lines) where
  accepted : IsAccepted bytes lines (for_event script.0)
  accepted = record { end = script.0; spelled = script.2; known_is = refl }

  parted : (o : Option (List (List ℕ))) → texts_behind (texts_of bytes) ≡ o → IsJudged bytes
  parted None none = inr (length (texts_of bytes) + 1, 15, NotParted accepted none)
  parted (Some texts) there =
      inl (lines, for_event script.0, texts, record { accepted = accepted; behind = there })

pub input_or_refused : (bytes : List ℕ)
    → ((lines : List Numbered) × (known : Known) × (texts : List (List ℕ))
    × IsInput bytes lines known texts)
    ⊎ ((line : ℕ) × (reason : ℕ) × IsRefusedInput bytes line reason)
input_or_refused bytes = elim (script_or_refused of_set_up (set_up_bytes bytes)) [
  | inl is ↦ parted bytes is.0 is.1 is.2 (texts_behind (texts_of bytes)) refl
  | inr refused ↦ inr (refused.0, refused.1, Hit refused.2)
]
