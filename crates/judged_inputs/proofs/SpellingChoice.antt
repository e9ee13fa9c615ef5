-- A text spells a line of a trace, or none.
use Rattle.judged_inputs.proofs.Prelude.{◌≡◌, ℕ, List, [], ◌∷◌, codes, ◌⊎◌, inl, inr, Known, IsOrderly, one_event, words_of, TraceLine, Begun, Stepped, Signed, Lacked, Ended, Undetected, trace_words, LineFits, SpellsLine, Decided}
use Rattle.judged_inputs.proofs.Choices.{as_well, one_or_not}
use Rattle.judged_inputs.proofs.RowChoice.{SaysRow}
use Rattle.judged_inputs.proofs.BegunChoice.{SaysBegun, begun_or_none}
use Rattle.judged_inputs.proofs.LineWords.{SaysStep, step_or_none, SaysSign, sign_or_none, SaysLack, lack_or_none, keyword_or_none, undetected_row, IsUndetected, undetected_or_none}

-- it spells some line
abbrev pub SpellsSome : Known → List ℕ → Type 0
SpellsSome known text = (line : TraceLine) × SpellsLine known text line

module _ (known : Known) (orderly : IsOrderly known) (text : List ℕ) where
  abbrev words : List (List ℕ)
  words = words_of text

  abbrev SaysEnd : Type 0
  SaysEnd = SaysRow {A = Unit {0}} (λ _. codes "end" ∷ []) (λ _. Unit {0}) words

  abbrev SaysUndetected : Type 0
  SaysUndetected = SaysRow (λ x. codes "undetected" ∷ undetected_row known orderly x)
      (IsUndetected known orderly) words

  abbrev OneKind : Type 0
  OneKind = SaysBegun known words ⊎ (SaysStep known orderly words
      ⊎ (SaysSign known orderly words ⊎ (SaysLack known orderly words
      ⊎ (SaysEnd ⊎ SaysUndetected))))

  to : OneKind → SpellsSome known text
  to (inl x) = (Begun x.0, record { words = x.1; fits = (x.2, x.3) })
  to (inr (inl x)) = (Stepped x.0, record { words = x.1; fits = x.2 })
  to (inr (inr (inl x))) = (Signed x.0, record { words = x.1; fits = x.2 })
  to (inr (inr (inr (inl x)))) = (Lacked x.0, record { words = x.1; fits = tt })
  to (inr (inr (inr (inr (inl x))))) = (Ended, record { words = x.1; fits = tt })
  to (inr (inr (inr (inr (inr x))))) = (
    Undetected x.0.0 x.0.1.0 x.0.1.1,
    record { words = x.1; fits = (x.2.0, x.2.1.0, x.2.1.1) },
  )

  from : (line : TraceLine) → words ≡ trace_words known.names line → LineFits known line
      → OneKind
  from (Begun line) e fits = inl (line, e, fits.0, fits.1)
  from (Stepped step) e fits = inr (inl (step, e, fits))
  from (Signed sign) e fits = inr (inr (inl (sign, e, fits)))
  from (Lacked lack) e fits = inr (inr (inr (inl (lack, e))))
  from Ended e fits = inr (inr (inr (inr (inl (tt, e, tt)))))
  from (Undetected number q e) words fits =
      inr (inr (inr (inr (inr ((number, (q, e)), words, (fits.0, (fits.1, fits.2)))))))

  pub spells_or_none : known.mode ≡ one_event → Decided (SpellsSome known text)
  spells_or_none event = as_well to (λ spells. from spells.0 spells.1.words spells.1.fits)
      (one_or_not (begun_or_none known orderly event text)
      (one_or_not (step_or_none known orderly words)
      (one_or_not (sign_or_none known orderly words)
      (one_or_not (lack_or_none known orderly words)
      (one_or_not (keyword_or_none known orderly (codes "end") words)
      (undetected_or_none known orderly words))))))
