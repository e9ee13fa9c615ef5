-- A word says a number of a range, or none; and a number in so many hexadecimal digits, or none.
use Rattle.std.proofs.Common.{◌≡◌, ℕ, suc, ◌≤◌, ◌^◌, List, refl, ◌⊎◌, inl, inr, arith}
use Rattle.std.specs.Fmt.{decimal}
use Rattle.std.proofs.lemmas.Bool.{cases_lt}
use Rattle.fabric_script.specs.declared.reasons.Reason.{Reason}
use Rattle.fabric_script.specs.declared.reasons.Reason.TheVariants.{BadNumber, BadHex}
use Rattle.fabric_script.specs.declared.fields.Field.{Field}
use Rattle.fabric_script.specs.declared.fields.Field.TheVariants.{Number, Digits}
use Rattle.fabric_script.specs.declared.values.Value.{Value}
use Rattle.fabric_script.specs.declared.values.Value.TheVariants.{Counted, InDigits}
use Rattle.fabric_script.specs.Texts.{value_text, digits_text}
use Rattle.fabric_script.specs.Known.{Known}
use Rattle.fabric_script.specs.Hits.{FitsField, Hits, NumberIsBad, DigitsAreBad}
use Rattle.script_law.proofs.Choosing.{Decided, both_or_not, same_or_not, first_or_none}

-- a word says a value of its kind, or a reason hits it
abbrev pub SaysOrHit : {T : Type 0} → Known → Field → (T → Value) → List ℕ → Type 0
SaysOrHit {T} known field value word =
    ((v : T) × FitsField known field (value v) × (word ≡ value_text known.names (value v)))
    ⊎ ((reason : Reason) × Hits known reason field word)

at_most_or_not : (m n : ℕ) → Decided (m ≤ n)
at_most_or_not m n = elim (cases_lt n m) [
  | inl less ↦ inr (λ most. absurd (omega arith))
  | inr most ↦ inl most
]

pub number_or_hit : (known : Known) (least most : ℕ) (word : List ℕ)
    → SaysOrHit known (Number least most) (λ n. Counted n) word
number_or_hit known least most word = elim (first_or_none
    (λ n. (least ≤ n) × (word ≡ decimal n))
    (λ n. both_or_not (at_most_or_not least n) (same_or_not word (decimal n))) (suc most)) [
      | inl found ↦
          let below = found.below in
          inl (found.n, (found.is.0, omega arith), found.is.1)
      | inr none ↦ inr (BadNumber, NumberIsBad (λ n low high e. none n (omega arith) (low, e)))
    ]

pub digits_or_hit : (known : Known) (count : ℕ) (word : List ℕ)
    → SaysOrHit known (Digits count) (λ n. InDigits count n) word
digits_or_hit known count word = elim (first_or_none (λ n. word ≡ digits_text count n)
    (λ n. same_or_not word (digits_text count n)) (16 ^ count)) [
      | inl found ↦ inl (found.n, (refl, found.below), found.is)
      | inr none ↦ inr (BadHex, DigitsAreBad none)
    ]
