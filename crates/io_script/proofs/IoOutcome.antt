-- What has been noted where all words behind a keyword were taken: the least reason that hits one.
use Rattle.std.proofs.Common.{◌≡◌, ◌≢◌, ℕ, ◌≤◌, nat_le, suc, Bool, true, false, List, [], ◌∷◌, map, length, Option, Some, None, ◌⊎◌, inl, inr, refl, sym, ap, ap₂, ◌∙◌, subst, cond, arith}
use Rattle.std.proofs.lemmas.Bool.Decides.{nat_tests}
use Rattle.fabric_script.specs.Known.{IsOrderly, Known}
use Rattle.fabric_script.specs.declared.values.Value.{Value}
use Rattle.fabric_script.specs.Texts.{value_text}
use Rattle.fabric_script.proofs.Exclusion.{no_hit, same_reason}
use Rattle.fabric_script.proofs.LineLaws.{IsSmall, same_value}
use Rattle.fabric_script.proofs.Outcomes.{number_in_range}
use Rattle.io_script.specs.declared.reasons.IoReason.{IoReason}
use Rattle.io_script.specs.declared.reasons.IoReason.TheVariants.{OfScript, Misaligned, LateMemory}
use Rattle.io_script.specs.IoForms.{IoField, AnEndpoint, DeviceNumber, MemorySize, ReadSize, Address, Data, StreamData}
use Rattle.io_script.specs.IoReasons.{io_reason_number}
use Rattle.io_script.specs.IoTaking.{NoMoreIo, MoreIo, TakesAllIo, TakesIo, with_io_reason}
use Rattle.io_script.specs.IoWords.{FitIoAll, FitsIo, HitsIoOne, HitsIoWord, is_right, IsMisspelledIo, IsWrong, spelling_of}

-- ---- one word

-- numbers have their own texts
pub small_spelling : (field : IoField) → IsSmall (spelling_of field)
small_spelling AnEndpoint = tt
small_spelling DeviceNumber = omega arith
small_spelling MemorySize = omega arith
small_spelling ReadSize = omega arith
small_spelling Address = tt
small_spelling Data = tt
small_spelling StreamData = tt

-- a word says one value
pub same_io_value : (known : Known) (field : IoField) (v w : Value) → IsOrderly known
    → FitsIo known field v → FitsIo known field w
    → value_text known.names v ≡ value_text known.names w → v ≡ w
same_io_value known field v w orderly f g e =
    same_value known (spelling_of field) v w orderly (small_spelling field) f.0 g.0 e

-- no reason hits a word that may be said
no_io_hit : (known : Known) (field : IoField) (value : Value) (word : List ℕ) (r : IoReason)
    → IsOrderly known → FitsIo known field value → word ≡ value_text known.names value
    → HitsIoWord known r field word → ⊥
no_io_hit known field value word r orderly fits e (IsMisspelledIo h) =
    no_hit known (spelling_of field) value word _ orderly fits.0 e h
no_io_hit known field value word r orderly fits e (IsWrong other fits' e' wrong is) =
    let same = same_value known (spelling_of field) value other orderly (small_spelling field)
    fits.0 fits' (sym e ∙ e') in
    let right = subst (λ v. is_right known field v ≡ true) same fits.1 in
    cc

-- and any other word is hit by one reason
same_io_reason : (known : Known) (field : IoField) (word : List ℕ) (r q : IoReason)
    → IsOrderly known → HitsIoWord known r field word → HitsIoWord known q field word → r ≡ q
same_io_reason known field word r q orderly (IsMisspelledIo h) (IsMisspelledIo k) =
    ap (λ x. OfScript x) (same_reason known (spelling_of field) word _ _ orderly h k)
same_io_reason known field word r q orderly (IsMisspelledIo h) (IsWrong v fits e wrong is) =
    absurd (no_hit known (spelling_of field) v word _ orderly fits e h)
same_io_reason known field word r q orderly (IsWrong v fits e wrong is) (IsMisspelledIo h) =
    absurd (no_hit known (spelling_of field) v word _ orderly fits e h)
same_io_reason known field word r q orderly (IsWrong v fits e wrong is)
    (IsWrong w fits' e' wrong' is') =
    is ∙ sym is'

-- ---- the reason that was noted

-- its number, and 19 where there is none
abbrev pub io_rank : Option IoReason → ℕ
io_rank None = 19
io_rank (Some reason) = io_reason_number reason

pub io_number_in_range : (reason : IoReason)
    → (1 ≤ io_reason_number reason) × (io_reason_number reason ≤ 18)
io_number_in_range (OfScript reason) =
    let range = number_in_range reason in (range.0, omega (arith, range.1))
io_number_in_range Misaligned = (omega arith, omega arith)
io_number_in_range LateMemory = (omega arith, omega arith)

-- the lesser of two is noted
io_noted_lesser : (hit : Option IoReason) (reason : IoReason)
    → (io_rank (with_io_reason hit reason) ≤ io_rank hit)
    × (io_rank (with_io_reason hit reason) ≤ io_reason_number reason)
    × ((with_io_reason hit reason ≡ hit) ⊎ (with_io_reason hit reason ≡ Some reason))
io_noted_lesser None reason =
    let range = io_number_in_range reason in (omega (arith, range.1), omega arith, inr refl)
io_noted_lesser (Some before) reason =
    by_test before reason (nat_le (io_reason_number before) (io_reason_number reason)) refl
  where
    by_test : (before reason : IoReason) (b : Bool)
        → nat_le (io_reason_number before) (io_reason_number reason) ≡ b
        → (io_rank (cond b (Some before) (Some reason)) ≤ io_rank (Some before))
        × (io_rank (cond b (Some before) (Some reason)) ≤ io_reason_number reason)
        × ((cond b (Some before) (Some reason) ≡ Some before)
        ⊎ (cond b (Some before) (Some reason) ≡ Some reason))
    by_test before reason true e = (omega arith, grind (arith, nat_tests), inl refl)
    by_test before reason false e = (grind (arith, nat_tests), omega arith, inr refl)

io_not_noted : (hit : Option IoReason) (reason : IoReason) → with_io_reason hit reason ≢ None
io_not_noted None reason e = cc
io_not_noted (Some before) reason e =
    by_test before reason (nat_le (io_reason_number before) (io_reason_number reason)) e
  where
    by_test : (before reason : IoReason) (b : Bool) → cond b (Some before) (Some reason) ≢ None
    by_test before reason true e = cc
    by_test before reason false e = cc

-- ---- all words

-- what was noted behind the words
pub record IoOutcome (known : Known) (fields : List IoField) (values : List Value)
    (words : List (List ℕ)) (hit hit_after : Option IoReason) : Type 0 where
  pub falls : io_rank hit_after ≤ io_rank hit
  pub least : (reason : IoReason) → HitsIoOne known reason fields words
      → io_rank hit_after ≤ io_reason_number reason
  pub from : (hit_after ≡ hit) ⊎ ((reason : IoReason) × HitsIoOne known reason fields words
      × (hit_after ≡ Some reason))
  pub fits : hit_after ≡ None → (hit ≡ None) × FitIoAll known fields values
      × (words ≡ map (value_text known.names) values)

io_step : (known : Known) (field : IoField) (fields : List IoField) (value : Value)
    (values : List Value) (word : List ℕ) (words : List (List ℕ)) (hit next last : Option IoReason)
    → IsOrderly known → TakesIo known field value word hit next
    → IoOutcome known fields values words next last
    → IoOutcome known (field ∷ fields) (value ∷ values) (word ∷ words) hit last
io_step known field fields value values word words hit next last orderly takes p =
    elim takes [
      | inl said ↦ record {
        falls = omega (arith, p.falls, ap io_rank said.2);
        least = λ reason h. elim h [
          | inl here ↦ absurd (no_io_hit known field value word reason orderly said.0 said.1 here)
          | inr there ↦ p.least reason there
        ];
        from = elim p.from [
          | inl same ↦ inl (same ∙ said.2)
          | inr hits ↦ inr (hits.0, inr hits.1, hits.2)
        ];
        fits = λ none.
            let f = p.fits none in
            (sym said.2 ∙ f.0, (said.0, f.1), ap₂ ◌∷◌ said.1 f.2);
      }
      | inr bad ↦
          let lesser = io_noted_lesser hit bad.0 in
          let noted : io_rank next ≡ io_rank (with_io_reason hit bad.0) = ap io_rank bad.2 in
          record {
            falls = omega (arith, p.falls, noted, lesser.0);
            least = λ reason h. elim h [
              | inl here ↦
                  let same = same_io_reason known field word reason bad.0 orderly here bad.1 in
                  omega (arith, p.falls, noted, lesser.1, ap io_reason_number same)
              | inr there ↦ p.least reason there
            ];
            from = elim p.from [
              | inl same ↦ elim lesser.2 [
                | inl kept ↦ inl (same ∙ bad.2 ∙ kept)
                | inr new ↦ inr (bad.0, inl bad.1, same ∙ bad.2 ∙ new)
              ]
              | inr hits ↦ inr (hits.0, inr hits.1, hits.2)
            ];
            fits = λ none.
                let f = p.fits none in absurd (io_not_noted hit bad.0 (sym bad.2 ∙ f.0));
          }
    ]

pub io_outcome : (known : Known) (fields : List IoField) (values : List Value)
    (words : List (List ℕ)) (hit last : Option IoReason) → IsOrderly known
    → TakesAllIo known fields values words hit last
    → IoOutcome known fields values words hit last
io_outcome known [] [] [] hit last orderly NoMoreIo = record {
  falls = omega arith;
  least = λ reason h. absurd h;
  from = inl refl;
  fits = λ none. (none, tt, refl);
}
io_outcome known (field ∷ fields) (value ∷ values) (word ∷ words) hit last orderly
    (MoreIo {next = next} takes more) =
    io_step known field fields value values word words hit next last orderly takes
    (io_outcome known fields values words next last orderly more)
io_outcome known [] [] (word ∷ words) hit last orderly takes = elim takes [ ]
io_outcome known [] (value ∷ values) words hit last orderly takes = elim takes [ ]
io_outcome known (field ∷ fields) [] words hit last orderly takes = elim takes [ ]
io_outcome known (field ∷ fields) (value ∷ values) [] hit last orderly takes = elim takes [ ]

-- ---- values that fit are hit by none, and said once

pub no_io_hit_one : (known : Known) (fields : List IoField) (values : List Value)
    (reason : IoReason) → IsOrderly known → FitIoAll known fields values
    → HitsIoOne known reason fields (map (value_text known.names) values) → ⊥
no_io_hit_one known [] [] reason orderly f h = h
no_io_hit_one known (field ∷ fields) (value ∷ values) reason orderly f h = elim h [
  | inl here ↦
      no_io_hit known field value (value_text known.names value) reason orderly f.0 refl here
  | inr there ↦ no_io_hit_one known fields values reason orderly f.1 there
]
no_io_hit_one known [] (value ∷ values) reason orderly f h = absurd f
no_io_hit_one known (field ∷ fields) [] reason orderly f h = absurd f

pub same_io_values : (known : Known) (fields : List IoField) (vs ws : List Value)
    → IsOrderly known → FitIoAll known fields vs → FitIoAll known fields ws
    → map (value_text known.names) vs ≡ map (value_text known.names) ws → vs ≡ ws
same_io_values known [] [] [] orderly f g e = refl
same_io_values known (field ∷ fields) (v ∷ vs) (w ∷ ws) orderly f g e =
    let here : value_text known.names v ≡ value_text known.names w = cc in
    let there : map (value_text known.names) vs ≡ map (value_text known.names) ws = cc in
    ap₂ ◌∷◌ (same_io_value known field v w orderly f.0 g.0 here)
    (same_io_values known fields vs ws orderly f.1 g.1 there)
same_io_values known [] [] (w ∷ ws) orderly f g e = absurd g
same_io_values known [] (v ∷ vs) ws orderly f g e = absurd f
same_io_values known (field ∷ fields) [] ws orderly f g e = absurd f
same_io_values known (field ∷ fields) (v ∷ vs) [] orderly f g e = absurd g

-- as many values as kinds
pub length-fit_io : (known : Known) (fields : List IoField) (values : List Value)
    → FitIoAll known fields values → length values ≡ length fields
length-fit_io known [] [] f = refl
length-fit_io known (field ∷ fields) (value ∷ values) f =
    ap suc (length-fit_io known fields values f.1)
length-fit_io known [] (value ∷ values) f = absurd f
length-fit_io known (field ∷ fields) [] f = absurd f
