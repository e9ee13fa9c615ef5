-- What is told of an input is what is so, and one thing alone.
use Rattle.std.proofs.Common.{◌≡◌, ℕ, ◌+◌, ◌⊎◌, inl, inr, Result, Ok, Err, IfOk, IsOk, IsErrOf, List, length, option_map, Option, Some, Bor, refl, sym, ap, ◌∙◌}
use Rattle.fabric_script.specs.declared.scripts.Refusal.{Refusal}
use Rattle.fabric_script.specs.declared.scripts.ScriptEnd.{ScriptEnd}
use Rattle.fabric_script.specs.declared.scripts.ScriptEnd.TheVariants as S
use Rattle.fabric_trace.specs.Runs.{bare, set_up_all}
use Rattle.trace_check.specs.declared.checking.CheckEnd.{CheckEnd}
use Rattle.trace_check.specs.declared.checking.CheckEnd.TheVariants.{NoMemory, Refused, Unlawful as UnlawfulAt}
use Rattle.trace_check.specs.declared.checking.CheckEnd.TheVariants as C
use Rattle.trace_check.specs.declared.checking.Unlawful.{Unlawful}
use Rattle.fabric_script.specs.declared.lines.Numbered.{Numbered}
use Rattle.fabric_script.specs.Known.{IsOrderly, Known, nothing_in, of_set_up}
use Rattle.fabric_script.specs.Scripts.{pieces_of, SpellsFrom}
use Rattle.fabric_script.specs.SetUps.{for_event}
use Rattle.script_input.specs.Inputs.{IsInput, IsRefusedInput, set_up_bytes, set_up_texts, texts_behind, texts_of}
use Rattle.script_input.proofs.InputLaws.{accepted_by}
use Rattle.trace_check.specs.Lawful.{IsLawful, IsUnlawful}
use Rattle.trace_check.specs.Outcomes.{check_end_of, HasLawful, HasUnlawful}
use Rattle.script_input.proofs.InputOnce.{accepted_orderly, for_other, not_input, refused_alone}
use Rattle.trace_check.proofs.Exclusive.{exclusive}
use Rattle.trace_check.proofs.Once.{lawful_once, unlawful_once}

-- ---- why the set-up lines end

pub refusal_of : (end : ScriptEnd) (refusal : Refusal) → check_end_of end ≡ C.Refused refusal
    → end ≡ S.Refused refusal
refusal_of (S.Refused r) refusal is = cc
refusal_of S.NoMemory refusal is = absurd cc

pub never_unlawful : (end : ScriptEnd) (hit : Unlawful) → check_end_of end ≡ C.Unlawful hit → ⊥
never_unlawful (S.Refused r) hit is = absurd cc
never_unlawful S.NoMemory hit is = absurd cc

-- ---- what is read of bytes

-- set-up lines that were read, and what stands behind the line between
pub is_input : {bytes script : List ℕ} {lines : List Numbered} {known : Known}
    {behind : Option (Bor (List ℕ))} {trace : Bor (List ℕ)} → script ≡ set_up_bytes bytes
    → (end : Known) × SpellsFrom 1 (nothing_in of_set_up) (pieces_of script) lines end
    × (known ≡ for_event end)
    → option_map (λ b. texts_of b.now) behind ≡ texts_behind (texts_of bytes)
    → behind ≡ Some trace → IsInput bytes lines known (texts_of trace.now)
is_input {bytes} {script} {lines} {known} set_up spelled split there = record {
  accepted = accepted_by bytes script lines known set_up spelled;
  behind = sym split ∙ ap (λ o. option_map (λ b. texts_of b.now) o) there;
}

orderly_in : {bytes : List ℕ} {lines : List Numbered} {known : Known} {texts : List (List ℕ)}
    → IsInput bytes lines known texts → IsOrderly known
orderly_in {bytes} {lines} {known} input = accepted_orderly bytes lines known input.accepted

-- a line that a reason hits is hit by whatever way the input is read
pub unlawful_for : {bytes : List ℕ} {lines : List Numbered} {known : Known}
    {texts : List (List ℕ)} {line reason : ℕ} → IsInput bytes lines known texts
    → (has : HasUnlawful bytes line reason)
    → IsUnlawful known (set_up_all bare lines) texts has.place reason
unlawful_for {bytes} {lines} {known} {texts} {reason = reason} input has =
    for_other bytes (λ l k t. IsUnlawful k (set_up_all bare l) t has.place reason) lines has.set_up
    known has.known texts has.texts input has.input has.unlawful

module _ (bytes : List ℕ) where
  -- ---- one thing is so

  lawful_alone : {m n : ℕ} → HasLawful bytes m → HasLawful bytes n → m ≡ n
  lawful_alone {n = n} one other =
      lawful_once (orderly_in one.input) one.lawful
      (for_other bytes (λ l k t. IsLawful k (set_up_all bare l) t n) one.set_up other.set_up
      one.known other.known one.texts other.texts one.input other.input other.lawful)

  unlawful_alone : {line reason line' reason' : ℕ} → HasUnlawful bytes line reason
      → HasUnlawful bytes line' reason' → (line ≡ line') × (reason ≡ reason')
  unlawful_alone one other =
      let same = unlawful_once (orderly_in one.input) one.unlawful (unlawful_for one.input other)
      in (
        one.at ∙ ap (λ n. length (set_up_texts (texts_of bytes)) + 2 + n) same.0 ∙ sym other.at,
        same.1,
      )

  not_both : {steps line reason : ℕ} → HasLawful bytes steps → HasUnlawful bytes line reason → ⊥
  not_both one other =
      exclusive (orderly_in one.input) one.lawful (unlawful_for one.input other)

  -- ---- what an answer means the other way round

  abbrev pub LawfulSo : Result ℕ CheckEnd → Type 0
  LawfulSo result = IfOk result (λ steps. HasLawful bytes steps)

  abbrev pub UnlawfulSo : Result ℕ CheckEnd → Type 0
  UnlawfulSo result = (u : Unlawful) → IsErrOf result (UnlawfulAt u)
      → HasUnlawful bytes u.line u.reason

  abbrev pub RefusedSo : Result ℕ CheckEnd → Type 0
  RefusedSo result = (r : Refusal) → IsErrOf result (Refused r)
      → IsRefusedInput bytes r.line r.reason

  pub only_lawful : (result : Result ℕ CheckEnd) → LawfulSo result → UnlawfulSo result
      → RefusedSo result → (steps : ℕ) → HasLawful bytes steps
      → IfOk result (λ told. told ≡ steps) × (IsErrOf result NoMemory ⊎ IsOk result)
  only_lawful (Ok told) lawful unlawful refused steps so =
      (lawful_alone lawful so, inr refl)
  only_lawful (Err (UnlawfulAt u)) lawful unlawful refused steps so =
      absurd (not_both so (unlawful u refl))
  only_lawful (Err (Refused r)) lawful unlawful refused steps so =
      absurd (not_input bytes r.line r.reason so.set_up so.known so.texts (refused r refl) so.input)
  only_lawful (Err NoMemory) lawful unlawful refused steps so = (tt, inl refl)

  pub only_unlawful : (result : Result ℕ CheckEnd) → LawfulSo result → UnlawfulSo result
      → RefusedSo result → (line reason : ℕ) → HasUnlawful bytes line reason
      → IsErrOf result (UnlawfulAt record { line = line; reason = reason })
      ⊎ IsErrOf result NoMemory
  only_unlawful (Ok told) lawful unlawful refused line reason so =
      absurd (not_both lawful so)
  only_unlawful (Err (UnlawfulAt u)) lawful unlawful refused line reason so =
      let same = unlawful_alone (unlawful u refl) so in
      let one : u ≡ record { line = line; reason = reason }
      = λ i. record { line = same.0 i; reason = same.1 i } in
      inl (ap {A = Unlawful} {B = Result ℕ CheckEnd} (λ x. Err (UnlawfulAt x)) one)
  only_unlawful (Err (Refused r)) lawful unlawful refused line reason so =
      absurd (not_input bytes r.line r.reason so.set_up so.known so.texts (refused r refl) so.input)
  only_unlawful (Err NoMemory) lawful unlawful refused line reason so = inr refl

  pub only_refused : (result : Result ℕ CheckEnd) → LawfulSo result → UnlawfulSo result
      → RefusedSo result → (line reason : ℕ) → IsRefusedInput bytes line reason
      → IsErrOf result (Refused record { line = line; reason = reason }) ⊎ IsErrOf result NoMemory
  only_refused (Ok told) lawful unlawful refused line reason so =
      absurd (not_input bytes line reason lawful.set_up lawful.known lawful.texts so lawful.input)
  only_refused (Err (UnlawfulAt u)) lawful unlawful refused line reason so =
      let has = unlawful u refl in
      absurd (not_input bytes line reason has.set_up has.known has.texts so has.input)
  only_refused (Err (Refused r)) lawful unlawful refused line reason so =
      let same = refused_alone bytes r.line r.reason line reason (refused r refl) so in
      let one : r ≡ record { line = line; reason = reason }
      = λ i. record { line = same.0 i; reason = same.1 i } in
      inl (ap {A = Refusal} {B = Result ℕ CheckEnd} (λ x. Err (Refused x)) one)
  only_refused (Err NoMemory) lawful unlawful refused line reason so = inr refl
