-- The bytes spell one script at most or are refused in one way at most, and not both.
use Rattle.std.proofs.Common.{◌≡◌, ℕ, ◌+◌, ◌⊎◌, inl, inr, Result, Ok, Err, IfOk, IsOk, IsErrOf, List, [], ◌∷◌, length, refl, sym, ap, ◌∙◌, subst}
use Rattle.fabric_script.specs.declared.lines.Numbered.{Numbered}
use Rattle.fabric_script.specs.declared.scripts.Refusal.{Refusal}
use Rattle.fabric_script.specs.declared.scripts.ScriptEnd.{ScriptEnd}
use Rattle.fabric_script.specs.declared.scripts.ScriptEnd.TheVariants.{NoMemory, Refused}
use Rattle.fabric_script.specs.Known.{IsOrderly, Known}
use Rattle.fabric_script.specs.Scripts.{is_skipped}
use Rattle.script_input.proofs.InputOnce.{accepted_orderly, both_skipped, for_other, input_once, not_input, refused_alone}
use Rattle.io_script.specs.declared.lines.IoLine.{IoLine}
use Rattle.io_script.specs.declared.lines.IoScript.{IoScript}
use Rattle.io_script.specs.declared.lines.NumberedIo.{NumberedIo}
use Rattle.io_script.specs.IoLines.{io_form_of}
use Rattle.io_script.specs.IoReading.{Earlier, earlier_with, nothing_earlier}
use Rattle.io_script.specs.IoScripts.{AreHitFrom, Behind, first_behind, InSetUp, IsIoRefused, IsIoScript, KeptIoThen, KeptIsHit, SpellIoFrom}
use Rattle.io_script.proofs.IoLineLaws.{least_io_once, same_io_line, spelled_no_io_hit}

-- what a text that is kept spells, with those behind it
abbrev pub KeptIo : ℕ → Known → Earlier → List ℕ → List (List ℕ) → List NumberedIo → Type 0
KeptIo number known earlier text texts lines =
    KeptIoThen (λ next rest. SpellIoFrom (number + 1) known next texts rest) number known earlier
    text lines

-- how a text that is kept is hit, or one behind it
abbrev KeptHit : ℕ → Known → Earlier → List ℕ → List (List ℕ) → ℕ → ℕ → Type 0
KeptHit number known earlier text texts line reason =
    KeptIsHit (λ next. AreHitFrom (number + 1) known next texts line reason) number known earlier
    text line reason

module _ (known : Known) (orderly : IsOrderly known) where
  -- the lines before, with one more
  abbrev next_of : Earlier → IoLine → Earlier
  next_of earlier io = earlier_with (length known.links) earlier (io_form_of io)

  same_io_lines : (number : ℕ) (earlier : Earlier) (texts : List (List ℕ)) (a b : List NumberedIo)
      → SpellIoFrom number known earlier texts a → SpellIoFrom number known earlier texts b → a ≡ b
  same_io_lines number earlier [] a b one other = one ∙ sym other
  same_io_lines number earlier (text ∷ texts) a b one other =
      both_skipped (SpellIoFrom (number + 1) known earlier texts a)
      (KeptIo number known earlier text texts a)
      (SpellIoFrom (number + 1) known earlier texts b) (KeptIo number known earlier text texts b)
      (a ≡ b) (is_skipped text)
      (λ h k. same_io_lines (number + 1) earlier texts a b h k)
      (λ h k.
      let first : k.0 ≡ h.0 = same_io_line known earlier text orderly k.0 h.0 k.3 h.3 in
      let k4 = subst (λ io. SpellIoFrom (number + 1) known (next_of earlier io) texts k.1)
      first k.4 in
      let others = same_io_lines (number + 1) (next_of earlier h.0) texts h.1 k.1 h.4 k4 in
      let numbered : IoLine → NumberedIo = λ io. record { line = number; io = io } in
      h.2 ∙ (λ i. numbered (sym first i) ∷ others i) ∙ sym k.2)
      one other

  io_hit_once : (number : ℕ) (earlier : Earlier) (texts : List (List ℕ)) (l r l' r' : ℕ)
      → AreHitFrom number known earlier texts l r → AreHitFrom number known earlier texts l' r'
      → (l ≡ l') × (r ≡ r')
  io_hit_once number earlier [] l r l' r' one other = absurd one
  io_hit_once number earlier (text ∷ texts) l r l' r' one other =
      both_skipped (AreHitFrom (number + 1) known earlier texts l r)
      (KeptHit number known earlier text texts l r)
      (AreHitFrom (number + 1) known earlier texts l' r')
      (KeptHit number known earlier text texts l' r') ((l ≡ l') × (r ≡ r')) (is_skipped text)
      (λ h k. io_hit_once (number + 1) earlier texts l r l' r' h k)
      (λ h k. elim h [
        | inl x ↦ elim k [
          | inl y ↦ (
            x.0 ∙ sym y.0,
            x.1.2 ∙ least_io_once known earlier text orderly x.1.0 y.1.0 x.1.1 y.1.1 ∙ sym y.1.2,
          )
          | inr y ↦ absurd (spelled_no_io_hit known earlier text orderly y.0 x.1.0 y.1 x.1.1.hits)
        ]
        | inr x ↦ elim k [
          | inl y ↦ absurd (spelled_no_io_hit known earlier text orderly x.0 y.1.0 x.1 y.1.1.hits)
          | inr y ↦
              let first : y.0 ≡ x.0 = same_io_line known earlier text orderly y.0 x.0 y.1 x.1 in
              let y2 = subst (λ io. AreHitFrom (number + 1) known (next_of earlier io) texts l' r')
              first y.2 in
              io_hit_once (number + 1) (next_of earlier x.0) texts l r l' r' x.2 y2
        ]
      ])
      one other

  io_hit_not_spelled : (number : ℕ) (earlier : Earlier) (texts : List (List ℕ)) (l r : ℕ)
      (lines : List NumberedIo) → AreHitFrom number known earlier texts l r
      → SpellIoFrom number known earlier texts lines → ⊥
  io_hit_not_spelled number earlier [] l r lines one other = one
  io_hit_not_spelled number earlier (text ∷ texts) l r lines one other =
      both_skipped (AreHitFrom (number + 1) known earlier texts l r)
      (KeptHit number known earlier text texts l r)
      (SpellIoFrom (number + 1) known earlier texts lines)
      (KeptIo number known earlier text texts lines) ⊥ (is_skipped text)
      (λ h k. io_hit_not_spelled (number + 1) earlier texts l r lines h k)
      (λ h k. elim h [
        | inl x ↦ spelled_no_io_hit known earlier text orderly k.0 x.1.0 k.3 x.1.1.hits
        | inr x ↦
            let first : k.0 ≡ x.0 = same_io_line known earlier text orderly k.0 x.0 k.3 x.1 in
            let k4 = subst (λ io. SpellIoFrom (number + 1) known (next_of earlier io) texts k.1)
            first k.4 in
            io_hit_not_spelled (number + 1) (next_of earlier x.0) texts l r k.1 x.2 k4
      ])
      one other

-- ---- the whole input

module _ (bytes : List ℕ) where
  pub io_script_once : (names names' : List (List ℕ)) (set_up set_up' : List Numbered)
      (lines lines' : List NumberedIo) → IsIoScript bytes names set_up lines
      → IsIoScript bytes names' set_up' lines'
      → (names ≡ names') × (set_up ≡ set_up') × (lines ≡ lines')
  io_script_once names names' set_up set_up' lines lines' one other =
      let same = input_once bytes set_up set_up' one.known other.known one.texts other.texts
      one.input other.input in
      let spelled = for_other bytes
      (λ l k t. SpellIoFrom (first_behind bytes) k nothing_earlier t lines') set_up set_up'
      one.known
      other.known one.texts other.texts one.input other.input other.spelled in (
        sym one.named ∙ ap {A = Known} (λ k. k.names) same.1 ∙ other.named,
        same.0,
        same_io_lines one.known (accepted_orderly bytes set_up one.known one.input.accepted)
            (first_behind bytes) nothing_earlier one.texts lines lines' one.spelled spelled,
      )

  pub io_script_not_refused : (names : List (List ℕ)) (set_up : List Numbered)
      (lines : List NumberedIo) (line reason : ℕ) → IsIoScript bytes names set_up lines
      → IsIoRefused bytes line reason → ⊥
  io_script_not_refused names set_up lines line reason one (InSetUp refused) =
      not_input bytes line reason set_up one.known one.texts refused one.input
  io_script_not_refused names set_up lines line reason one (Behind {set_up = set_up'}
      {known = known} {texts = texts} input hit) =
      io_hit_not_spelled one.known (accepted_orderly bytes set_up one.known one.input.accepted)
      (first_behind bytes) nothing_earlier one.texts line reason lines
      (for_other bytes (λ l k t. AreHitFrom (first_behind bytes) k nothing_earlier t line reason)
      set_up
      set_up' one.known known one.texts texts one.input input hit)
      one.spelled

  pub io_refused_once : (line reason line' reason' : ℕ) → IsIoRefused bytes line reason
      → IsIoRefused bytes line' reason' → (line ≡ line') × (reason ≡ reason')
  io_refused_once line reason line' reason' (InSetUp one) (InSetUp other) =
      refused_alone bytes line reason line' reason' one other
  io_refused_once line reason line' reason' (InSetUp one) (Behind input hit) =
      absurd (not_input bytes line reason _ _ _ one input)
  io_refused_once line reason line' reason' (Behind input hit) (InSetUp other) =
      absurd (not_input bytes line' reason' _ _ _ other input)
  io_refused_once line reason line' reason' (Behind {set_up = s} {known = k} {texts = t} one hit)
      (Behind {set_up = s'} {known = k'} {texts = t'} other hit') =
      io_hit_once k (accepted_orderly bytes s k one.accepted) (first_behind bytes) nothing_earlier
      t line
      reason line' reason' hit
      (for_other bytes (λ l k t. AreHitFrom (first_behind bytes) k nothing_earlier t line' reason')
      s s' k
      k' t t' one other hit')

  -- ---- what an answer means the other way round

  abbrev pub IsSo : Result IoScript ScriptEnd → Type 0
  IsSo result = IfOk result (λ io. IsIoScript bytes io.script.names.items io.script.lines.items
      io.lines.items)

  abbrev pub RefusedIsSo : Result IoScript ScriptEnd → Type 0
  RefusedIsSo result = (refusal : Refusal) → IsErrOf result (Refused refusal)
      → IsIoRefused bytes refusal.line refusal.reason

  pub only_io_script : (result : Result IoScript ScriptEnd) → IsSo result → RefusedIsSo result
      → (names : List (List ℕ)) (set_up : List Numbered) (lines : List NumberedIo)
      → IsIoScript bytes names set_up lines
      → IfOk result (λ io. (io.script.names.items ≡ names)
      × (io.script.lines.items ≡ set_up) × (io.lines.items ≡ lines))
      × (IsErrOf result NoMemory ⊎ IsOk result)
  only_io_script (Ok io) is refused names set_up lines so = (
    io_script_once io.script.names.items names io.script.lines.items set_up io.lines.items lines is
        so,
    inr refl,
  )
  only_io_script (Err (Refused r)) is refused names set_up lines so =
      absurd (io_script_not_refused names set_up lines r.line r.reason so (refused r refl))
  only_io_script (Err NoMemory) is refused names set_up lines so = (tt, inl refl)

  pub only_io_refusal : (result : Result IoScript ScriptEnd) → IsSo result → RefusedIsSo result
      → (line reason : ℕ) → IsIoRefused bytes line reason
      → IsErrOf result (Refused record { line = line; reason = reason }) ⊎ IsErrOf result NoMemory
  only_io_refusal (Ok io) is refused line reason so =
      absurd (io_script_not_refused io.script.names.items io.script.lines.items io.lines.items line
      reason is so)
  only_io_refusal (Err (Refused r)) is refused line reason so =
      let same = io_refused_once r.line r.reason line reason (refused r refl) so in
      let one : r ≡ record { line = line; reason = reason }
      = λ i. record { line = same.0 i; reason = same.1 i } in
      inl (ap {A = Refusal} {B = Result IoScript ScriptEnd} (λ x. Err (Refused x)) one)
  only_io_refusal (Err NoMemory) is refused line reason so = inr refl
