-- What the answers of a call say, status by status.
use Rattle.std.proofs.Common.{◌≡◌, ◌≢◌, ℕ, ◌+◌, ◌<◌, ◌≤◌, List, [], ◌++◌, length, length-append, Option, Some, None, refl, sym, ap, ◌∙◌, subst, arith, append-nil, ◌⊎◌, inl, inr, Bool, Decides, get_or, map, ◌∷◌, MatchOption}
use Rattle.std.specs.Io.KnownBytes.{Appends, Consumes, IsAtEnd, Keeps}
use Rattle.rio_chars.specs.Faults.{Rose}
use Rattle.rio_chars.specs.Fronts.{AppendsFront}
use Rattle.rio_chars.specs.Takings.{ConsumesJust, ConsumesUpTo}
use Rattle.rio_cli.specs.declared.command.Command.{Command}
use Rattle.rio_cli.specs.declared.command.Command.TheVariants.{Check}
use Rattle.rio_cli.specs.Words.{AsksCommand}
use Rattle.rio_cli.specs.declared.refusal.Refusal.{Refusal}
use Rattle.rio_cli.specs.declared.status.Status.{Status}
use Rattle.rio_cli.specs.declared.status.Status.TheVariants.{Done, Words, Script, ReadFault, WriteFault, NoMemory, Undetected, TooLong, Locked, Unlawful}
use Rattle.rio_cli.specs.Inputs.{most_input}
use Rattle.rio_cli.specs.Outputs.{InputIsRefused, InputIsUnlawful, InputIsHit, Completes, Exposes, Meets, RunsOut, Declines, Gave, OfInput, verdict_text}
use Rattle.trace_check.specs.Outcomes.{HasLawful}
use Rattle.rio_cli.specs.Checking.{lawful_text}
use Rattle.rio_cli.specs.Messages.{Explains}
use Rattle.rio_cli.specs.Answers.{Answers, SaysOfBytes, SaysOfInput, IsOther, IsToldOf, TellsRefusal, Refuses, RefusesInput, RefusesBytes}

-- a source that told its bytes gave just these
gave_all : (bytes given : List ℕ) (left after : Option (List ℕ)) → left ≡ Some bytes
    → Gave left after given → given ≡ bytes
gave_all bytes given left after e gave =
    from after (subst (λ l. Consumes l after given) e gave.told) gave.end
  where
    from : (after : Option (List ℕ)) → Consumes (Some bytes) after given → IsAtEnd after
        → given ≡ bytes
    from None told end = absurd told
    from (Some rest) told end = sym (told ∙ ap (λ xs. given ++ xs) end ∙ append-nil given)

-- more bytes than the limit were there
took_more : (bytes : List ℕ) (left after : Option (List ℕ)) → left ≡ Some bytes
    → ConsumesJust left after (most_input + 1) → most_input < length bytes
took_more bytes left after e took =
    from after (subst (λ l. Consumes l after took.taken) e took.told)
  where
    from : (after : Option (List ℕ)) → Consumes (Some bytes) after took.taken
        → most_input < length bytes
    from None told = absurd told
    from (Some rest) told =
        let just = took.just in omega (arith, ap length told, length-append took.taken rest)

-- where nothing was read
pub took_none : (left : Option (List ℕ)) → ConsumesUpTo left left (most_input + 1)
took_none left = record { taken = []; told = from left; within = omega arith }
  where
    from : (left : Option (List ℕ)) → Consumes left left []
    from None = tt
    from (Some bytes) = refl

module _ (command : Command) (l l2 : Option (List ℕ)) (r r' : ℕ) (w : Option (List ℕ)) (f : ℕ)
    (w' : Option (List ℕ)) (f2 : ℕ) where
  pub says_at : (answer status : Status) → SaysOfInput command answer l l2 r r' w f w' f2
      → answer ≡ status → SaysOfInput command status l l2 r r' w f w' f2
  says_at answer status h e = subst (λ s. SaysOfInput command s l l2 r r' w f w' f2) e h

  -- an input that is not to be refused
  pub accepts : (answer : Status) → SaysOfInput command answer l l2 r r' w f w' f2
      → (bytes : List ℕ) → l ≡ Some bytes → length bytes ≤ most_input
      → (Declines Script command bytes w w' → ⊥) → ¬ Rose r r' → ¬ Rose f f2
      → (answer ≡ Done) ⊎ ((answer ≡ Undetected) ⊎ ((answer ≡ Locked) ⊎ ((answer ≡ Unlawful)
      ⊎ (answer ≡ NoMemory))))
  accepts Done h bytes e fits never calm calm2 = inl refl
  accepts Words h bytes e fits never calm calm2 = absurd h
  accepts Script h bytes e fits never calm calm2 =
      absurd
      (never
      (subst (λ b. Declines Script command b w w') (gave_all bytes h.bytes l l2 e h.gave) h.holds))
  accepts ReadFault h bytes e fits never calm calm2 = absurd (calm h.0)
  accepts WriteFault h bytes e fits never calm calm2 = absurd (calm2 h.0)
  accepts NoMemory h bytes e fits never calm calm2 = inr (inr (inr (inr refl)))
  accepts Undetected h bytes e fits never calm calm2 = inr (inl refl)
  accepts TooLong h bytes e fits never calm calm2 =
      let more = took_more bytes l l2 e h.0 in absurd (omega arith)
  accepts Locked h bytes e fits never calm calm2 = inr (inr (inl refl))
  accepts Unlawful h bytes e fits never calm calm2 = inr (inr (inr (inl refl)))

  -- an input that is not to be carried out
  pub refuses : (answer : Status) → SaysOfInput command answer l l2 r r' w f w' f2
      → (bytes : List ℕ) → l ≡ Some bytes → length bytes ≤ most_input
      → (Completes command bytes w w' → ⊥) → (Exposes command bytes w w' → ⊥)
      → (Meets command bytes w w' → ⊥) → (Declines Unlawful command bytes w w' → ⊥)
      → ¬ Rose r r' → ¬ Rose f f2 → (answer ≡ Script) ⊎ (answer ≡ NoMemory)
  refuses Done h bytes e fits never either free lawful calm calm2 =
      absurd
      (never (subst (λ b. Completes command b w w') (gave_all bytes h.bytes l l2 e h.gave) h.holds))
  refuses Words h bytes e fits never either free lawful calm calm2 = absurd h
  refuses Script h bytes e fits never either free lawful calm calm2 = inl refl
  refuses ReadFault h bytes e fits never either free lawful calm calm2 = absurd (calm h.0)
  refuses WriteFault h bytes e fits never either free lawful calm calm2 = absurd (calm2 h.0)
  refuses NoMemory h bytes e fits never either free lawful calm calm2 = inr refl
  refuses Undetected h bytes e fits never either free lawful calm calm2 =
      absurd
      (either (subst (λ b. Exposes command b w w') (gave_all bytes h.bytes l l2 e h.gave) h.holds))
  refuses TooLong h bytes e fits never either free lawful calm calm2 =
      let more = took_more bytes l l2 e h.0 in absurd (omega arith)
  refuses Locked h bytes e fits never either free lawful calm calm2 =
      absurd
      (free (subst (λ b. Meets command b w w') (gave_all bytes h.bytes l l2 e h.gave) h.holds))
  refuses Unlawful h bytes e fits never either free lawful calm calm2 =
      absurd
      (lawful
      (subst (λ b. Declines Unlawful command b w w') (gave_all bytes h.bytes l l2 e h.gave)
      h.holds))

  is_too_long : (bytes given : List ℕ) → l ≡ Some bytes → most_input < length bytes
      → Gave l l2 given → ⊥
  is_too_long bytes given e long gave =
      let within = gave.within in let same = ap length (gave_all bytes given l l2 e gave) in
      omega arith

  pub lengthy : (answer : Status) → SaysOfInput command answer l l2 r r' w f w' f2
      → (bytes : List ℕ) → l ≡ Some bytes → most_input < length bytes
      → ¬ Rose r r' → ¬ Rose f f2 → (answer ≡ TooLong) ⊎ (answer ≡ NoMemory)
  lengthy Done h bytes e long calm calm2 = absurd (is_too_long bytes h.bytes e long h.gave)
  lengthy Words h bytes e long calm calm2 = absurd h
  lengthy Script h bytes e long calm calm2 = absurd (is_too_long bytes h.bytes e long h.gave)
  lengthy ReadFault h bytes e long calm calm2 = absurd (calm h.0)
  lengthy WriteFault h bytes e long calm calm2 = absurd (calm2 h.0)
  lengthy NoMemory h bytes e long calm calm2 = inr refl
  lengthy Undetected h bytes e long calm calm2 = absurd (is_too_long bytes h.bytes e long h.gave)
  lengthy TooLong h bytes e long calm calm2 = inl refl
  lengthy Locked h bytes e long calm calm2 = absurd (is_too_long bytes h.bytes e long h.gave)
  lengthy Unlawful h bytes e long calm calm2 = absurd (is_too_long bytes h.bytes e long h.gave)

-- memory ran out before anything was written, or while the input was carried out
pub ran_out : (command : Command) (words : List (List ℕ)) (l l2 w w' : Option (List ℕ))
    → AsksCommand command words
    → Keeps w w' ⊎ OfInput l l2 (λ bytes. RunsOut command bytes w w')
    → Keeps w w'
    ⊎ ((k : Command) × AsksCommand k words × OfInput l l2 (λ bytes. RunsOut k bytes w w'))
ran_out command words l l2 w w' known (inl none) = inl none
ran_out command words l l2 w w' known (inr some) = inr (command, known, some)

-- ---- the line that is refused

-- the command of the refusal is the one that the words ask for
pub Refuses-input : (command : Command) (words : List (List ℕ)) (status : Status)
    (refusal : Option Refusal) (l l2 w w' : Option (List ℕ)) → AsksCommand command words
    → RefusesInput command (record { status = status; refusal = refusal }) l l2 w w'
    → Refuses words (record { status = status; refusal = refusal }) l l2 w w'
Refuses-input command words status None l l2 w w' known h = h
Refuses-input command words status (Some r) l l2 w w' known h =
    let Of : Command → Type 0 =
    λ k. AsksCommand k words × OfInput l l2 (λ bytes. IsToldOf status k bytes r w w') in
    subst Of (sym h.0) (known, h.1)

-- what is refused of the bytes is refused of the input
pub RefusesInput-of : (command : Command) (status : Status) (refusal : Option Refusal)
    (bytes : List ℕ) (l l2 w w' : Option (List ℕ)) → Gave l l2 bytes
    → RefusesBytes command (record { status = status; refusal = refusal }) bytes w w'
    → RefusesInput command (record { status = status; refusal = refusal }) l l2 w w'
RefusesInput-of command status None bytes l l2 w w' gave h = h
RefusesInput-of command status (Some r) bytes l l2 w w' gave h = (
  h.0,
  record {
    bytes = bytes;
    gave = gave;
    holds = h.1;
  },
)

-- the line of a refusal was written
pub RefusesBytes-line : (kind : Status) (command : Command) (bytes : List ℕ) (status : Status)
    (refusal : Option Refusal) (line reason : ℕ) (w w' : Option (List ℕ))
    → InputIsHit kind command bytes line reason
    → TellsRefusal kind command bytes line reason (record { status = status; refusal = refusal })
    w w'
    → RefusesBytes command (record { status = status; refusal = refusal }) bytes w w'
RefusesBytes-line kind command bytes status None line reason w w' is h = h
RefusesBytes-line kind command bytes status (Some r) line reason w w' is h =
    let Told : Status → ℕ → ℕ → Type 0 =
    λ k n m. InputIsHit k command bytes n m × Appends w w' (verdict_text k n m)
    × Explains command bytes n m r.message.items in
    let here =
    subst (λ k. Told k r.line r.reason) (sym h.0)
    (subst (λ n. Told kind n r.reason) (sym h.2)
    (subst (λ m. Told kind line m) (sym h.3) (is, h.4, h.5))) in
    (h.1, record { hit = here.0; told = here.1; explains = here.2 })

-- so it is if the line could be written, which cites this refusal
pub tells_refusal : (kind : Status) (command : Command) (bytes : List ℕ) (line reason : ℕ)
    (status : Status) (refusal : Option Refusal) (told : Refusal) (text : List ℕ)
    (w w' : Option (List ℕ)) → told.command ≡ command → told.line ≡ line → told.reason ≡ reason
    → Explains command bytes line reason told.message.items → text ≡ verdict_text kind line reason
    → MatchOption refusal (status ≡ WriteFault)
    (λ r. (status ≡ kind) × (r ≡ told) × Appends w w' text)
    → TellsRefusal kind command bytes line reason (record { status = status; refusal = refusal })
    w w'
tells_refusal kind command bytes line reason status None told text w w' a b c why is h =
    ((λ e. let clash = sym h ∙ e in cc), (λ e. let clash = sym h ∙ e in cc))
tells_refusal kind command bytes line reason status (Some r) told text w w' a b c why is h =
    let Of : Refusal → Type 0 =
    λ s. (s.command ≡ command) × (s.line ≡ line) × (s.reason ≡ reason)
    × Explains command bytes line reason s.message.items in
    let here = subst Of (sym h.1) (a, b, c, why) in
    (h.0, here.0, here.1, here.2, subst (Appends w w') is h.2, here.3)

-- no line is told
pub RefusesBytes-none : (command : Command) (bytes : List ℕ) (status : Status)
    (refusal : Option Refusal) (w w' : Option (List ℕ)) → refusal ≡ None → IsOther status
    → RefusesBytes command (record { status = status; refusal = refusal }) bytes w w'
RefusesBytes-none command bytes status None w w' none other = other
RefusesBytes-none command bytes status (Some r) w w' none other = absurd (let e = none in cc)

-- a status that was told, or not for want of memory
module _ (command : Command) (bytes : List ℕ) (status : Status) (line reason : ℕ)
    (w : Option (List ℕ)) (f : ℕ) (w' : Option (List ℕ)) (f2 : ℕ) where
  -- the line of a refusal
  told_line : (kind : Status) → InputIsHit kind command bytes line reason
      → (Declines kind command bytes w w' → SaysOfBytes command kind bytes w f w' f2)
      → Answers status kind (verdict_text kind line reason) w f w' f2
      ⊎ ((status ≡ NoMemory) × Keeps w w') → SaysOfBytes command status bytes w f w' f2
  told_line kind is says (inl (inl told)) =
      subst (λ s. SaysOfBytes command s bytes w f w' f2) (sym told.0) (says (record {
        line = line;
        reason = reason;
        hit = is;
        told = told.1;
      }))
  told_line kind is says (inl (inr failed)) =
      subst (λ s. SaysOfBytes command s bytes w f w' f2) (sym failed.0) (
        failed.1,
        inr (record {
          status = kind;
          line = line;
          reason = reason;
          hit = is;
          told = failed.2;
        }),
      )
  told_line kind is says (inr none) =
      subst (λ s. SaysOfBytes command s bytes w f w' f2) (sym none.0) (inl none.1)

  pub says_line : InputIsRefused command bytes line reason
      → Answers status Script (verdict_text Script line reason) w f w' f2
      ⊎ ((status ≡ NoMemory) × Keeps w w') → SaysOfBytes command status bytes w f w' f2
  says_line is h = told_line Script is (λ d. d) h

  pub says_condemned : InputIsUnlawful command bytes line reason
      → Answers status Unlawful (verdict_text Unlawful line reason) w f w' f2
      ⊎ ((status ≡ NoMemory) × Keeps w w') → SaysOfBytes command status bytes w f w' f2
  says_condemned is h = told_line Unlawful is (λ d. d) h

-- the steps of a trace were told
pub says_lawful : (bytes : List ℕ) (status : Status) (steps : ℕ)
    (w : Option (List ℕ)) (f : ℕ) (w' : Option (List ℕ)) (f2 : ℕ) → HasLawful bytes steps
    → Answers status Done (lawful_text steps) w f w' f2
    ⊎ ((status ≡ NoMemory) × Keeps w w') → SaysOfBytes Check status bytes w f w' f2
says_lawful bytes status steps w f w' f2 is (inl (inl told)) =
    subst (λ s. SaysOfBytes Check s bytes w f w' f2) (sym told.0) (record {
      steps = steps;
      lawful = is;
      told = told.1;
    })
says_lawful bytes status steps w f w' f2 is (inl (inr failed)) =
    subst (λ s. SaysOfBytes Check s bytes w f w' f2) (sym failed.0) (
      failed.1,
      inl (record {
        steps = steps;
        lawful = is;
        told = failed.2;
      }),
    )
says_lawful bytes status steps w f w' f2 is (inr none) =
    subst (λ s. SaysOfBytes Check s bytes w f w' f2) (sym none.0) (inl none.1)

-- neither is a line that was told
pub lawful_is_other : (status : Status) (steps : ℕ) (w : Option (List ℕ)) (f : ℕ)
    (w' : Option (List ℕ)) (f2 : ℕ) → Answers status Done (lawful_text steps) w f w' f2
    ⊎ ((status ≡ NoMemory) × Keeps w w') → IsOther status
lawful_is_other status steps w f w' f2 (inl (inl told)) =
    ((λ e. let clash = sym told.0 ∙ e in cc), (λ e. let clash = sym told.0 ∙ e in cc))
lawful_is_other status steps w f w' f2 (inl (inr failed)) =
    ((λ e. let clash = sym failed.0 ∙ e in cc), (λ e. let clash = sym failed.0 ∙ e in cc))
lawful_is_other status steps w f w' f2 (inr none) =
    ((λ e. let clash = sym none.0 ∙ e in cc), (λ e. let clash = sym none.0 ∙ e in cc))

-- ---- a refusal answers its own status or WriteFault

module _ (answer status : Status) (text : List ℕ) (w : Option (List ℕ)) (f : ℕ)
    (w' : Option (List ℕ)) (f2 : ℕ) where
  pub no_other : (other : Status) → other ≢ status → other ≢ WriteFault
      → Answers answer status text w f w' f2 → answer ≡ other → ⊥
  no_other other not_own not_fault (inl a) e = not_own (sym e ∙ a.0)
  no_other other not_own not_fault (inr a) e = not_fault (sym e ∙ a.0)

  pub refusal_told : status ≢ WriteFault → Answers answer status text w f w' f2 → answer ≡ status
      → Appends w w' text
  refusal_told not_fault (inl a) e = a.1
  refusal_told not_fault (inr a) e = absurd (not_fault (sym e ∙ a.0))

  pub refusal_failed : status ≢ WriteFault → Answers answer status text w f w' f2
      → answer ≡ WriteFault → Rose f f2 × AppendsFront w w' text
  refusal_failed not_fault (inl a) e = absurd (not_fault (sym a.0 ∙ e))
  refusal_failed not_fault (inr a) e = (a.1, a.2)

  pub refusal_either : Answers answer status text w f w' f2
      → (answer ≡ status) ⊎ ((answer ≡ WriteFault) × AppendsFront w w' text)
  refusal_either (inl a) = inl a.0
  refusal_either (inr a) = inr (a.0, a.2)

-- ---- the words

-- the test of the one word is the test of all words
pub one_text : {A : Type 0} (text : A → List ℕ) (xs : List A) (x : A) (wanted read : List ℕ)
    (b : Bool) → length xs ≡ 1 → x ≡ get_or xs 0 x → read ≡ text x → Decides b (read ≡ wanted)
    → Decides b (map text xs ≡ wanted ∷ [])
one_text text [] x wanted read b one at is d = absurd (omega arith)
one_text text (y ∷ z ∷ xs) x wanted read b one at is d = absurd (omega arith)
one_text text (y ∷ []) x wanted read b one at is d =
    let same : read ≡ text y = is ∙ ap text at in (
      (λ t. ap (λ bytes. bytes ∷ []) (sym same ∙ d.0 t)),
      (λ e. let own : text y ≡ wanted = cc in d.1 (same ∙ own)),
    )
