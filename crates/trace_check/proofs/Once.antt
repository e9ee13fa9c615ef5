-- Texts are a lawful trace of one number of steps, or a reason first hits one line of them.
use Rattle.std.proofs.Common.{◌≡◌, ℕ, zero, suc, ◌+◌, ◌++◌, ◌<◌, false, List, [], ◌∷◌, length, refl, sym, ap, ◌∙◌, subst, arith, append_assoc}
use Rattle.std.proofs.lemmas.List.{append-nil}
use Rattle.fabric_script.specs.Known.{Known, IsOrderly}
use Rattle.fabric_model.specs.Network.{Network}
use Rattle.trace_lines.specs.Lines.{TraceLine, steps_of}
use Rattle.trace_check.specs.Checks.{LinePasses}
use Rattle.trace_check.specs.Lawful.{as_behind, BehindLast, Fault, fault_number, HitsLine, HitsNext, is_last, IsLawful, IsUnlawful, SpellsNone, PassFront, SpellAll, SpellFront, Spares}
use Rattle.trace_check.specs.Wires.{are_short}
use Rattle.trace_lines.specs.Words.{SpellsLine}
use Rattle.trace_check.proofs.Behind.{text_short}
use Rattle.trace_check.proofs.Exclusive.{same_line, stands}

-- ---- a lawful trace

lines_once : (known : Known) (texts : List (List ℕ)) (a b : List TraceLine) → IsOrderly known
    → SpellAll known texts a → SpellAll known texts b → a ≡ b
lines_once known [] a b orderly one other = absurd one
lines_once known (text ∷ []) a b orderly one other =
    one.1 ∙ ap (λ (l : TraceLine). l ∷ [])
    (same_line orderly one.2 other.2) ∙ sym other.1
lines_once known (text ∷ next ∷ texts) a b orderly one other =
    let same = same_line orderly one.3 other.3 in
    let more = lines_once known (next ∷ texts) one.1 other.1 orderly one.5 other.5 in
    one.2 ∙ (λ i. same i ∷ more i) ∙ sym other.2

pub lawful_once : {known : Known} {net : Network} {texts : List (List ℕ)} {m n : ℕ}
    → IsOrderly known → IsLawful known net texts m → IsLawful known net texts n → m ≡ n
lawful_once {known} {texts = texts} orderly one other =
    one.count
    ∙ ap (λ (l : List TraceLine). length (steps_of l))
    (lines_once known texts one.lines other.lines orderly one.spelled other.spelled)
    ∙ sym other.count

-- ---- the least fault

level : (m n : ℕ) → (m < n → ⊥) → (n < m → ⊥) → m ≡ n
level zero zero below above = refl
level zero (suc n) below above = absurd (below (omega arith))
level (suc m) zero below above = absurd (above (omega arith))
level (suc m) (suc n) below above =
    ap (λ (k : ℕ). suc k) (level m n (λ less. below (omega (arith, less)))
    (λ less. above (omega (arith, less))))

fault_once : (Stand : Fault → Type 0) (a b : Fault) → (Stand a → ⊥) → (Stand b → ⊥)
    → ((other : Fault) → fault_number other < fault_number a → Stand other)
    → ((other : Fault) → fault_number other < fault_number b → Stand other)
    → fault_number a ≡ fault_number b
fault_once Stand a b fails_a fails_b below_a below_b =
    level (fault_number a) (fault_number b) (λ less. fails_a (below_b a less))
    (λ less. fails_b (below_a b less))

-- ---- of one text

module _ {known : Known} (net : Network) (before : List TraceLine) (orderly : IsOrderly known) where
  -- a line that passes is hit by no fault, with the same behind it
  not_failed : {text : List ℕ} {line other : TraceLine} {one : List TraceLine}
      (texts : List (List ℕ)) (fault : Fault) → SpellsLine known text line
      → SpellsLine known text other → are_short one ≡ are_short (as_behind texts)
      → LinePasses net before line one → (Spares net before other (as_behind texts) fault → ⊥) → ⊥
  not_failed texts fault spelled spells short passes fails =
      fails (subst (λ l. Spares net before l (as_behind texts) fault)
      (same_line orderly spelled spells) (stands (as_behind texts) fault short passes))

  -- one that passes and does not end the trace is not hit
  pub not_over : {text : List ℕ} {line : TraceLine} {behind : List TraceLine} {place reason : ℕ}
      (texts : List (List ℕ)) → SpellsLine known text line → is_last line ≡ false
      → are_short behind ≡ are_short (as_behind texts) → LinePasses net before line behind
      → HitsNext known net before (text ∷ texts) place reason → ⊥
  not_over {line = line} texts spelled goes short passes (SpellsNone none) = none line spelled
  not_over (next ∷ texts) spelled goes short passes (BehindLast other spells last passes_too) =
      absurd (cc (ap is_last (same_line orderly spelled spells), goes, last))
  not_over texts spelled goes short passes (HitsLine other fault spells fails less) =
      not_failed texts fault spelled spells short passes fails

  -- two faults of one text
  faults_once : {text : List ℕ} {line other : TraceLine} (texts : List (List ℕ)) (a b : Fault)
      → SpellsLine known text line → SpellsLine known text other
      → (Spares net before line (as_behind texts) a → ⊥)
      → (Spares net before other (as_behind texts) b → ⊥)
      → ((f : Fault) → fault_number f < fault_number a
      → Spares net before line (as_behind texts) f)
      → ((f : Fault) → fault_number f < fault_number b
      → Spares net before other (as_behind texts) f)
      → fault_number a ≡ fault_number b
  faults_once {line = line} texts a b spelled spells fails_a fails_b below_a below_b =
      let same = same_line orderly spells spelled in
      fault_once (Spares net before line (as_behind texts)) a b fails_a
      (subst (λ l. Spares net before l (as_behind texts) b → ⊥) same fails_b) below_a
      (subst (λ l. (f : Fault) → fault_number f < fault_number b
      → Spares net before l (as_behind texts) f) same below_b)

  hits_once : {texts : List (List ℕ)} {place reason place' reason' : ℕ}
      → HitsNext known net before texts place reason
      → HitsNext known net before texts place' reason' → (place ≡ place') × (reason ≡ reason')
  hits_once (SpellsNone none) (SpellsNone none') = (refl, refl)
  hits_once (SpellsNone none) (BehindLast line spells last passes) = absurd (none line spells)
  hits_once (SpellsNone none) (HitsLine line b spells fails less) = absurd (none line spells)
  hits_once (BehindLast line spelled last passes) (SpellsNone none) = absurd (none line spelled)
  hits_once (BehindLast line spelled last passes) (BehindLast other spells last' passes') =
      (refl, refl)
  hits_once (BehindLast {next = next} {texts = texts} line spelled last passes)
      (HitsLine other b spells fails less) =
      absurd (not_failed (next ∷ texts) b spelled spells refl passes fails)
  hits_once (HitsLine line a spelled fails less) (SpellsNone none) = absurd (none line spelled)
  hits_once (HitsLine line a spelled fails less)
      (BehindLast {next = next} {texts = texts} other spells last passes) =
      absurd (not_failed (next ∷ texts) a spells spelled refl passes fails)
  hits_once (HitsLine {texts = texts} line a spelled fails less)
      (HitsLine other b spells fails' less') =
      (refl, faults_once texts a b spelled spells fails fails' less less')

-- ---- of all texts

-- lines that are spelled say the same of a wire as their texts
front_short : (known : Known) (front rest : List (List ℕ)) (lines : List TraceLine)
    → IsOrderly known → SpellFront known front lines
    → are_short (lines ++ as_behind rest) ≡ are_short (as_behind (front ++ rest))
front_short known [] rest lines orderly none =
    ap (λ (l : List TraceLine). are_short (l ++ as_behind rest)) none
front_short known (text ∷ front) rest lines orderly first =
    ap (λ (l : List TraceLine). are_short (l ++ as_behind rest)) first.2
    ∙ sym (text_short (front ++ rest) (first.1 ++ as_behind rest) orderly
    first.3)

module _ {known : Known} {net : Network} (orderly : IsOrderly known) where
  -- a reason hits none of the texts that spell lines which pass
  over : {place reason : ℕ} (text : List ℕ) (front rest texts : List (List ℕ))
      (done lines none : List TraceLine) → SpellFront known (text ∷ front) lines
      → PassFront net (done ++ lines) rest → none ≡ [] → texts ≡ text ∷ (front ++ rest)
      → HitsNext known net (done ++ none) texts place reason → ⊥
  over {place} {reason} text front rest texts done lines none spelled pass is split hits =
      let before : done ++ none ≡ done
      = ap (λ (l : List TraceLine). done ++ l) is ∙ append-nil done in
      not_over net done orderly (front ++ rest) spelled.3 spelled.4
      (front_short known front rest spelled.1 orderly spelled.5)
      (pass done spelled.0 spelled.1 (ap (λ (l : List TraceLine). done ++ l) spelled.2))
      (subst (λ (l : List TraceLine).
      HitsNext known net l (text ∷ (front ++ rest)) place reason) before
      (subst (λ (t : List (List ℕ)). HitsNext known net (done ++ none) t place reason) split hits))

  once : {place reason place' reason' : ℕ} (front front' rest rest' : List (List ℕ))
      (done lines lines' : List TraceLine) → front ++ rest ≡ front' ++ rest'
      → SpellFront known front lines → SpellFront known front' lines'
      → PassFront net (done ++ lines) rest → PassFront net (done ++ lines') rest'
      → HitsNext known net (done ++ lines) rest place reason
      → HitsNext known net (done ++ lines') rest' place' reason'
      → (length front + place ≡ length front' + place') × (reason ≡ reason')
  once {place' = p'} {reason' = r'} [] [] rest rest' done lines lines' split none none' pass pass'
      hits hits' =
      let before : done ++ lines' ≡ done ++ lines
      = ap (λ (l : List TraceLine). done ++ l) (none' ∙ sym none) in
      let same = hits_once net (done ++ lines) orderly hits
      (subst (λ (t : List (List ℕ)). HitsNext known net (done ++ lines) t p' r') (sym split)
      (subst (λ (l : List TraceLine). HitsNext known net l rest' p' r') before hits')) in
      let place = same.0 in
      (omega (arith, place), same.1)
  once [] (y ∷ front') rest rest' done lines lines' split none first' pass pass' hits hits' =
      absurd (over y front' rest' rest done lines' lines first' pass' none split hits)
  once (x ∷ front) [] rest rest' done lines lines' split first none' pass pass' hits hits' =
      absurd (over x front rest rest' done lines lines' first pass none' (sym split) hits')
  once {place = p} {reason = r} {place' = p'} {reason' = r'} (x ∷ front) (y ∷ front') rest rest'
      done lines lines' split first first' pass pass' hits hits' =
      let text : y ≡ x = cc in
      let texts : front ++ rest ≡ front' ++ rest' = cc in
      let line = first.0 in
      let same : first'.0 ≡ line = same_line orderly
      (subst (λ t. SpellsLine known t first'.0) text first'.3) first.3 in
      let one : done ++ lines ≡ (done ++ line ∷ []) ++ first.1
      = ap (λ (l : List TraceLine). done ++ l) first.2
      ∙ sym (append_assoc done (line ∷ []) first.1) in
      let other : done ++ lines' ≡ (done ++ line ∷ []) ++ first'.1
      = ap (λ (l : List TraceLine). done ++ l) first'.2
      ∙ (λ i. done ++ same i ∷ first'.1)
      ∙ sym (append_assoc done (line ∷ []) first'.1) in
      let more = once front front' rest rest' (done ++ line ∷ []) first.1 first'.1 texts
      first.5 first'.5 (subst (λ (l : List TraceLine). PassFront net l rest) one pass)
      (subst (λ (l : List TraceLine). PassFront net l rest') other pass')
      (subst (λ (l : List TraceLine). HitsNext known net l rest p r) one hits)
      (subst (λ (l : List TraceLine). HitsNext known net l rest' p' r') other hits') in
      let place = more.0 in
      (omega (arith, place), more.1)

  pub unlawful_once : {texts : List (List ℕ)} {line reason line' reason' : ℕ}
      → IsUnlawful known net texts line reason → IsUnlawful known net texts line' reason'
      → (line ≡ line') × (reason ≡ reason')
  unlawful_once one other =
      let same = once one.front other.front one.rest other.rest [] one.lines other.lines
      (sym one.split ∙ other.split) one.spelled other.spelled one.pass
      other.pass one.hits other.hits in
      (one.at ∙ same.0 ∙ sym other.at, same.1)
