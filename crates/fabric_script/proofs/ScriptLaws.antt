-- The bytes spell one script at most or are refused in one way at most, and not both.
use Rattle.std.proofs.Common.{◌≡◌, ℕ, ◌+◌, ◌<◌, suc, Bool, true, false, List, [], ◌∷◌, ◌++◌, length, length-append, refl, sym, ap, ◌∙◌, subst, append_assoc, append-nil, arith, ◌⊎◌, inl, inr, MatchBool, Result, Ok, Err, IfOk, IsOk, IsErrOf}
use Rattle.std.proofs.lemmas.List.{get_or_append_left}
use Rattle.std.proofs.Math.Seq.{get_or-append_seam}
use Rattle.fabric_script.specs.declared.reasons.Reason.{Reason}
use Rattle.fabric_script.specs.declared.lines.Line.{Line}
use Rattle.fabric_script.specs.declared.lines.Line.TheVariants.{Endpoint, Switch}
use Rattle.fabric_script.specs.declared.lines.Numbered.{Numbered}
use Rattle.fabric_script.specs.declared.lines.Script.{Script}
use Rattle.fabric_script.specs.declared.scripts.Refusal.{Refusal}
use Rattle.fabric_script.specs.declared.scripts.ScriptEnd.{ScriptEnd}
use Rattle.fabric_script.specs.declared.scripts.ScriptEnd.TheVariants.{Refused, NoMemory}
use Rattle.fabric_script.specs.Names.{name_of}
use Rattle.fabric_script.specs.Lines.{new_name}
use Rattle.fabric_script.specs.declared.known.Mode.{Mode}
use Rattle.fabric_script.specs.Known.{Known, IsOrderly, nothing_in, known_after, names_after}
use Rattle.fabric_script.specs.Reasons.{reason_number}
use Rattle.fabric_script.specs.LineWords.{NodeIsNext}
use Rattle.fabric_script.specs.Reading.{new_name_in, MayBe, Spells, LeastHit}
use Rattle.fabric_script.specs.Scripts.{pieces_of, is_skipped, KeptThen, SpellsFrom, IsScriptIn, RefusedIn, PassesFrom, PassesIn}
use Rattle.fabric_script.proofs.LineLaws.{same_line}
use Rattle.fabric_script.proofs.ReadLaws.{spelled_no_hit}
use Rattle.fabric_script.proofs.KnownLaws.{nothing-orderly, orderly-after}

-- by whether a piece is skipped, of one fact or of two
pub by_skipped : {C : Type 0} (A B : Type 0) → (A → C) → (B → C) → (skipped : Bool)
    → MatchBool skipped A B → C
by_skipped A B f g true h = f h
by_skipped A B f g false h = g h

by_skipped_both : {C : Type 0} (A B A' B' : Type 0) → (A → A' → C) → (B → B' → C) → (skipped : Bool)
    → MatchBool skipped A B → MatchBool skipped A' B' → C
by_skipped_both A B A' B' f g true h k = f h k
by_skipped_both A B A' B' f g false h k = g h k

pub map_skipped : (A B C D : Type 0) → (A → C) → (B → D) → (skipped : Bool) → MatchBool skipped A B
    → MatchBool skipped C D
map_skipped A B C D f g true h = f h
map_skipped A B C D f g false h = g h

-- what a piece that is kept spells, with those behind it
abbrev pub Kept : ℕ → Known → List ℕ → List (List ℕ) → List Numbered → Known → Type 0
Kept number known text texts lines end =
    KeptThen (λ next rest. SpellsFrom (suc number) next texts rest end) number known text lines

pub orderly-spelled : (known : Known) (text : List ℕ) (line : Line) → IsOrderly known
    → Spells known text line → IsOrderly (known_after known (new_name_in text line) line)
orderly-spelled known text line orderly spells = orderly-after known (new_name_in text line) line
    orderly spells.says.may

-- ---- one script at most

pub same_lines : (number : ℕ) (known : Known) (texts : List (List ℕ)) (a b : List Numbered)
    (end end' : Known) → IsOrderly known → SpellsFrom number known texts a end
    → SpellsFrom number known texts b end' → (a ≡ b) × (end ≡ end')
same_lines number known [] a b end end' orderly spells_a spells_b =
    (spells_a.0 ∙ sym spells_b.0, spells_a.1 ∙ sym spells_b.1)
same_lines number known (text ∷ texts) a b end end' orderly spells_a spells_b =
    by_skipped_both (SpellsFrom (suc number) known texts a end) (Kept number known text texts a end)
    (SpellsFrom (suc number) known texts b end') (Kept number known text texts b end')
    (λ h k. same_lines (suc number) known texts a b end end' orderly h k)
    (λ h k.
    let first : k.0 ≡ h.0 = same_line known text k.0 h.0 orderly k.3.says h.3.says in
    let k4 = subst
    (λ l. SpellsFrom (suc number) (known_after known (new_name_in text l) l) texts k.1 end')
    first k.4 in
    let others = same_lines (suc number) (known_after known (new_name_in text h.0) h.0) texts h.1
    k.1 end end' (orderly-spelled known text h.0 orderly h.3) h.4 k4 in (
      h.2
          ∙ ap {A = Line} {B = List Numbered}
          (λ line. record { number = number; line = line } ∷ h.1) (sym first)
          ∙ ap {A = List Numbered} {B = List Numbered}
          (λ rest. record { number = number; line = k.0 } ∷ rest) others.0
          ∙ sym k.2,
      others.1,
    ))
    (is_skipped text) spells_a spells_b

-- ---- one refusal at most

-- The first piece that a reason hits has this number, and the first of all pieces the number before
-- it.
abbrev HitsFrom : ℕ → Known → List (List ℕ) → ℕ → ℕ → Type 0
HitsFrom number known [] line reason = ⊥
HitsFrom number known (text ∷ texts) line reason = MatchBool (is_skipped text)
    (HitsFrom (suc number) known texts line reason)
    (((line ≡ number) × ((r : Reason) × (reason ≡ reason_number r) × LeastHit known text r))
    ⊎ ((l : Line) × Spells known text l
    × HitsFrom (suc number) (known_after known (new_name_in text l) l) texts line reason))

-- the same of a piece that is kept, and of those behind it
abbrev KeptHits : ℕ → Known → List ℕ → List (List ℕ) → ℕ → ℕ → Type 0
KeptHits number known text texts line reason =
    ((line ≡ number) × ((r : Reason) × (reason ≡ reason_number r) × LeastHit known text r))
    ⊎ ((l : Line) × Spells known text l
    × HitsFrom (suc number) (known_after known (new_name_in text l) l) texts line reason)

-- a refusal, along the pieces before it
HitsFrom-from_parts : (number : ℕ) (known end : Known) (line : ℕ) (r : Reason)
    (before : List (List ℕ)) (text : List ℕ) (behind : List (List ℕ)) (lines : List Numbered)
    → SpellsFrom number known before lines end → is_skipped text ≡ false → line ≡ number
    + length before → LeastHit end text r → HitsFrom number known (before ++ text ∷ behind) line
    (reason_number r)
HitsFrom-from_parts number known end line r [] text behind lines spelled kept at hits =
    let here : line ≡ number = at ∙ omega arith in
    rw kept (inl (here, (r, refl, subst (λ k. LeastHit k text r) spelled.1 hits)))
HitsFrom-from_parts number known end line r (t ∷ ts) text behind lines spelled kept at hits =
    let at' : line ≡ suc number + length ts = omega arith in
    map_skipped (SpellsFrom (suc number) known ts lines end) (Kept number known t ts lines end)
    (HitsFrom (suc number) known (ts ++ text ∷ behind) line (reason_number r))
    (KeptHits number known t (ts ++ text ∷ behind) line (reason_number r))
    (λ h. HitsFrom-from_parts (suc number) known end line r ts text behind lines h kept at' hits)
    (λ h. inr (
      h.0,
      h.3,
      HitsFrom-from_parts (suc number) (known_after known (new_name_in t h.0) h.0) end
          line r ts text behind h.1 h.4 kept at' hits,
    ))
    (is_skipped t) spelled

HitsFrom-from_refused : (mode : Mode) → (bytes : List ℕ) (line reason : ℕ)
    → RefusedIn mode bytes line reason → HitsFrom 1 (nothing_in mode) (pieces_of bytes) line reason
HitsFrom-from_refused mode bytes line reason r =
    subst (λ n. HitsFrom 1 (nothing_in mode) (pieces_of bytes) line n) (sym r.named)
    (subst (λ texts. HitsFrom 1 (nothing_in mode) texts line (reason_number r.reason)) (sym r.split)
    (HitsFrom-from_parts 1 (nothing_in mode) r.known line r.reason r.before r.text r.behind r.lines
    r.spelled r.kept (omega (arith, r.place)) r.least))

-- the least reason is one
pub least_once : (known : Known) (text : List ℕ) (r q : Reason) → LeastHit known text r
    → LeastHit known text q → reason_number r ≡ reason_number q
least_once known text r q a b =
    let below = a.least q b.hits in
    let above = b.least r a.hits in
    omega arith

HitsFrom-once : (number : ℕ) (known : Known) (texts : List (List ℕ)) (l r l' r' : ℕ)
    → IsOrderly known → HitsFrom number known texts l r → HitsFrom number known texts l' r'
    → (l ≡ l') × (r ≡ r')
HitsFrom-once number known [] l r l' r' orderly h k = absurd h
HitsFrom-once number known (text ∷ texts) l r l' r' orderly h k =
    by_skipped_both (HitsFrom (suc number) known texts l r) (KeptHits number known text texts l r)
    (HitsFrom (suc number) known texts l' r') (KeptHits number known text texts l' r')
    (HitsFrom-once (suc number) known texts l r l' r' orderly)
    (λ h k. elim h [
      | inl x ↦ elim k [
        | inl y ↦ (
          x.0 ∙ sym y.0,
          x.1.1 ∙ least_once known text x.1.0 y.1.0 x.1.2 y.1.2
              ∙ sym y.1.1,
        )
        | inr y ↦ absurd (spelled_no_hit known text y.0 x.1.0 orderly y.1 x.1.2.hits)
      ]
      | inr x ↦ elim k [
        | inl y ↦ absurd (spelled_no_hit known text x.0 y.1.0 orderly x.1 y.1.2.hits)
        | inr y ↦
            let first : y.0 ≡ x.0 = same_line known text y.0 x.0 orderly y.1.says x.1.says in
            let y2 = subst
            (λ l. HitsFrom (suc number) (known_after known (new_name_in text l) l) texts l'
            r') first y.2 in
            HitsFrom-once (suc number) (known_after known (new_name_in text x.0) x.0) texts l r l'
            r' (orderly-spelled known text x.0 orderly x.1) x.2 y2
      ]
    ])
    (is_skipped text) h k

HitsFrom-not_spelled : (number : ℕ) (known end : Known) (texts : List (List ℕ)) (line reason : ℕ)
    (lines : List Numbered) → IsOrderly known → HitsFrom number known texts line reason
    → SpellsFrom number known texts lines end → ⊥
HitsFrom-not_spelled number known end [] line reason lines orderly h spelled = h
HitsFrom-not_spelled number known end (text ∷ texts) line reason lines orderly h spelled =
    by_skipped_both (HitsFrom (suc number) known texts line reason)
    (KeptHits number known text texts line reason)
    (SpellsFrom (suc number) known texts lines end) (Kept number known text texts lines end)
    (HitsFrom-not_spelled (suc number) known end texts line reason lines orderly)
    (λ h k. elim h [
      | inl x ↦ spelled_no_hit known text k.0 x.1.0 orderly k.3 x.1.2.hits
      | inr x ↦
          let first : k.0 ≡ x.0 = same_line known text k.0 x.0 orderly k.3.says x.1.says in
          let k4 = subst
          (λ l. SpellsFrom (suc number) (known_after known (new_name_in text l) l) texts k.1
          end) first k.4 in
          HitsFrom-not_spelled (suc number) (known_after known (new_name_in text x.0) x.0) end texts
          line reason k.1 (orderly-spelled known text x.0 orderly x.1) x.2 k4
    ])
    (is_skipped text) h spelled

pub refused_once : (mode : Mode) → (bytes : List ℕ) (line reason line' reason' : ℕ)
    → RefusedIn mode bytes line reason → RefusedIn mode bytes line' reason' → (line ≡ line')
    × (reason ≡ reason')
refused_once mode bytes line reason line' reason' a b =
    HitsFrom-once 1 (nothing_in mode) (pieces_of bytes) line reason line' reason'
    (nothing-orderly mode) (HitsFrom-from_refused mode bytes line reason a)
    (HitsFrom-from_refused mode bytes line' reason' b)

pub script_once : (mode : Mode) → (bytes : List ℕ) (names names' : List (List ℕ))
    (lines lines' : List Numbered) → IsScriptIn mode bytes names lines
    → IsScriptIn mode bytes names' lines' → (names ≡ names') × (lines ≡ lines')
script_once mode bytes names names' lines lines' a b =
    let same = same_lines 1 (nothing_in mode) (pieces_of bytes) lines lines' a.0 b.0
    (nothing-orderly mode) a.2 b.2 in
    (sym a.1 ∙ ap {A = Known} (λ k. k.names) same.1 ∙ b.1, same.0)

pub not_refused : (mode : Mode) → (bytes : List ℕ) (names : List (List ℕ)) (lines : List Numbered)
    (line reason : ℕ) → IsScriptIn mode bytes names lines → RefusedIn mode bytes line reason → ⊥
not_refused mode bytes names lines line reason script refused =
    HitsFrom-not_spelled 1 (nothing_in mode) script.0 (pieces_of bytes) line reason lines
    (nothing-orderly mode) (HitsFrom-from_refused mode bytes line reason refused) script.2

-- ---- what an answer means the other way round

pub only_script : (mode : Mode) → (bytes : List ℕ) (result : Result Script ScriptEnd)
    → IfOk result (λ script. IsScriptIn mode bytes script.names.items script.lines.items)
    → ((refusal : Refusal) → IsErrOf result (Refused refusal) → RefusedIn mode bytes refusal.line
    refusal.reason)
    → (names : List (List ℕ)) (lines : List Numbered) → IsScriptIn mode bytes names lines
    → IfOk result (λ script. (script.names.items ≡ names) × (script.lines.items ≡ lines))
    × (IsErrOf result NoMemory ⊎ IsOk result)
only_script mode bytes (Ok script) is refused names lines spelled =
    (script_once mode bytes script.names.items names script.lines.items lines is spelled, inr refl)
only_script mode bytes (Err (Refused refusal)) is refused names lines spelled =
    absurd (not_refused mode bytes names lines refusal.line refusal.reason spelled
    (refused refusal refl))
only_script mode bytes (Err NoMemory) is refused names lines spelled = (tt, inl refl)

pub only_refusal : (mode : Mode) → (bytes : List ℕ) (result : Result Script ScriptEnd)
    → IfOk result (λ script. IsScriptIn mode bytes script.names.items script.lines.items)
    → ((refusal : Refusal) → IsErrOf result (Refused refusal) → RefusedIn mode bytes refusal.line
    refusal.reason)
    → (line reason : ℕ) → RefusedIn mode bytes line reason
    → IsErrOf result (Refused record { line = line; reason = reason }) ⊎ IsErrOf result NoMemory
only_refusal mode bytes (Ok script) is refused line reason hits =
    absurd (not_refused mode bytes script.names.items script.lines.items line reason is hits)
only_refusal mode bytes (Err (Refused refusal)) is refused line reason hits =
    let same = refused_once mode bytes refusal.line refusal.reason line reason
    (refused refusal refl) hits in
    let equal : refusal ≡ record { line = line; reason = reason } =
    ap {A = ℕ} {B = Refusal} (λ l. record { line = l; reason = refusal.reason }) same.0
    ∙ ap {A = ℕ} {B = Refusal} (λ r. record { line = line; reason = r }) same.1 in
    inl (ap {A = Refusal} {B = Result Script ScriptEnd} (λ r. Err (Refused r)) equal)
only_refusal mode bytes (Err NoMemory) is refused line reason hits = inr refl

-- ---- a script that is spelled passes

-- names that were given stay, and more come behind them
pub names-after : (names : List (List ℕ)) (new : List ℕ) (line : Line) → (behind : List (List ℕ))
    × (names_after names new line ≡ names ++ behind)
names-after names new (Endpoint name id) = (new ∷ [], refl)
names-after names new (Switch name ports) = (new ∷ [], refl)
names-after names new _ = ([], sym (append-nil names))

pub names_stay : (number : ℕ) (known end : Known) (texts : List (List ℕ)) (lines : List Numbered)
    → SpellsFrom number known texts lines end → (behind : List (List ℕ))
    × (end.names ≡ known.names ++ behind)
names_stay number known end [] lines spelled =
    ([], ap {A = Known} (λ k. k.names) spelled.1 ∙ sym (append-nil known.names))
names_stay number known end (text ∷ texts) lines spelled =
    by_skipped (SpellsFrom (suc number) known texts lines end)
    (Kept number known text texts lines end)
    (λ h. names_stay (suc number) known end texts lines h)
    (λ h.
    let rest = names_stay (suc number) (known_after known (new_name_in text h.0) h.0) end texts h.1
    h.4 in
    let here = names-after known.names (new_name_in text h.0) h.0 in (
      here.0 ++ rest.0,
      rest.1 ∙ ap (λ ns. ns ++ rest.0) here.1 ∙ append_assoc known.names here.0
          rest.0,
    ))
    (is_skipped text) spelled

-- the name that a line gives its node is that which the node has at the end
named_last : (names behind : List (List ℕ)) (new : List ℕ) (n : ℕ) → n ≡ length names
    → name_of ((names ++ new ∷ []) ++ behind) n ≡ new
named_last names behind new n last =
    let within : n < length (names ++ new ∷ []) = omega (arith, length-append names (new ∷ [])) in
    get_or_append_left (names ++ new ∷ []) behind [] n within
    ∙ ap (λ k. name_of (names ++ new ∷ []) k) last ∙ get_or-append_seam names new [] []

pub name_kept : (known : Known) (text : List ℕ) (line : Line) (behind : List (List ℕ))
    → NodeIsNext known line
    → new_name (names_after known.names (new_name_in text line) line ++ behind)
    line ≡ new_name_in text line
name_kept known text (Endpoint name id) behind next =
    named_last known.names behind (new_name_in text (Endpoint name id)) name next
name_kept known text (Switch name ports) behind next =
    named_last known.names behind (new_name_in text (Switch name ports)) name next
name_kept known text _ behind next = refl

passes_spelled : (number : ℕ) (known end : Known) (texts : List (List ℕ)) (lines : List Numbered)
    → SpellsFrom number known texts lines end → PassesFrom known end.names lines
passes_spelled number known end [] lines spelled = subst (λ ls. PassesFrom known end.names ls)
    (sym spelled.0) (ap {A = Known} (λ k. k.names) (sym spelled.1))
passes_spelled number known end (text ∷ texts) lines spelled =
    by_skipped (SpellsFrom (suc number) known texts lines end)
    (Kept number known text texts lines end)
    (λ h. passes_spelled (suc number) known end texts lines h)
    (λ h.
    let new = new_name_in text h.0 in
    let stay = names_stay (suc number) (known_after known new h.0) end texts h.1 h.4 in
    let named : new_name_in text h.0 ≡ new_name end.names h.0 =
    sym (ap (λ ns. new_name ns h.0) stay.1 ∙ name_kept known text h.0 stay.0
    h.3.says.may.next) in
    let rest = passes_spelled (suc number) (known_after known new h.0) end texts h.1 h.4 in
    subst (λ ls. PassesFrom known end.names ls) (sym h.2) (
      subst (λ n. MayBe known n h.0) named h.3.says.may,
      h.3.free,
      subst (λ n. PassesFrom (known_after known n h.0) end.names h.1) named rest,
    ))
    (is_skipped text) spelled

pub Passes-from_script : (mode : Mode) → (bytes : List ℕ) (names : List (List ℕ))
    (lines : List Numbered) → IsScriptIn mode bytes names lines → PassesIn mode names lines
Passes-from_script mode bytes names lines script =
    subst (λ ns. PassesFrom (nothing_in mode) ns lines) script.1
    (passes_spelled 1 (nothing_in mode) script.0 (pieces_of bytes) lines script.2)
