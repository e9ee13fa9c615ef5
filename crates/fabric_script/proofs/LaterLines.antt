-- A text of whole lines, and a line more behind them.
use Rattle.std.proofs.Common.{◌≡◌, ◌≢◌, ◌==◌, ℕ, ◌+◌, suc, false, List, [], ◌∷◌, ◌++◌, length, refl, sym, ap, ◌∙◌, subst, append_assoc, append-nil, inl, inr, arith}
use Rattle.std.specs.List.{onto_first}
use Rattle.std.proofs.lemmas.Bool.{cases_Bool}
use Rattle.std.proofs.lemmas.List.Splits.{length-slice_split, slice_split-cons_yes, slice_split-cons_no}
use Rattle.fabric_script.specs.declared.reasons.Reason.{Reason}
use Rattle.fabric_script.specs.declared.lines.Numbered.{Numbered}
use Rattle.fabric_script.specs.declared.known.Mode.{Mode}
use Rattle.fabric_script.specs.Known.{Known, known_after, nothing_in}
use Rattle.fabric_script.specs.Reasons.{reason_number}
use Rattle.fabric_script.specs.Reading.{new_name_in, LeastHit}
use Rattle.fabric_script.specs.Scripts.{pieces_of, is_skipped, AreWholeLines, SpellsFrom, KeepsLine, RefusedIn}
use Rattle.fabric_script.proofs.ScriptLaws.{Kept, by_skipped, map_skipped}
use Rattle.fabric_script.proofs.PieceLaws.{SpellsFrom-skip, SpellsFrom-kept}

-- ---- the pieces of whole lines

onto-append : (x : ℕ) (a b : List (List ℕ)) → length a ≢ 0
    → onto_first x (a ++ b) ≡ onto_first x a ++ b
onto-append x [] b some = absurd (some refl)
onto-append x (p ∷ ps) b some = refl

some_piece : (text : List ℕ) → length (pieces_of text) ≢ 0
some_piece text none =
    let count = length-slice_split (λ byte. byte == 10) text in
    absurd (omega (arith, count, none))

-- a line feed ends a piece
pub pieces-feed : (text more : List ℕ)
    → pieces_of (text ++ 10 ∷ more) ≡ pieces_of text ++ pieces_of more
pieces-feed [] more = slice_split-cons_yes (λ byte. byte == 10) 10 more refl
pieces-feed (x ∷ xs) more = elim (cases_Bool (x == 10)) [
  | inl feed ↦ slice_split-cons_yes (λ byte. byte == 10) x (xs ++ 10 ∷ more) feed
      ∙ ap (λ ps. [] ∷ ps) (pieces-feed xs more)
      ∙ ap (λ ps. ps ++ pieces_of more)
      (sym (slice_split-cons_yes (λ byte. byte == 10) x xs feed))
  | inr other ↦ slice_split-cons_no (λ byte. byte == 10) x (xs ++ 10 ∷ more) other
      ∙ ap (onto_first x) (pieces-feed xs more)
      ∙ onto-append x (pieces_of xs) (pieces_of more) (some_piece xs)
      ∙ ap (λ ps. ps ++ pieces_of more)
      (sym (slice_split-cons_no (λ byte. byte == 10) x xs other))
]

pub no_whole_lines : AreWholeLines [] []
no_whole_lines more = refl

-- so are they with a text and a line feed behind them
pub more_whole_lines : (text line : List ℕ) (lines : List (List ℕ)) → AreWholeLines text lines
    → AreWholeLines (text ++ (line ++ 10 ∷ [])) (lines ++ pieces_of line)
more_whole_lines text line lines whole more =
    ap pieces_of (append_assoc text (line ++ 10 ∷ []) more
    ∙ ap (λ l. text ++ l) (append_assoc line (10 ∷ []) more))
    ∙ whole (line ++ 10 ∷ more) ∙ ap (λ ps. lines ++ ps) (pieces-feed line more)
    ∙ sym (append_assoc lines (pieces_of line) (pieces_of more))

-- nothing stands behind them
pub pieces-whole : (text : List ℕ) (lines : List (List ℕ)) → AreWholeLines text lines
    → pieces_of text ≡ lines ++ [] ∷ []
pieces-whole text lines whole = ap pieces_of (sym (append-nil text)) ∙ whole []

-- ---- what they spell

-- which lines may stand is known to the end
pub mode_kept : (number : ℕ) (known end : Known) (texts : List (List ℕ)) (lines : List Numbered)
    → SpellsFrom number known texts lines end → end.mode ≡ known.mode
mode_kept number known end [] lines spelled = ap {A = Known} (λ k. k.mode) spelled.1
mode_kept number known end (text ∷ texts) lines spelled =
    by_skipped (SpellsFrom (suc number) known texts lines end)
    (Kept number known text texts lines end)
    (λ h. mode_kept (suc number) known end texts lines h)
    (λ h. mode_kept (suc number) (known_after known (new_name_in text h.0) h.0) end texts h.1 h.4)
    (is_skipped text) spelled

-- what is skipped at the end spells nothing
spelled_without : (number : ℕ) (known end : Known) (before : List (List ℕ)) (lines : List Numbered)
    → SpellsFrom number known (before ++ [] ∷ []) lines end
    → SpellsFrom number known before lines end
spelled_without number known end [] lines spelled = spelled
spelled_without number known end (t ∷ ts) lines spelled =
    map_skipped (SpellsFrom (suc number) known (ts ++ [] ∷ []) lines end)
    (Kept number known t (ts ++ [] ∷ []) lines end)
    (SpellsFrom (suc number) known ts lines end) (Kept number known t ts lines end)
    (λ h. spelled_without (suc number) known end ts lines h)
    (λ h. (
      h.0,
      h.1,
      h.2,
      h.3,
      spelled_without (suc number)
          (known_after known (new_name_in t h.0) h.0) end ts h.1 h.4,
    ))
    (is_skipped t) spelled

pub whole_spelled : (mode : Mode) (text : List ℕ) (texts : List (List ℕ)) (lines : List Numbered)
    (end : Known) → AreWholeLines text texts
    → SpellsFrom 1 (nothing_in mode) (pieces_of text) lines end
    → SpellsFrom 1 (nothing_in mode) texts lines end
whole_spelled mode text texts lines end whole spelled =
    spelled_without 1 (nothing_in mode) end texts lines
    (subst (λ ps. SpellsFrom 1 (nothing_in mode) ps lines end) (pieces-whole text texts whole)
    spelled)

-- ---- with a line more

-- the pieces with a line that has no feed
pieces-more : (text line : List ℕ) (texts : List (List ℕ)) → AreWholeLines text texts
    → pieces_of line ≡ line ∷ []
    → pieces_of (text ++ (line ++ 10 ∷ [])) ≡ (texts ++ line ∷ []) ++ [] ∷ []
pieces-more text line texts whole one =
    pieces-whole (text ++ (line ++ 10 ∷ [])) (texts ++ line ∷ [])
    (subst (λ ps. AreWholeLines (text ++ (line ++ 10 ∷ [])) (texts ++ ps)) one
    (more_whole_lines text line texts whole))

-- what is kept with it is what the whole spells
pub spelled_more : (mode : Mode) (text line : List ℕ) (texts : List (List ℕ))
    (lines more : List Numbered) (end after : Known) → AreWholeLines text texts
    → pieces_of line ≡ line ∷ [] → is_skipped line ≡ false
    → SpellsFrom 1 (nothing_in mode) (pieces_of text) lines end
    → KeepsLine end lines (length texts + 1) line after more
    → SpellsFrom 1 (nothing_in mode) (pieces_of (text ++ (line ++ 10 ∷ []))) more after
spelled_more mode text line texts lines more end after whole one kept spelled keeps =
    let before = whole_spelled mode text texts lines end whole spelled in
    let with = SpellsFrom-kept 1 (nothing_in mode) end after texts line lines more
    (length texts + 1) kept (omega arith) keeps before in
    subst (λ ps. SpellsFrom 1 (nothing_in mode) ps more after)
    (sym (pieces-more text line texts whole one))
    (SpellsFrom-skip 1 (nothing_in mode) after (texts ++ line ∷ []) [] more refl with)

-- the reason that hits it is that of the whole
pub refused_more : (mode : Mode) (text line : List ℕ) (texts : List (List ℕ))
    (lines : List Numbered) (end : Known) (reason : Reason) → AreWholeLines text texts
    → pieces_of line ≡ line ∷ [] → is_skipped line ≡ false
    → SpellsFrom 1 (nothing_in mode) (pieces_of text) lines end → LeastHit end line reason
    → RefusedIn mode (text ++ (line ++ 10 ∷ [])) (length texts + 1) (reason_number reason)
refused_more mode text line texts lines end reason whole one kept spelled hits = record {
  before = texts;
  text = line;
  behind = [] ∷ [];
  lines = lines;
  known = end;
  reason = reason;
  split = pieces-more text line texts whole one ∙ append_assoc texts (line ∷ []) ([] ∷ []);
  spelled = whole_spelled mode text texts lines end whole spelled;
  kept = kept;
  place = refl;
  named = refl;
  least = hits;
}
