-- What the pieces of the bytes spell that a loop has read so far.
use Rattle.std.proofs.Common.{◌≡◌, ◌==◌, ℕ, ◌+◌, ◌<◌, suc, Bool, true, false, List, [], ◌∷◌, ◌++◌, length, get_or, take, drop, drop-cons, refl, sym, ap, ◌∙◌, subst, arith, take-append-drop}
use denote.Param.Members.{Mut}
use denote.Ref.{Bor}
use Rattle.std.specs.Fn.{CalledAt}
use Rattle.std.specs.Iterator.{Yields}
use Rattle.std.specs.Slice.Iter.{split_rest, split_done, split_callee, split_steps}
use Rattle.std.proofs.lemmas.Iterator.{YieldsList}
use Rattle.std.proofs.lemmas.Iterator.Splits.{YieldsList-from_slice_split}
use Rattle.fabric_script.specs.declared.reasons.Reason.{Reason}
use Rattle.fabric_script.specs.declared.lines.Line.{Line}
use Rattle.fabric_script.specs.declared.lines.Numbered.{Numbered}
use Rattle.fabric_script.specs.declared.known.Mode.{Mode}
use Rattle.fabric_script.specs.Known.{Known, known_after, nothing_in}
use Rattle.fabric_script.specs.Reasons.{reason_number}
use Rattle.fabric_script.specs.Reading.{new_name_in, Spells, LeastHit}
use Rattle.fabric_script.specs.Scripts.{pieces_of, is_skipped, SpellsFrom, KeepsLine, RefusedIn}
use Rattle.fabric_script.proofs.ScriptLaws.{Kept, map_skipped}

pub SpellsFrom-skip : (number : ℕ) (known end : Known) (before : List (List ℕ)) (text : List ℕ)
    (lines : List Numbered) → is_skipped text ≡ true → SpellsFrom number known before lines end
    → SpellsFrom number known (before ++ text ∷ []) lines end
SpellsFrom-skip number known end [] text lines skipped spelled = rw skipped spelled
SpellsFrom-skip number known end (t ∷ ts) text lines skipped spelled =
    map_skipped (SpellsFrom (suc number) known ts lines end) (Kept number known t ts lines end)
    (SpellsFrom (suc number) known (ts ++ text ∷ []) lines end)
    (Kept number known t (ts ++ text ∷ []) lines end)
    (λ h. SpellsFrom-skip (suc number) known end ts text lines skipped h)
    (λ h. (
      h.0,
      h.1,
      h.2,
      h.3,
      SpellsFrom-skip (suc number)
          (known_after known (new_name_in t h.0) h.0) end ts text h.1 skipped h.4,
    ))
    (is_skipped t) spelled

pub SpellsFrom-keep : (number : ℕ) (known end : Known) (before : List (List ℕ)) (text : List ℕ)
    (lines : List Numbered) (n : ℕ) (line : Line) → is_skipped text ≡ false → n ≡ number
    + length before → Spells end text line → SpellsFrom number known before lines end
    → SpellsFrom number known (before ++ text ∷ [])
    (lines ++ record { number = n; line = line } ∷ [])
    (known_after end (new_name_in text line) line)
SpellsFrom-keep number known end [] text lines n line kept at spells spelled =
    let here : n ≡ number = at ∙ omega arith in
    let k : Spells known text line = subst (λ k. Spells k text line) spelled.1 spells in
    rw (kept, here, spelled.0)
    (line, [], refl, k, (refl, ap (λ k. known_after k (new_name_in text line) line) spelled.1))
SpellsFrom-keep number known end (t ∷ ts) text lines n line kept at spells spelled =
    let at' : n ≡ suc number + length ts = omega arith in
    let more = lines ++ record { number = n; line = line } ∷ [] in
    map_skipped (SpellsFrom (suc number) known ts lines end) (Kept number known t ts lines end)
    (SpellsFrom (suc number) known (ts ++ text ∷ []) more
    (known_after end (new_name_in text line) line))
    (Kept number known t (ts ++ text ∷ []) more (known_after end (new_name_in text line) line))
    (λ h. SpellsFrom-keep (suc number) known end ts text lines n line kept at' spells h)
    (λ h. (
      h.0,
      h.1 ++ record { number = n; line = line }
          ∷ [],
      ap (λ x. x ++ record { number = n; line = line } ∷ []) h.2,
      h.3,
      SpellsFrom-keep (suc number) (known_after known (new_name_in t h.0) h.0) end ts text h.1 n
          line kept at' spells h.4,
    ))
    (is_skipped t) spelled

pub SpellsFrom-kept : (number : ℕ) (known end after : Known) (before : List (List ℕ))
    (text : List ℕ) (lines more : List Numbered) (n : ℕ) → is_skipped text ≡ false → n ≡ number
    + length before → KeepsLine end lines n text after more
    → SpellsFrom number known before lines end
    → SpellsFrom number known (before ++ text ∷ []) more after
SpellsFrom-kept number known end after before text lines more n kept at keeps spelled =
    subst (λ ls. SpellsFrom number known (before ++ text ∷ []) ls after) (sym keeps.kept)
    (subst (λ k. SpellsFrom number known (before ++ text ∷ [])
    (lines ++ record { number = n; line = keeps.line } ∷ []) k) (sym keeps.then)
    (SpellsFrom-keep number known end before text lines n keeps.line kept at keeps.spells
    spelled))

-- the n-th of the pieces is hit, and those before it spell lines
pub RefusedAt-from_turn : (mode : Mode) → (bytes : List ℕ) (n : ℕ) (before : List (List ℕ))
    (text : List ℕ) (lines : List Numbered) (known : Known) (reason : Reason) → before
    ≡ take n (pieces_of bytes) → n < length (pieces_of bytes) → text
    ≡ get_or (pieces_of bytes) n text → n ≡ length before → SpellsFrom 1 (nothing_in mode) before
    lines known → is_skipped text ≡ false → LeastHit known text reason
    → RefusedIn mode bytes (n + 1) (reason_number reason)
RefusedAt-from_turn mode bytes n before text lines known reason so_far within here counted spelled
    kept hits =
    let pieces = pieces_of bytes in
    let behind = drop (suc n) pieces in
    let at : drop n pieces ≡ get_or pieces n text ∷ behind = drop-cons pieces n text within in
    let split : pieces ≡ before ++ text ∷ behind = sym (take-append-drop n pieces)
    ∙ ap (λ x. take n pieces ++ x) at ∙ ap (λ x. x ++ get_or pieces n text ∷ behind)
    (sym so_far) ∙ ap (λ x. before ++ x ∷ behind) (sym here) in
    record {
      before = before;
      text = text;
      behind = behind;
      lines = lines;
      known = known;
      reason = reason;
      split = split;
      spelled = spelled;
      kept = kept;
      place = omega arith;
      named =
          refl;
      least = hits;
    }

-- what a loop over the pieces goes over
pub pieces-road : {F : Type 0} {g : Mut F (Bor ℕ × Unit {0}) Bool} {f : F} {s : _} (bytes : List ℕ)
    (xs : List (Bor (List ℕ))) (t : _) → Yields (split_steps g) s xs t → split_rest s ≡ bytes
    → split_done s ≡ false → split_callee s ≡ f
    → ((x : ℕ) (b : Bool) (q : F) → CalledAt g f x b q → (q ≡ f) × (b ≡ (x == 10)))
    → YieldsList (split_steps g) (λ x. x.now) s (pieces_of bytes)
pieces-road {g} bytes xs t yields rest done closure calls =
    YieldsList-from_slice_split g (λ b. b == 10) bytes rest done closure calls
