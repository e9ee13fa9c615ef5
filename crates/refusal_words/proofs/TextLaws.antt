-- What was added to a text.
use Rattle.std.proofs.Common.{◌≡◌, ℕ, ◌<◌, ◌≤◌, true, false, ltb, List, [], ◌∷◌, ◌++◌, codes, map, take, length, Result, Ok, Err, OnOk, is_ok, if◌then◌else◌, sym, ap, ◌∙◌, append-nil, append_assoc, arith}
use Rattle.std.proofs.lemmas.Bool.{le-ltb, lt-ltb}
use Rattle.refusal_words.specs.Citing.{excerpt_of, shown_text, shown_byte}

pub added : (old mid new a b : List ℕ) → mid ≡ old ++ a → new ≡ mid ++ b → new ≡ old ++ (a ++ b)
added old mid new a b first second =
    second ∙ ap (λ m. m ++ b) first ∙ append_assoc old a b

-- two texts were added, of which the second may have had no memory
pub added-on-ok : {V E : Type 0} (result : Result V E) (old mid new a b : List ℕ)
    → mid ≡ old ++ a → new ≡ (if is_ok result then mid ++ b else mid)
    → OnOk result (new ≡ old ++ (a ++ b))
added-on-ok (Ok value) old mid new a b first second = added old mid new a b first second
added-on-ok (Err end) old mid new a b first second = tt

-- ---- what is shown of a text

pub shown-short : (old text new : List ℕ) → length text ≤ 80
    → new ≡ old ++ map shown_byte (take 80 text) → new ≡ old ++ shown_text text
shown-short old text new few shown =
    let whole : ltb 80 (length text) ≡ false = le-ltb 80 (length text) few in
    rw whole (shown ∙ ap (λ more. old ++ more) (sym (append-nil (map shown_byte (take 80 text)))))

pub shown-long : (old text mid new : List ℕ) → 80 < length text
    → mid ≡ old ++ map shown_byte (take 80 text) → new ≡ mid ++ codes " ..."
    → new ≡ old ++ shown_text text
shown-long old text mid new many shown end =
    let cut : ltb 80 (length text) ≡ true = lt-ltb 80 (length text) many in
    rw cut (added old mid new (map shown_byte (take 80 text)) (codes " ...") shown end)

pub excerpt-none : (old text : List ℕ) → length text ≡ 0 → old ≡ old ++ excerpt_of text
excerpt-none old [] none = sym (append-nil old)
excerpt-none old (byte ∷ bytes) none = absurd (omega arith)

pub excerpt-some : {V E : Type 0} (result : Result V E) (old text mid new : List ℕ)
    → 0 < length text → mid ≡ old ++ codes ": " → OnOk result (new ≡ mid ++ shown_text text)
    → OnOk result (new ≡ old ++ excerpt_of text)
excerpt-some result old [] mid new some begin shown = absurd (omega arith)
excerpt-some (Ok value) old (byte ∷ bytes) mid new some begin shown =
    added old mid new (codes ": ") (shown_text (byte ∷ bytes)) begin shown
excerpt-some (Err end) old (byte ∷ bytes) mid new some begin shown = tt
