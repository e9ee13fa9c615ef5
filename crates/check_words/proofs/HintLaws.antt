-- What is added to a message for a hint.
use Rattle.std.proofs.Common.{◌≡◌, ℕ, ◌+◌, ◌<◌, List, [], ◌∷◌, ◌++◌, length, take, get_or, Result, Ok, Err, OnOk, is_ok, if◌then◌else◌, sym, ap, ◌∙◌, append_assoc}
use Rattle.std.proofs.lemmas.List.{take_more}
use Rattle.rio_chars.specs.declared.chars.Char.{Char}
use Rattle.rio_chars.specs.CharText.{char_text_of, spaced_chars}
use Rattle.rio_chars.specs.HexText.{hex_of}
use Rattle.rio_chars.proofs.HexLaws.{hex_of-append}
use Rattle.rio_chars.proofs.SpacedLaws.{spaced_chars-append, spaced_chars-one}

pub hex_more : (old bytes : List ℕ) (i : ℕ) → i < length bytes
    → (old ++ hex_of (take i bytes)) ++ hex_of (get_or bytes i 0 ∷ [])
    ≡ old ++ hex_of (take (i + 1) bytes)
hex_more old bytes i within =
    append_assoc old (hex_of (take i bytes)) (hex_of (get_or bytes i 0 ∷ []))
    ∙ ap (λ t. old ++ t) (sym (hex_of-append (take i bytes) (get_or bytes i 0 ∷ []))
    ∙ ap hex_of (sym (take_more bytes i 0 within)))

pub chars_more : (old : List ℕ) (chars : List Char) (i : ℕ) (c : Char) → i < length chars
    → ((old ++ spaced_chars (take i chars)) ++ 32 ∷ []) ++ char_text_of (get_or chars i c)
    ≡ old ++ spaced_chars (take (i + 1) chars)
chars_more old chars i c within =
    let next = get_or chars i c in
    append_assoc (old ++ spaced_chars (take i chars)) (32 ∷ []) (char_text_of next)
    ∙ append_assoc old (spaced_chars (take i chars)) (32 ∷ char_text_of next)
    ∙ ap (λ t. old ++ t) (ap (λ t. spaced_chars (take i chars) ++ t) (sym (spaced_chars-one next))
    ∙ sym (spaced_chars-append (take i chars) (next ∷ []))
    ∙ ap spaced_chars (sym (take_more chars i c within)))

-- a text was added, if memory was there
pub hint-added : {V E : Type 0} (result : Result V E) (old new a text : List ℕ)
    → new ≡ (if is_ok result then old ++ a else old) → a ≡ text → OnOk result (new ≡ old ++ text)
hint-added (Ok value) old new a text added same = added ∙ ap (λ t. old ++ t) same
hint-added (Err end) old new a text added same = tt

-- and another behind it
pub hint-joined : {V E : Type 0} (result : Result V E) (old mid new a b text : List ℕ)
    → OnOk result (new ≡ mid ++ b) → mid ≡ old ++ a → a ++ b ≡ text
    → OnOk result (new ≡ old ++ text)
hint-joined (Ok value) old mid new a b text second first same =
    second ∙ ap (λ t. t ++ b) first ∙ append_assoc old a b ∙ ap (λ t. old ++ t) same
hint-joined (Err end) old mid new a b text second first same = tt
