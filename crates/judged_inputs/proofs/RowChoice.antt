-- Words are those of one thing of a kind, or of none: one word after the other.
use Rattle.judged_inputs.proofs.Prelude.{◌≡◌, ◌≢◌, ℕ, List, [], ◌∷◌, map, refl, ap, ◌∙◌, inl, inr, AllByRecursion, char_text_of, HasByte, Char, Known, IsOrderly, Decided, same_or_not}
use Rattle.judged_inputs.proofs.WordChoice.{SaysOne, char_word}

-- the words are those of one that fits
abbrev pub SaysRow : {A : Type 0} → (A → List (List ℕ)) → (A → Type 0) → List (List ℕ) → Type 0
SaysRow {A} row Fits words = (a : A) × (words ≡ row a) × Fits a

-- no word
pub no_word : (words : List (List ℕ))
    → Decided (SaysRow {A = Unit {0}} (λ _. []) (λ _. Unit {0}) words)
no_word [] = inl (tt, refl, tt)
no_word (word ∷ words) = inr (λ says.
    let e = says.1 in
    cc)

-- a word, and then others
pub word_then : {A B : Type 0} (text : A → List ℕ) (Fits : A → Type 0)
    (row : B → List (List ℕ)) (Fit : B → Type 0)
    → ((word : List ℕ) → Decided (SaysOne text Fits word))
    → ((words : List (List ℕ)) → Decided (SaysRow row Fit words)) → (words : List (List ℕ))
    → Decided (SaysRow {A = A × B} (λ x. text x.0 ∷ row x.1) (λ x. Fits x.0 × Fit x.1) words)
word_then text Fits row Fit first rest [] = inr (λ says.
    let e = says.1 in
    cc)
word_then text Fits row Fit first rest (word ∷ words) = elim (first word) [
  | inl a ↦ elim (rest words) [
    | inl b ↦ inl ((a.0, b.0), (λ i. a.1 i ∷ b.1 i), (a.2, b.2))
    | inr none ↦ inr (λ says.
        let e = says.1 in
        none (says.0.1, cc, says.2.1))
  ]
  | inr none ↦ inr (λ says.
      let e = says.1 in
      none (says.0.0, cc, says.2.0))
]

-- a keyword, and then others
pub keyword_then : {B : Type 0} (keyword : List ℕ) (row : B → List (List ℕ)) (Fit : B → Type 0)
    → ((words : List (List ℕ)) → Decided (SaysRow row Fit words)) → (words : List (List ℕ))
    → Decided (SaysRow {A = B} (λ b. keyword ∷ row b) Fit words)
keyword_then keyword row Fit rest [] = inr (λ says.
    let e = says.1 in
    cc)
keyword_then keyword row Fit rest (word ∷ words) = elim (same_or_not word keyword) [
  | inl same ↦ elim (rest words) [
    | inl b ↦ inl (b.0, (λ i. same i ∷ b.1 i), b.2)
    | inr none ↦ inr (λ says.
        let e = says.1 in
        none (says.0, cc, says.2))
  ]
  | inr other ↦ inr (λ says.
      let e = says.1 in
      other cc)
]

-- ---- characters

chars_or_none : (known : Known) → IsOrderly known → (words : List (List ℕ))
    → Decided (SaysRow (λ (chars : List Char). map char_text_of chars)
    (λ chars. AllByRecursion HasByte chars) words)
chars_or_none known orderly [] = inl ([], refl, tt)
chars_or_none known orderly (word ∷ words) = elim (char_word known orderly word) [
  | inl c ↦ elim (chars_or_none known orderly words) [
    | inl cs ↦ inl (c.0 ∷ cs.0, (λ i. c.1 i ∷ cs.1 i), (c.2, cs.2))
    | inr none ↦ inr (λ says. no_rest none says.0 says.1 says.2)
  ]
  | inr none ↦ inr (λ says. no_first none says.0 says.1 says.2)
]
  where
    no_rest : (SaysRow (λ (chars : List Char). map char_text_of chars)
        (λ chars. AllByRecursion HasByte chars) words → ⊥) → (chars : List Char)
        → word ∷ words ≡ map char_text_of chars → AllByRecursion HasByte chars → ⊥
    no_rest none [] e all = cc
    no_rest none (c ∷ chars) e all = none (chars, cc, all.1)

    no_first : (SaysOne char_text_of HasByte word → ⊥) → (chars : List Char)
        → word ∷ words ≡ map char_text_of chars → AllByRecursion HasByte chars → ⊥
    no_first none [] e all = cc
    no_first none (c ∷ chars) e all = none (c, cc, all.0)

-- some characters
pub some_chars_or_none : (known : Known) → IsOrderly known → (words : List (List ℕ))
    → Decided (SaysRow (λ (chars : List Char). map char_text_of chars)
    (λ chars. (chars ≢ []) × AllByRecursion HasByte chars) words)
some_chars_or_none known orderly [] = inr (λ says. none says.0 says.1 says.2.0)
  where
    none : (chars : List Char) → [] ≡ map char_text_of chars → chars ≢ [] → ⊥
    none [] e some = some refl
    none (c ∷ chars) e some = cc
some_chars_or_none known orderly (word ∷ words) =
    elim (chars_or_none known orderly (word ∷ words)) [
      | inl says ↦ inl (says.0, says.1, (some says.0 says.1, says.2))
      | inr none ↦ inr (λ says. none (says.0, says.1, says.2.1))
    ]
  where
    some : (chars : List Char) → word ∷ words ≡ map char_text_of chars → chars ≢ []
    some chars e empty =
        let other = e ∙ ap (map char_text_of) empty in
        cc
