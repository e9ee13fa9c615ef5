-- Words that ask how a port is made.
use Rattle.std.proofs.Common.{◌≡◌, ◌≢◌, ℕ, ◌≤◌, Bool, true, false, inl, inr, List, [], ◌∷◌, codes, drop, get_or, sym, ap, subst, ◌∙◌, refl, arith}
use Rattle.std.specs.Fmt.{decimal}
use Rattle.std.proofs.lemmas.Fmt.{first_decimal}
use Rattle.rio_port.specs.Program.{AskPatience, AskTaking, AskMaking, SplitsBuffers, SplitsTaking}

-- a word that begins with a hyphen is no number
no_number : (n : ℕ) (word : List ℕ) → 4 ≤ n → n ≤ 30 → get_or word 0 0 ≡ 45 → decimal n ≡ word
    → ⊥
no_number n word least most hyphen is =
    let first = first_decimal n (omega arith) (omega arith) in
    let same : get_or (decimal n) 0 0 ≡ 45 = ap (λ (w : List ℕ). get_or w 0 0) is ∙ hyphen in
    omega (arith, first, same)

first_word : (word other : List ℕ) (xs ys : List (List ℕ)) → word ∷ xs ≡ other ∷ ys
    → word ≡ other
first_word word other xs ys e = ap (λ (ws : List (List ℕ)). get_or ws 0 []) e

rest_words : (word other : List ℕ) (xs ys : List (List ℕ)) → word ∷ xs ≡ other ∷ ys → xs ≡ ys
rest_words word other xs ys e = ap (drop 1) e

-- the first word of those that say a number of clocks
patience_word : (word : List ℕ) (rest : List (List ℕ)) (patience : ℕ)
    → AskPatience (word ∷ rest) patience → word ≡ codes "--timeout"
patience_word word rest patience asks = asks.0

take_is_other : codes "--take" ≢ codes "--timeout"
take_is_other same =
    let e : 97 ≡ 105 = ap (λ (w : List ℕ). get_or w 3 0) same in
    omega (arith, e)

-- ---- words that ask for something

pub taking_asked : (words : List (List ℕ)) (at_once : Bool) (last : List (List ℕ)) (patience : ℕ)
    → SplitsTaking words at_once last → AskPatience last patience
    → AskTaking words at_once patience
taking_asked words true last patience splits asks = (last, splits, asks)
taking_asked words false last patience splits asks =
    subst (λ ws. AskPatience ws patience) splits.0 asks

pub making_asked : (words : List (List ℕ)) (buffers : ℕ) (rest : List (List ℕ)) (at_once : Bool)
    (patience : ℕ) → SplitsBuffers words buffers rest → AskTaking rest at_once patience
    → AskMaking words buffers at_once patience
making_asked words buffers rest at_once patience (inl said) asks =
    inr (said.0, said.1, (rest, said.2, asks))
making_asked words buffers rest at_once patience (inr unsaid) asks =
    inl (unsaid.0, subst (λ ws. AskTaking ws at_once patience) unsaid.1 asks)

-- ---- words that ask for nothing

no_taking_word : (last : List (List ℕ)) (patience : ℕ)
    → ¬ AskPatience (codes "--take" ∷ last) patience
no_taking_word last patience asks =
    take_is_other (patience_word (codes "--take") last patience asks)

pub taking_unasked : (words : List (List ℕ)) (at_once : Bool) (last : List (List ℕ))
    → SplitsTaking words at_once last → ((patience : ℕ) → ¬ AskPatience last patience)
    → (other : Bool) (patience : ℕ) → ¬ AskTaking words other patience
taking_unasked words true last splits none true patience asks =
    none patience (subst (λ ws. AskPatience ws patience)
    (sym (rest_words (codes "--take") (codes "--take") last asks.0 (sym splits ∙ asks.1))) asks.2)
taking_unasked words true last splits none false patience asks =
    no_taking_word last patience (subst (λ ws. AskPatience ws patience) splits asks)
taking_unasked words false last splits none true patience asks = splits.1 asks.0 asks.1
taking_unasked words false last splits none false patience asks =
    none patience (subst (λ ws. AskPatience ws patience) (sym splits.0) asks)

number_takes : (n : ℕ) (rest : List (List ℕ)) (at_once : Bool) (patience : ℕ) → 4 ≤ n → n ≤ 30
    → ¬ AskTaking (decimal n ∷ rest) at_once patience
number_takes n rest true patience least most asks =
    no_number n (codes "--take") least most refl
    (first_word (decimal n) (codes "--take") rest asks.0 asks.1)
number_takes n rest false patience least most asks =
    no_number n (codes "--timeout") least most refl
    (patience_word (decimal n) rest patience asks)

pub making_unasked : (words : List (List ℕ)) (buffers : ℕ) (rest : List (List ℕ))
    → SplitsBuffers words buffers rest
    → ((at_once : Bool) (patience : ℕ) → ¬ AskTaking rest at_once patience)
    → (other : ℕ) (at_once : Bool) (patience : ℕ) → ¬ AskMaking words other at_once patience
making_unasked words buffers rest (inl said) none other at_once patience (inl asks) =
    number_takes buffers rest at_once patience said.0 said.1
    (subst (λ ws. AskTaking ws at_once patience) said.2 asks.1)
making_unasked words buffers rest (inl said) none other at_once patience (inr asks) =
    none at_once patience (subst (λ ws. AskTaking ws at_once patience)
    (sym (rest_words (decimal buffers) (decimal other) rest asks.2.0 (sym said.2 ∙ asks.2.1)))
    asks.2.2)
making_unasked words buffers rest (inr unsaid) none other at_once patience (inl asks) =
    none at_once patience
    (subst (λ ws. AskTaking ws at_once patience) (sym unsaid.1) asks.1)
making_unasked words buffers rest (inr unsaid) none other at_once patience (inr asks) =
    unsaid.2 other asks.2.0 asks.0 asks.1 asks.2.1
