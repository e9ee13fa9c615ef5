-- Both, one of two, all of a list, an option and a front: each holds, or does not.
use Rattle.judged_inputs.proofs.Prelude.{◌≡◌, ℕ, ◌<◌, ◌++◌, Bool, true, false, List, [], ◌∷◌, Contains, Option, Some, None, IsSome, refl, ap, ◌⊎◌, inl, inr, arith, AllByRecursion, cases_lt, cases_eq, Char, named_is_there, Decided}
use Rattle.std.specs.Bool.{Decides}
use Rattle.std.proofs.lemmas.Bool.Decides.{not_from_Decides}
use Rattle.rio_chars.specs.declared.chars.Char.TheVariants.{Data, Special, Invalid}
use Rattle.script_law.proofs.NodeWords.{node_or_none}

-- the same said in other words
pub as_well : {A B : Type 0} → (A → B) → (B → A) → Decided A → Decided B
as_well to from (inl a) = inl (to a)
as_well to from (inr other) = inr (λ b. other (from b))

pub one_or_not : {A B : Type 0} → Decided A → Decided B → Decided (A ⊎ B)
one_or_not (inl a) b = inl (inl a)
one_or_not (inr other) (inl b) = inl (inr b)
one_or_not {A} {B} (inr other) (inr none) = inr neither
  where
    neither : A ⊎ B → ⊥
    neither (inl a) = other a
    neither (inr b) = none b

pub by_test : {A : Type 0} (b : Bool) → Decides b A → Decided A
by_test true tells = inl (tells.0 refl)
by_test false tells = inr (not_from_Decides false tells refl)

pub true_or_not : (b : Bool) → Decided (b ≡ true)
true_or_not true = inl refl
true_or_not false = inr (λ e. cc)

pub false_or_not : (b : Bool) → Decided (b ≡ false)
false_or_not true = inr (λ e. cc)
false_or_not false = inl refl

pub less_or_not : (m n : ℕ) → Decided (m < n)
less_or_not m n = elim (cases_lt m n) [
  | inl less ↦ inl less
  | inr most ↦ inr (λ less. absurd (omega arith))
]

pub number_or_not : (m n : ℕ) → Decided (m ≡ n)
number_or_not m n = cases_eq m n

-- ---- lists

pub all_or_not : {A : Type 0} (P : A → Type 0) → ((x : A) → Decided (P x)) → (xs : List A)
    → Decided (AllByRecursion P xs)
all_or_not P decide [] = inl tt
all_or_not P decide (x ∷ xs) = elim (decide x) [
  | inl is ↦ elim (all_or_not P decide xs) [
    | inl rest ↦ inl (is, rest)
    | inr none ↦ inr (λ all. none all.1)
  ]
  | inr other ↦ inr (λ all. other all.0)
]

pub contains_or_not : (words : List (List ℕ)) (word : List ℕ) → Decided (Contains words word)
contains_or_not words word = elim (node_or_none words word) [
  | inl found ↦ inl (named_is_there words found.0 word found.1 found.2)
  | inr none ↦ inr none
]

pub empty_or_not : {A : Type 0} (xs : List A) → Decided (xs ≡ [])
empty_or_not [] = inl refl
empty_or_not (x ∷ xs) = inr (λ e. cc)

-- ---- options

pub some_or_not : {A : Type 0} (o : Option A) → Decided (IsSome o)
some_or_not None = inr (λ e. cc)
some_or_not (Some x) = inl refl

pub is_or_not : {A : Type 0} → ((x y : A) → Decided (x ≡ y)) → (o : Option A) (y : A)
    → Decided (o ≡ Some y)
is_or_not decide None y = inr (λ e. cc)
is_or_not {A} decide (Some x) y = elim (decide x y) [
  | inl same ↦ inl (ap (λ (z : A). Some z) same)
  | inr other ↦ inr (λ e. other cc)
]

pub bool_or_not : (a b : Bool) → Decided (a ≡ b)
bool_or_not a true = true_or_not a
bool_or_not a false = false_or_not a

-- ---- characters

pub char_or_not : (c d : Char) → Decided (c ≡ d)
char_or_not (Data a) (Data b) = elim (number_or_not a b) [
  | inl same ↦ inl (ap (λ n. Data n) same)
  | inr other ↦ inr (λ e. other cc)
]
char_or_not (Special a) (Special b) = elim (number_or_not a b) [
  | inl same ↦ inl (ap (λ n. Special n) same)
  | inr other ↦ inr (λ e. other cc)
]
char_or_not Invalid Invalid = inl refl
char_or_not _ Invalid = inr (λ e. cc)
char_or_not _ (Data b) = inr (λ e. cc)
char_or_not _ (Special b) = inr (λ e. cc)

-- the first characters are these
abbrev pub BeginsWith : List Char → List Char → Type 0
BeginsWith chars front = (behind : List Char) × (chars ≡ front ++ behind)

pub begins_or_not : (chars front : List Char) → Decided (BeginsWith chars front)
begins_or_not chars [] = inl (chars, refl)
begins_or_not [] (c ∷ front) = inr (λ is.
    let e = is.1 in
    cc)
begins_or_not (d ∷ chars) (c ∷ front) = elim (char_or_not d c) [
  | inl same ↦ elim (begins_or_not chars front) [
    | inl rest ↦ inl (rest.0, λ i. same i ∷ rest.1 i)
    | inr none ↦ inr (λ is.
        let e = is.1 in
        none (is.0, cc))
  ]
  | inr other ↦ inr (λ is.
      let e = is.1 in
      other cc)
]
