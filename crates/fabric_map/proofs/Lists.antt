-- Elements of lists in order.
use Rattle.fabric_map.proofs.Prelude.{◌≡◌, ℕ, zero, suc, ◌<◌, List, [], ◌∷◌, ◌++◌, length, slice_index_or, All, AllPairs, Contains, arith, ◌⊎◌, inl, inr, subst, sym, refl, All-contains, Contains-append_right, Contains-append_cases, Before}
use Rattle.fabric_map.proofs.Order.{Before-irreflexive, Before-transitive}

pub not_in_empty : {X : Type 0} (x : X) → ¬ Contains [] x
not_in_empty x found = omega (arith, found.1)

pub Contains-first : {X : Type 0} (x : X) (xs : List X) → Contains (x ∷ xs) x
Contains-first x xs = (zero, omega arith, refl)

pub Contains-rest : {X : Type 0} (x : X) (xs : List X) (y : X) → Contains xs y → Contains (x ∷ xs) y
Contains-rest x xs y found = (suc found.0, omega (arith, found.1), found.2)

pub Contains-cases : {X : Type 0} (x : X) (xs : List X) (y : X) → Contains (x ∷ xs) y
    → (x ≡ y) ⊎ Contains xs y
Contains-cases x xs y (zero, within, same) = inl same
Contains-cases x xs y (suc k, within, same) = inr (k, omega (arith, within), same)

pub AllPairs-first : {X : Type 0} (R : X → X → Type 0) (x : X) (xs : List X)
    → AllPairs R (x ∷ xs) → All (R x) xs
AllPairs-first R x xs pairs k d within = pairs zero (suc k) d (omega arith) (omega (arith, within))

pub AllPairs-rest : {X : Type 0} (R : X → X → Type 0) (x : X) (xs : List X) → AllPairs R (x ∷ xs)
    → AllPairs R xs
AllPairs-rest R x xs pairs i j d less within = pairs (suc i) (suc j) d (omega (arith, less))
    (omega (arith, within))

-- what stands in front of an element is before it
pub front_is_before : (front rest : List (List ℕ)) (p q : List ℕ)
    → AllPairs Before (front ++ p ∷ rest) → Contains front q → Before q p
front_is_before [] rest p q ordered found = absurd (not_in_empty q found)
front_is_before (x ∷ front) rest p q ordered found =
    go (Contains-cases x front q found)
    (λ later. front_is_before front rest p q (AllPairs-rest Before x
    (front ++ p ∷ rest) ordered) later)
  where
    go : (x ≡ q) ⊎ Contains front q → (Contains front q → Before q p) → Before q p
    go (inl same) on =
        subst (λ y. Before y p) same
        (All-contains (Before x) (front ++ p ∷ rest) p
        (AllPairs-first Before x (front ++ p ∷ rest) ordered)
        (Contains-append_right front (p ∷ rest) p (Contains-first p rest)))
    go (inr later) on = on later

-- what stands behind it is after it
pub rest_is_after : (front rest : List (List ℕ)) (p q : List ℕ)
    → AllPairs Before (front ++ p ∷ rest) → Contains rest q → Before p q
rest_is_after [] rest p q ordered found = All-contains (Before p) rest q
    (AllPairs-first Before p rest ordered) found
rest_is_after (x ∷ front) rest p q ordered found =
    rest_is_after front rest p q (AllPairs-rest Before x (front ++ p ∷ rest) ordered) found

-- what is before an element stands in front of it
pub is_in_front : (front rest : List (List ℕ)) (p q : List ℕ)
    → AllPairs Before (front ++ p ∷ rest) → Contains (front ++ p ∷ rest) q → Before q p
    → Contains front q
is_in_front front rest p q ordered found before = go (Contains-append_cases front
    (p ∷ rest) q found)
  where
    behind : (p ≡ q) ⊎ Contains rest q → Contains front q
    behind (inl same) = absurd (Before-irreflexive p (subst (λ y. Before y p) (sym same) before))
    behind (inr later) =
        absurd (Before-irreflexive p (Before-transitive p q p
        (rest_is_after front rest p q ordered later) before))

    go : Contains front q ⊎ Contains (p ∷ rest) q → Contains front q
    go (inl there) = there
    go (inr there) = behind (Contains-cases p rest q there)

pub Contains-middle : (front rest : List (List ℕ)) (p : List ℕ) → Contains (front ++ p ∷ rest) p
Contains-middle front rest p = Contains-append_right front (p ∷ rest) p (Contains-first p rest)

-- each element is before the next
abbrev pub Rising : List ℕ → List (List ℕ) → Type 0
Rising first [] = Unit {0}
Rising first (second ∷ rest) = Before first second × Rising second rest

all_after : (p first : List ℕ) (rest : List (List ℕ)) → Before p first → Rising first rest
    → (k : ℕ) (d : List ℕ) → k < length (first ∷ rest)
    → Before p (slice_index_or (first ∷ rest) k d)
all_after p first rest before rising zero d within = before
all_after p first [] before rising (suc k) d within = absurd (omega (arith, within))
all_after p first (second ∷ rest) before rising (suc k) d within =
    all_after p second rest (Before-transitive p first second before rising.0) rising.1 k d (omega
    (arith, within))

pub AllPairs-rising : (first : List ℕ) (rest : List (List ℕ)) → Rising first rest
    → AllPairs Before (first ∷ rest)
AllPairs-rising first [] rising i j d less within = absurd (omega (arith, less, within))
AllPairs-rising first (second ∷ rest) rising i zero d less within = absurd (omega (arith, less))
AllPairs-rising first (second ∷ rest) rising zero (suc j) d less within =
    all_after first second rest rising.0 rising.1 j d (omega (arith, within))
AllPairs-rising first (second ∷ rest) rising (suc i) (suc j) d less within =
    AllPairs-rising second rest rising.1 i j d (omega (arith, less)) (omega (arith, within))
