-- What holds of each element of a list, of each two of them, or of some.
use Rattle.fabric_model.proofs.Prelude.{List, [], ◌∷◌, ◌++◌, ◌⊎◌, inl, inr, AllByRecursion, ⊤}

pub all-append : {X : Type 0} (P : X → Type 0) (xs ys : List X) → AllByRecursion P xs
    → AllByRecursion P ys → AllByRecursion P (xs ++ ys)
all-append P [] ys all more = more
all-append P (x ∷ xs) ys all more = (all.0, all-append P xs ys all.1 more)

pub all-parts : {X : Type 0} (P : X → Type 0) (xs ys : List X) → AllByRecursion P (xs ++ ys)
    → AllByRecursion P xs × AllByRecursion P ys
all-parts P [] ys all = (tt, all)
all-parts P (x ∷ xs) ys all =
    let parts = all-parts P xs ys all.1 in
    ((all.0, parts.0), parts.1)

pub all_weaker : {X : Type 0} (P Q : X → Type 0) → ((x : X) → P x → Q x) → (xs : List X)
    → AllByRecursion P xs → AllByRecursion Q xs
all_weaker P Q weaker [] all = tt
all_weaker P Q weaker (x ∷ xs) all = (weaker x all.0, all_weaker P Q weaker xs all.1)

-- two facts of each
pub all-both : {X : Type 0} (P Q S : X → Type 0) → ((x : X) → P x → Q x → S x) → (xs : List X)
    → AllByRecursion P xs → AllByRecursion Q xs → AllByRecursion S xs
all-both P Q S both [] ps qs = tt
all-both P Q S both (x ∷ xs) ps qs = (both x ps.0 qs.0, all-both P Q S both xs ps.1 qs.1)

pub all-without : {X : Type 0} (P : X → Type 0) (xs ys : List X) (x : X)
    → AllByRecursion P (xs ++ x ∷ ys) → P x × AllByRecursion P (xs ++ ys)
all-without P xs ys x all =
    let parts = all-parts P xs (x ∷ ys) all in
    (parts.1.0, all-append P xs ys parts.0 parts.1.1)

-- what holds of each element together with each behind it
abbrev pub Pairs : {X : Type 0} → (X → X → Type 0) → List X → Type 0
Pairs R [] = ⊤
Pairs R (x ∷ xs) = AllByRecursion (R x) xs × Pairs R xs

-- without one, and what holds of it with the others
pub record Without {X : Type 0} (R : X → X → Type 0) (xs ys : List X) (x : X) : Type 0 where
  pub pairs : Pairs R (xs ++ ys)
  pub before : AllByRecursion (λ z. R z x) xs
  pub behind : AllByRecursion (R x) ys

pub pairs-without : {X : Type 0} (R : X → X → Type 0) (xs ys : List X) (x : X)
    → Pairs R (xs ++ x ∷ ys) → Without R xs ys x
pairs-without R [] ys x pairs = record { pairs = pairs.1; before = tt; behind = pairs.0 }
pairs-without R (z ∷ xs) ys x pairs =
    let without = pairs-without R xs ys x pairs.1 in
    let own = all-without (R z) xs ys x pairs.0 in
    record {
      pairs = (own.1, without.pairs);
      before = (own.0, without.before);
      behind = without.behind;
    }

pub pairs-append : {X : Type 0} (R : X → X → Type 0) (xs : List X) (x : X) → Pairs R xs
    → AllByRecursion (λ z. R z x) xs → Pairs R (xs ++ x ∷ [])
pairs-append R [] x pairs all = (tt, tt)
pairs-append R (z ∷ xs) x pairs all =
    (all-append (R z) xs (x ∷ []) pairs.0 (all.0, tt), pairs-append R xs x pairs.1 all.1)

-- some element is such a one
abbrev pub Some_of : {X : Type 0} → (X → Type 0) → List X → Type 0
Some_of P [] = ⊥
Some_of P (x ∷ xs) = P x ⊎ Some_of P xs

pub some_left : {X : Type 0} (P : X → Type 0) (xs ys : List X) → Some_of P xs → Some_of P (xs ++ ys)
some_left P [] ys some = absurd some
some_left P (x ∷ xs) ys (inl own) = inl own
some_left P (x ∷ xs) ys (inr more) = inr (some_left P xs ys more)

pub some_right : {X : Type 0} (P : X → Type 0) (xs ys : List X) → Some_of P ys
    → Some_of P (xs ++ ys)
some_right P [] ys some = some
some_right P (x ∷ xs) ys some = inr (some_right P xs ys some)

-- it is the one between, or one of the others
pub some_without : {X : Type 0} (P : X → Type 0) (xs ys : List X) (x : X) → Some_of P (xs ++ x ∷ ys)
    → P x ⊎ Some_of P (xs ++ ys)
some_without P [] ys x some = some
some_without P (z ∷ xs) ys x (inl own) = inr (inl own)
some_without P (z ∷ xs) ys x (inr more) = go (some_without P xs ys x more)
  where
    go : P x ⊎ Some_of P (xs ++ ys) → P x ⊎ Some_of P (z ∷ (xs ++ ys))
    go (inl one) = inl one
    go (inr others) = inr (inr others)

-- the one between put in again
pub some_with : {X : Type 0} (P : X → Type 0) (xs ys : List X) (x : X) → Some_of P (xs ++ ys)
    → Some_of P (xs ++ x ∷ ys)
some_with P [] ys x some = inr some
some_with P (z ∷ xs) ys x (inl own) = inl own
some_with P (z ∷ xs) ys x (inr more) = inr (some_with P xs ys x more)

pub some_both : {X : Type 0} (P Q S : X → Type 0) → ((x : X) → P x → Q x → S x) → (xs : List X)
    → Some_of P xs → AllByRecursion Q xs → Some_of S xs
some_both P Q S both [] some all = absurd some
some_both P Q S both (x ∷ xs) (inl own) all = inl (both x own all.0)
some_both P Q S both (x ∷ xs) (inr more) all = inr (some_both P Q S both xs more all.1)
