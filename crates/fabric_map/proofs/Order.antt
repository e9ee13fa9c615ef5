-- The order of paths.
use Rattle.fabric_map.proofs.Prelude.{◌≡◌, ℕ, ◌+◌, ◌<◌, ◌≤◌, List, [], ◌∷◌, ◌++◌, arith, ◌⊎◌, inl, inr, ap, sym, refl, cases_order, Before, IsNotAfter, onward}

pub Before-irreflexive : (p : List ℕ) → ¬ Before p p
Before-irreflexive [] before = absurd before
Before-irreflexive (x ∷ p) (inl less) = omega (arith, less)
Before-irreflexive (x ∷ p) (inr same) = Before-irreflexive p same.1

pub Before-transitive : (p q r : List ℕ) → Before p q → Before q r → Before p r
Before-transitive [] [] r first second = absurd first
Before-transitive [] (y ∷ q) [] first second = absurd second
Before-transitive [] (y ∷ q) (z ∷ r) first second = tt
Before-transitive (x ∷ p) [] r first second = absurd first
Before-transitive (x ∷ p) (y ∷ q) [] first second = absurd second
Before-transitive (x ∷ p) (y ∷ q) (z ∷ r) (inl less) (inl more) = inl (omega (arith, less, more))
Before-transitive (x ∷ p) (y ∷ q) (z ∷ r) (inl less) (inr same) = inl (omega (arith, less, same.0))
Before-transitive (x ∷ p) (y ∷ q) (z ∷ r) (inr same) (inl more) = inl (omega (arith, same.0, more))
Before-transitive (x ∷ p) (y ∷ q) (z ∷ r) (inr same) (inr like) =
    inr (cc, Before-transitive p q r same.1 like.1)

-- they are the same, or one stands before the other
pub compared : (p q : List ℕ) → (p ≡ q) ⊎ (Before p q ⊎ Before q p)
compared [] [] = inl refl
compared [] (y ∷ q) = inr (inl tt)
compared (x ∷ p) [] = inr (inr tt)
compared (x ∷ p) (y ∷ q) = go (cases_order x y) (compared p q)
  where
    go : (x ≡ y) ⊎ ((x < y) ⊎ (y < x)) → (p ≡ q) ⊎ (Before p q ⊎ Before q p)
        → (x ∷ p ≡ y ∷ q) ⊎ (Before (x ∷ p) (y ∷ q) ⊎ Before (y ∷ q) (x ∷ p))
    go (inl same) (inl rest) = inl (cc)
    go (inl same) (inr (inl first)) = inr (inl (inr (same, first)))
    go (inl same) (inr (inr second)) = inr (inr (inr (sym same, second)))
    go (inr (inl less)) rest = inr (inl (inl less))
    go (inr (inr more)) rest = inr (inr (inl more))

-- a path stands before each path that goes on behind it
pub Before-further : (p : List ℕ) (x : ℕ) (rest : List ℕ) → Before p (p ++ x ∷ rest)
Before-further [] x rest = tt
Before-further (y ∷ p) x rest = inr (refl, Before-further p x rest)

-- what stands behind a path and not after its onward path goes on behind it, by that port or a
-- lesser one
pub further_from_between : (p q : List ℕ) (x : ℕ) → Before p q → IsNotAfter q (onward p x)
    → (by : ℕ) × (rest : List ℕ) × (by ≤ x) × (q ≡ p ++ by ∷ rest)
further_from_between p q x first (inl same) = (x, [], omega arith, same)
further_from_between [] [] x first (inr second) = absurd first
further_from_between [] (y ∷ q) x first (inr (inl less)) = (y, q, omega (arith, less), refl)
further_from_between [] (y ∷ []) x first (inr (inr same)) = absurd same.1
further_from_between [] (y ∷ z ∷ q) x first (inr (inr same)) = absurd same.1
further_from_between (w ∷ p) [] x first (inr second) = absurd first
further_from_between (w ∷ p) (y ∷ q) x (inl less) (inr (inl more)) = absurd (omega
    (arith, less, more))
further_from_between (w ∷ p) (y ∷ q) x (inl less) (inr (inr same)) = absurd (omega
    (arith, less, same.0))
further_from_between (w ∷ p) (y ∷ q) x (inr same) (inr (inl less)) = absurd (omega
    (arith, less, same.0))
further_from_between (w ∷ p) (y ∷ q) x (inr same) (inr (inr like)) =
    let found = further_from_between p q x same.1 (inr like.1) in
    (found.0, found.1, found.2, cc)

pub onward-rises : (path : List ℕ) (port : ℕ) → Before (onward path port) (onward path (port + 1))
onward-rises [] port = inl (omega arith)
onward-rises (x ∷ path) port = inr (refl, onward-rises path port)

pub onward-less : (path : List ℕ) (port more : ℕ) → port < more
    → Before (onward path port) (onward path more)
onward-less [] port more less = inl less
onward-less (x ∷ path) port more less = inr (refl, onward-less path port more less)

-- a path that goes on stands after the path
pub further-not_less : (path rest : List ℕ) → ¬ Before (path ++ rest) path
further-not_less [] [] before = absurd before
further-not_less [] (x ∷ rest) before = absurd before
further-not_less (x ∷ path) rest (inl less) = omega (arith, less)
further-not_less (x ∷ path) rest (inr same) = further-not_less path rest same.1

-- what is before the next port is before this one, or goes on behind it
pub below_next : (p q : List ℕ) (x : ℕ) → Before p (onward q (x + 1))
    → Before p (onward q x) ⊎ ((rest : List ℕ) × (p ≡ onward q x ++ rest))
below_next [] [] x before = inl tt
below_next (y ∷ p) [] x (inl less) = go (cases_order y x)
  where
    go : (y ≡ x) ⊎ ((y < x) ⊎ (x < y))
        → ((y < x) ⊎ ((y ≡ x) × Before p [])) ⊎ ((rest : List ℕ) × (y ∷ p ≡ x ∷ rest))
    go (inl same) = inr (p, cc)
    go (inr (inl less)) = inl (inl less)
    go (inr (inr more)) = absurd (omega (arith, less, more))
below_next (y ∷ []) [] x (inr same) = absurd same.1
below_next (y ∷ z ∷ p) [] x (inr same) = absurd same.1
below_next [] (w ∷ q) x before = inl tt
below_next (y ∷ p) (w ∷ q) x (inl less) = inl (inl less)
below_next (y ∷ p) (w ∷ q) x (inr same) = go (below_next p q x same.1)
  where
    go : Before p (onward q x) ⊎ ((rest : List ℕ) × (p ≡ onward q x ++ rest))
        → ((y < w) ⊎ ((y ≡ w) × Before p (onward q x)))
        ⊎ ((rest : List ℕ) × (y ∷ p ≡ w ∷ (onward q x ++ rest)))
    go (inl before) = inl (inr (same.0, before))
    go (inr further) = let on = further.1 in let head = same.0 in inr (further.0, cc)

-- what is before the first port behind a path is not after the path
pub below_first : (p c : List ℕ) → Before p (onward c 0) → IsNotAfter p c
below_first [] [] before = inl refl
below_first (y ∷ p) [] (inl less) = absurd (omega (arith, less))
below_first (y ∷ []) [] (inr same) = absurd same.1
below_first (y ∷ z ∷ p) [] (inr same) = absurd same.1
below_first [] (w ∷ c) before = inr tt
below_first (y ∷ p) (w ∷ c) (inl less) = inr (inl less)
below_first (y ∷ p) (w ∷ c) (inr same) = go (below_first p c same.1)
  where
    go : IsNotAfter p c → IsNotAfter (y ∷ p) (w ∷ c)
    go (inl equal) = let head = same.0 in inl (cc)
    go (inr before) = inr (inr (same.0, before))

-- a path without its last port
abbrev pub front_of : List ℕ → List ℕ
front_of [] = []
front_of (x ∷ []) = []
front_of (x ∷ y ∷ path) = x ∷ front_of (y ∷ path)

pub front_of-onward : (path : List ℕ) (port : ℕ) → front_of (onward path port) ≡ path
front_of-onward [] port = refl
front_of-onward (x ∷ []) port = refl
front_of-onward (x ∷ y ∷ path) port = ap (λ l. x ∷ l) (front_of-onward (y ∷ path) port)

-- the last port of a path
abbrev pub last_of : List ℕ → ℕ
last_of [] = 0
last_of (x ∷ []) = x
last_of (x ∷ y ∷ path) = last_of (y ∷ path)

pub last_of-onward : (path : List ℕ) (port : ℕ) → last_of (onward path port) ≡ port
last_of-onward [] port = refl
last_of-onward (x ∷ []) port = refl
last_of-onward (x ∷ y ∷ path) port = last_of-onward (y ∷ path) port

pub onward-not_empty : (path : List ℕ) (port : ℕ) → ¬ ([] ≡ onward path port)
onward-not_empty [] port same = absurd (cc)
onward-not_empty (x ∷ path) port same = absurd (cc)

-- behind a common front the rests decide
pub behind_front : (front p q : List ℕ) → Before (front ++ p) (front ++ q) → Before p q
behind_front [] p q before = before
behind_front (x ∷ front) p q (inl less) = absurd (omega (arith, less))
behind_front (x ∷ front) p q (inr same) = behind_front front p q same.1

pub with_front : (front p q : List ℕ) → Before p q → Before (front ++ p) (front ++ q)
with_front [] p q before = before
with_front (x ∷ front) p q before = inr (refl, with_front front p q before)
