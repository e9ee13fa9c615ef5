-- Places in lists, and the steps that give what stands there.
use Rattle.io_law.proofs.Prelude.{◌≡◌, ◌≤◌, ◌<◌, ◌+◌, ℕ, zero, suc, Bool, true, false, eqb, List, [], ◌∷◌, ◌++◌, length, Some, refl, ap, ◌∙◌, subst, arith, if◌then◌else◌, slice_get, AllByRecursion, eq-eqb, eqb-true, length-append, Line, Network, Item, Step, after, after_all, gathered, how_often}

-- ---- places

pub slice_get-append : {X : Type 0} (xs ys : List X) (k : ℕ) (x : X) → slice_get xs k ≡ Some x
    → slice_get (xs ++ ys) k ≡ Some x
slice_get-append [] ys zero x is = absurd cc
slice_get-append [] ys (suc k) x is = absurd cc
slice_get-append (first ∷ xs) ys zero x is = is
slice_get-append (first ∷ xs) ys (suc k) x is = slice_get-append xs ys k x is

-- a place within the first of two lists
pub slice_get-front : {X : Type 0} (xs ys : List X) (k : ℕ) (x : X) → k < length xs
    → slice_get (xs ++ ys) k ≡ Some x → slice_get xs k ≡ Some x
slice_get-front [] ys k x less is = absurd (omega (arith, less))
slice_get-front (first ∷ xs) ys zero x less is = is
slice_get-front (first ∷ xs) ys (suc k) x less is =
    slice_get-front xs ys k x (omega (arith, less)) is

pub slice_get-seam : {X : Type 0} (xs : List X) (x : X) (ys : List X)
    → slice_get (xs ++ x ∷ ys) (length xs) ≡ Some x
slice_get-seam [] x ys = refl
slice_get-seam (first ∷ xs) x ys = slice_get-seam xs x ys

pub get_below : {X : Type 0} (xs : List X) (k : ℕ) (x : X) → slice_get xs k ≡ Some x
    → k < length xs
get_below [] zero x is = absurd cc
get_below [] (suc k) x is = absurd cc
get_below (first ∷ xs) zero x is = omega arith
get_below (first ∷ xs) (suc k) x is = let more = get_below xs k x is in omega (arith, more)

pub get_all : {X : Type 0} (P : X → Type 0) (xs : List X) (k : ℕ) (x : X) → AllByRecursion P xs
    → slice_get xs k ≡ Some x → P x
get_all P [] zero x all is = absurd cc
get_all P [] (suc k) x all is = absurd cc
get_all P (first ∷ xs) zero x all is = let same : first ≡ x = cc in subst P same all.0
get_all P (first ∷ xs) (suc k) x all is = get_all P xs k x all.1 is

pub same_line : {a b : Line} → Some a ≡ Some b → a ≡ b
same_line is = cc

-- ---- where a number stands

pub record StandsIn (items : List Item) (number : ℕ) : Type 0 where
  pub place : ℕ
  pub item : Item
  pub is : slice_get items place ≡ Some item
  pub same : item.number ≡ number

pub find_number : (items : List Item) (number : ℕ) → 0 < how_often number items
    → StandsIn items number
find_number [] number often = absurd (omega (arith, often))
find_number (item ∷ items) number often =
    by (eqb item.number number) refl often (find_number items number)
  where
    by : (b : Bool) → eqb item.number number ≡ b
        → 0 < (if b then 1 else 0) + how_often number items
        → (0 < how_often number items → StandsIn items number) → StandsIn (item ∷ items) number
    by true same more later =
        record { place = 0; item = item; is = refl; same = eqb-true item.number number same }
    by false other more later =
        let rest = later (omega (arith, more)) in
        record { place = suc rest.place; item = rest.item; is = rest.is; same = rest.same }

pub often_at : (items : List Item) (k : ℕ) (x : Item) → slice_get items k ≡ Some x
    → 1 ≤ how_often x.number items
often_at [] zero x is = absurd cc
often_at [] (suc k) x is = absurd cc
often_at (item ∷ items) zero x is =
    let same : item ≡ x = cc in
    let own = ap {B = ℕ} (λ b. if b then 1 else 0)
    (eq-eqb item.number x.number (ap (λ (i : Item). i.number) same)) in
    omega (arith, own)
often_at (item ∷ items) (suc k) x is = let rest = often_at items k x is in omega (arith, rest)

-- ---- which step gives what

pub record GivenBy {A : Type 0} (each : Network → Step → List A) (net : Network)
    (steps : List Step) (k : ℕ) (x : A) : Type 0 where
  pub before : List Step
  pub step : Step
  pub later : List Step
  pub parts : steps ≡ before ++ step ∷ later
  pub gives : each (after_all net before) step ≡ x ∷ []
  pub many : length (gathered each net before) ≡ k

pub find_step : {A : Type 0} (each : Network → Step → List A)
    → ((net : Network) (step : Step) → length (each net step) ≤ 1) → (net : Network)
    (steps : List Step) (k : ℕ) (x : A) → slice_get (gathered each net steps) k ≡ Some x
    → GivenBy each net steps k x
find_step each few net [] zero x is = absurd cc
find_step each few net [] (suc k) x is = absurd cc
find_step {A} each few net (step ∷ steps) k x is =
    by (each net step) refl (few net step) (find_step each few (after net step) steps) is
  where
    Later : Type 0
    Later = (n : ℕ) (y : A) → slice_get (gathered each (after net step) steps) n ≡ Some y
        → GivenBy each (after net step) steps n y

    on : (n : ℕ) → length (each net step) + n ≡ k → GivenBy each (after net step) steps n x
        → GivenBy each net (step ∷ steps) k x
    on n sum rest =
        let many = rest.many in
        record {
          before = step ∷ rest.before;
          step = rest.step;
          later = rest.later;
          parts = ap (λ l. step ∷ l) rest.parts;
          gives = rest.gives;
          many = length-append (each net step) (gathered each (after net step) rest.before)
              ∙ ap (λ m. length (each net step) + m) many ∙ sum;
        }

    by_place : (a : A) → each net step ≡ a ∷ [] → (n : ℕ) → n ≡ k → Later
        → slice_get (a ∷ gathered each (after net step) steps) n ≡ Some x
        → GivenBy each net (step ∷ steps) k x
    by_place a own zero same later is =
        let it : a ≡ x = cc in
        record {
          before = [];
          step = step;
          later = steps;
          parts = refl;
          gives = own ∙ ap (λ y. y ∷ []) it;
          many = same;
        }
    by_place a own (suc n) same later is =
        let one = ap length own in on n (omega (arith, one, same)) (later n x is)

    by : (own : List A) → each net step ≡ own → length own ≤ 1 → Later
        → slice_get (own ++ gathered each (after net step) steps) k ≡ Some x
        → GivenBy each net (step ∷ steps) k x
    by [] none less later is =
        let zero_long = ap length none in on k (omega (arith, zero_long)) (later k x is)
    by (a ∷ []) one less later is = by_place a one k refl later is
    by (a ∷ b ∷ more) own less later is = absurd (omega (arith, less))
