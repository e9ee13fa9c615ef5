-- Two elements of a list that was cut in two.
use Rattle.std.proofs.Common.{◌≡◌, ℕ, ◌<◌, ◌+◌, ◌-◌, List, ◌++◌, length, slice_get, slice_set, slice_index_or, Some, sym, ap, ◌∙◌, arith, length-append}
use Rattle.std.proofs.lemmas.List.{set-append_left, set-append_right, get_or_append_left, get_or-append-add}
use Rattle.std.proofs.lemmas.Option.{slice_get-get_or}
use Rattle.std.proofs.lemmas.List.{length-set}

-- the first before the cut, the second behind it
pub first_low : {X : Type 0} (front back all : List X) (i j : ℕ) (x y : X) → all ≡ front ++ back
    → length front ≡ j → i < j
    → slice_set front i x ++ slice_set back 0 y ≡ slice_set (slice_set all i x) j y
first_low front back all i j x y parts cut low =
    let within : i < length front = omega (arith, cut, low) in
    let one = set-append_left front back i x within in
    let long : length (slice_set front i x) ≡ j = length-set front i x ∙ cut in
    let none : j - j ≡ 0 = omega arith in
    let two = set-append_right (slice_set front i x) back j j y long (omega arith) in
    sym (ap (λ l. slice_set (slice_set l i x) j y) parts ∙ ap (λ l. slice_set l j y) one ∙ two
    ∙ ap (λ k. slice_set front i x ++ slice_set back k y) none)

-- the first behind the cut, the second before it
pub first_high : {X : Type 0} (front back all : List X) (i j : ℕ) (x y : X) → all ≡ front ++ back
    → length front ≡ i → j < i
    → slice_set front j y ++ slice_set back 0 x ≡ slice_set (slice_set all i x) j y
first_high front back all i j x y parts cut low =
    let within : j < length front = omega (arith, cut, low) in
    let none : i - i ≡ 0 = omega arith in
    let one = set-append_right front back i i x cut (omega arith) in
    let two = set-append_left front (slice_set back 0 x) j y within in
    sym (ap (λ l. slice_set (slice_set l i x) j y) parts
    ∙ ap (λ l. slice_set l j y) (one ∙ ap (λ k. front ++ slice_set back k x) none) ∙ two)

-- an element before the cut
pub low_is : {X : Type 0} (front back all : List X) (i j : ℕ) (x : X) → all ≡ front ++ back
    → length front ≡ j → i < j → x ≡ slice_index_or front i x
    → slice_get all i ≡ Some x
low_is front back all i j x parts cut low is =
    let long = length-append front back in
    let within : i < length (front ++ back) = omega (arith, cut, low, long) in
    ap (λ l. slice_get l i) parts ∙ slice_get-get_or (front ++ back) i x within
    ∙ ap Some (get_or_append_left front back x i (omega (arith, cut, low)) ∙ sym is)

-- the first element behind it
pub high_is : {X : Type 0} (front back all : List X) (i : ℕ) (x : X) → all ≡ front ++ back
    → length front ≡ i → i < length all → x ≡ slice_index_or back 0 x
    → slice_get all i ≡ Some x
high_is front back all i x parts cut within is =
    let place : length front + 0 ≡ i = omega (arith, cut) in
    slice_get-get_or all i x within
    ∙ ap Some (ap (λ l. slice_index_or l i x) parts
    ∙ ap (λ k. slice_index_or (front ++ back) k x) (sym place)
    ∙ get_or-append-add front back 0 x ∙ sym is)
