-- What nodes ask with and reply is what they were to send, and is taken in this order.
use Rattle.io_law.proofs.Prelude.{◌≡◌, ◌≤◌, ◌<◌, ◌+◌, ℕ, zero, suc, false, List, [], ◌∷◌, ◌++◌, length, Some, refl, sym, ap, ◌∙◌, subst, arith, ◌⊎◌, inl, inr, append_assoc, slice_get, AllByRecursion, length-append, Numbered, Network, Item, Step, after, taken_by, items_taken, is_answer, all-append, all-parts, TraceLine, steps_of, start, set_up_all, bare, IsSetUp, steps_of-append, lawful, IoState, IoGoes, IoComes, Here, Further, network_at, asked_by, replied_by, io_asked, io_replied}
use Rattle.io_law.proofs.Fit.{IsFit, fit_comes}
use Rattle.io_law.proofs.Numbers.{GivesNone, GivesOne, gives}
use Rattle.io_law.proofs.Places.{slice_get-seam}
use Rattle.io_law.proofs.Plain.{NoAnswers}
use Rattle.io_law.proofs.Taking.{goes_taken}
use Rattle.io_law.proofs.Tracing.{added, trace_goes, IsSentTrace, sent_comes, gathered_goes}

-- ---- numbers

-- the items have the numbers from this one on
abbrev NumberedFrom : ℕ → List Item → Type 0
NumberedFrom low [] = Unit {0}
NumberedFrom low (x ∷ xs) = (x.number ≡ low) × NumberedFrom (suc low) xs

taken_numbered : (net : Network) (steps : List Step)
    → NumberedFrom net.given (items_taken net steps)
taken_numbered net [] = tt
taken_numbered net (step ∷ steps) = by (gives net step) (taken_numbered (after net step) steps)
  where
    rest : List Item
    rest = items_taken (after net step) steps

    by : GivesNone net step ⊎ GivesOne net step → NumberedFrom (after net step).given rest
        → NumberedFrom net.given (taken_by net step ++ rest)
    by (inl none) later =
        subst (λ l. NumberedFrom net.given (l ++ rest)) (sym none.0)
        (subst (λ n. NumberedFrom n rest) none.1 later)
    by (inr one) later =
        let next = one.next in
        subst (λ l. NumberedFrom net.given (l ++ rest)) (sym one.only)
        (one.number, subst (λ n. NumberedFrom n rest) (omega (arith, next)) later)

numbered_at : (front items : List Item) → NumberedFrom (length front) items
    → AllByRecursion (λ x. slice_get (front ++ items) x.number ≡ Some x) items
numbered_at front [] is = tt
numbered_at front (x ∷ items) is = (
  subst (λ n. slice_get (front ++ x ∷ items) n ≡ Some x) (sym is.0)
      (slice_get-seam front x items),
  subst (λ l. AllByRecursion (λ y. slice_get l y.number ≡ Some y) items)
      (append_assoc front (x ∷ []) items)
      (numbered_at (front ++ x ∷ []) items
      (subst (λ n. NumberedFrom n items) (sym (more front)) is.1)),
)
  where
    more : (front : List Item) → length (front ++ x ∷ []) ≡ suc (length front)
    more [] = refl
    more (first ∷ front) = ap suc (more front)

-- each item that is taken stands under its number
pub taken_at : (net : Network) (steps : List Step) → net.given ≡ 0
    → AllByRecursion (λ x. slice_get (items_taken net steps) x.number ≡ Some x)
    (items_taken net steps)
taken_at net steps none =
    numbered_at [] (items_taken net steps)
    (subst (λ n. NumberedFrom n (items_taken net steps)) none (taken_numbered net steps))

-- numbers from one on, each greater than the one before, up to another
abbrev pub Rises : ℕ → List Item → ℕ → Type 0
Rises low [] high = low ≤ high
Rises low (x ∷ xs) high = (low ≤ x.number) × Rises (suc x.number) xs high

numbered_rises : (low : ℕ) (xs : List Item) → NumberedFrom low xs → Rises low xs (low + length xs)
numbered_rises low [] is = omega arith
numbered_rises low (x ∷ xs) is =
    let own = is.0 in (
      omega (arith, own),
      subst (λ n. Rises (suc x.number) xs n) (omega (arith, own))
          (numbered_rises (suc x.number) xs
          (subst (λ n. NumberedFrom n xs) (ap suc (sym own)) is.1)),
    )

rises_least : (low : ℕ) (xs : List Item) (high : ℕ) → Rises low xs high → low ≤ high
rises_least low [] high is = is
rises_least low (x ∷ xs) high is =
    let rest = rises_least (suc x.number) xs high is.1 in omega (arith, is.0, rest)

rises_lower : (low mid : ℕ) (xs : List Item) (high : ℕ) → low ≤ mid → Rises mid xs high
    → Rises low xs high
rises_lower low mid [] high less is = omega (arith, less, is)
rises_lower low mid (x ∷ xs) high less is = (omega (arith, less, is.0), is.1)

rises_append : (low : ℕ) (xs : List Item) (mid : ℕ) (ys : List Item) (high : ℕ)
    → Rises low xs mid → Rises mid ys high → Rises low (xs ++ ys) high
rises_append low [] mid ys high is more = rises_lower low mid ys high is more
rises_append low (x ∷ xs) mid ys high is more =
    (is.0, rises_append (suc x.number) xs mid ys high is.1 more)

rises_front : (low : ℕ) (xs ys : List Item) (high : ℕ) → Rises low (xs ++ ys) high
    → Rises low xs high
rises_front low [] ys high is = rises_least low ys high is
rises_front low (x ∷ xs) ys high is = (is.0, rises_front (suc x.number) xs ys high is.1)

rises_back : (low : ℕ) (xs ys : List Item) (high : ℕ) → Rises low (xs ++ ys) high
    → Rises low ys high
rises_back low [] ys high is = is
rises_back low (x ∷ xs) ys high is =
    let first = is.0 in
    rises_lower low (suc x.number) ys high (omega (arith, first))
    (rises_back (suc x.number) xs ys high is.1)

rises_at : (low : ℕ) (xs : List Item) (high k : ℕ) (x : Item) → Rises low xs high
    → slice_get xs k ≡ Some x → low ≤ x.number
rises_at low [] high zero x is at = absurd cc
rises_at low [] high (suc k) x is at = absurd cc
rises_at low (first ∷ xs) high zero x is at =
    let same : first ≡ x = cc in subst (λ y. low ≤ y.number) same is.0
rises_at low (first ∷ xs) high (suc k) x is at =
    let rest = rises_at (suc first.number) xs high k x is.1 at in
    let here = is.0 in omega (arith, rest, here)

-- of two the later one has the greater number
pub rises_two : (low : ℕ) (xs : List Item) (high i j : ℕ) (x y : Item) → Rises low xs high
    → i < j → slice_get xs i ≡ Some x → slice_get xs j ≡ Some y → x.number < y.number
rises_two low [] high zero j x y is less at later = absurd cc
rises_two low [] high (suc i) j x y is less at later = absurd cc
rises_two low (first ∷ xs) high i zero x y is less at later = absurd (omega (arith, less))
rises_two low (first ∷ xs) high zero (suc j) x y is less at later =
    let same : first ≡ x = cc in
    let rest = rises_at (suc first.number) xs high j y is.1 later in
    subst (λ z. z.number < y.number) same (omega (arith, rest))
rises_two low (first ∷ xs) high (suc i) (suc j) x y is less at later =
    rises_two (suc first.number) xs high i j x y is.1 (omega (arith, less)) at later

-- ---- what is asked and what is replied rises

abbrev pub count_at : (script : List Numbered) (s : IoState) → ℕ
count_at script s = length (items_taken (start script).network (steps_of s.trace))

pub last_none : (script : List Numbered) (before : IoState) (lines : List TraceLine) (t : IoState)
    → t.trace ≡ before.trace ++ lines → NoAnswers (steps_of t.trace)
    → NoAnswers (steps_of before.trace) × NoAnswers (steps_of lines)
last_none script before lines t is none =
    all-parts (λ step. is_answer step ≡ false) (steps_of before.trace) (steps_of lines)
    (subst NoAnswers (ap steps_of is ∙ steps_of-append before.trace lines) none)

goes_rises : {names : List (List ℕ)} {script : List Numbered} {s t : IoState}
    (goes : IoGoes names script s t) → IsSetUp (set_up_all bare script)
    → IsSentTrace script s.trace → IsFit s → NoAnswers (steps_of (added goes))
    → Rises (count_at script s) (asked_by goes ++ replied_by goes) (count_at script t)
goes_rises {names} {script} {s} {t} goes set_up own fit none =
    let net = network_at script s in
    let steps = steps_of (added goes) in
    let counted = (lawful (set_up_all bare script) s.trace set_up own.made).holding_exactly.counted
    in
    let whole = ap length (gathered_goes taken_by goes)
    ∙ length-append (items_taken (start script).network (steps_of s.trace)) (items_taken net steps)
    in
    subst (λ l. Rises (count_at script s) l (count_at script t)) (goes_taken goes fit none)
    (subst (λ n. Rises (count_at script s) (items_taken net steps) n)
    (sym (whole))
    (numbered_rises (count_at script s) (items_taken net steps)
    (subst (λ n. NumberedFrom n (items_taken net steps)) counted (taken_numbered net steps))))

pub record SentRise (asks replies : List Item) (count : ℕ) : Type 0 where
  pub asks_rise : Rises 0 asks count
  pub replies_rise : Rises 0 replies count

pub comes_rise : {names : List (List ℕ)} {script : List Numbered} {first s : IoState}
    (comes : IoComes names script first s) → IsSetUp (set_up_all bare script)
    → first.trace ≡ [] → IsFit first → NoAnswers (steps_of s.trace)
    → SentRise (io_asked comes) (io_replied comes) (count_at script s)
comes_rise (Here is) set_up none fit plain =
    record { asks_rise = omega arith; replies_rise = omega arith }
comes_rise {names} {script} {first} {s} (Further before comes goes) set_up none fit plain =
    let parts = last_none script before (added goes) s (trace_goes goes) plain in
    let first_part = comes_rise comes set_up none fit parts.0 in
    let more = goes_rises goes set_up (sent_comes set_up none comes) (fit_comes comes fit) parts.1
    in
    record {
      asks_rise = rises_append 0 (io_asked comes) (count_at script before) (asked_by goes)
          (count_at script s) first_part.asks_rise
          (rises_front (count_at script before) (asked_by goes) (replied_by goes)
          (count_at script s) more);
      replies_rise = rises_append 0 (io_replied comes) (count_at script before) (replied_by goes)
          (count_at script s) first_part.replies_rise
          (rises_back (count_at script before) (asked_by goes) (replied_by goes)
          (count_at script s) more);
    }

-- ---- what holds of all that is taken holds of all that is sent

pub record AllSent (P : Item → Type 0) (asks replies : List Item) : Type 0 where
  pub asks_are : AllByRecursion P asks
  pub replies_are : AllByRecursion P replies

pub all_sent : {names : List (List ℕ)} {script : List Numbered} {first s : IoState}
    (P : Item → Type 0) (comes : IoComes names script first s) → IsFit first
    → NoAnswers (steps_of s.trace)
    → AllByRecursion P (items_taken (start script).network (steps_of s.trace))
    → AllSent P (io_asked comes) (io_replied comes)
all_sent P (Here is) fit plain all = record { asks_are = tt; replies_are = tt }
all_sent {names} {script} {first} {s} P (Further before comes goes) fit plain all =
    let parts = last_none script before (added goes) s (trace_goes goes) plain in
    let both = all-parts P (items_taken (start script).network (steps_of before.trace))
    (items_taken (network_at script before) (steps_of (added goes)))
    (subst (AllByRecursion P) (gathered_goes taken_by goes) all) in
    let first_part = all_sent P comes fit parts.0 both.0 in
    let more = all-parts P (asked_by goes) (replied_by goes)
    (subst (AllByRecursion P) (goes_taken goes (fit_comes comes fit) parts.1) both.1) in
    record {
      asks_are = all-append P (io_asked comes) (asked_by goes) first_part.asks_are more.0;
      replies_are = all-append P (io_replied comes) (replied_by goes) first_part.replies_are more.1;
    }
