-- What is left of the lists of priorities, and what is taken from them.
use Rattle.std.proofs.Common.{◌≡◌, ℕ, ◌+◌, ◌<◌, cond, ◌==◌, List, [], ◌∷◌, ◌++◌, length, take, drop, slice_get, subst, sym, ◌∙◌, ap, inl, inr, refl, arith, add-zero, append_assoc, length-set, get_or-set_same, get_or-set_other}
use Rattle.std.proofs.Math.ListN.{get_or-eq_default}
use Rattle.std.proofs.lemmas.Bool.{cases_lt}
use Rattle.std.proofs.lemmas.Bool.Decides.{eqb_tells}
use Rattle.std.proofs.lemmas.List.{drop-drop}
use Rattle.std.proofs.lemmas.List.Sums.{sum_by-cons, sum_by-append}
use Rattle.circular_buffer.proofs.Places.{slice_get-drop}
use Rattle.link_buffers.specs.Queues.{list_at, popped}
use Rattle.link_buffers.specs.Priorities.{packets_of, lists_without, count_of}

-- a list that is not empty stands at one of the priorities
pub prio_within : (lists : List (List (List ℕ))) (prio : ℕ) → 0 < length (list_at lists prio)
    → prio < length lists
prio_within lists prio some =
    elim (cases_lt prio (length lists)) [
      | inl within ↦ within
      | inr beyond ↦ let none = ap length (get_or-eq_default lists [] beyond) in omega arith
    ]

pub count_of-cons : (prio : ℕ) (prios : List ℕ) (other : ℕ)
    → count_of (prio ∷ prios) other ≡ cond (prio == other) 1 0 + count_of prios other
count_of-cons prio prios other = sum_by-cons (λ p. cond (p == other) 1 0) prio prios

pub count_of-append : (prios more : List ℕ) (other : ℕ)
    → count_of (prios ++ more) other ≡ count_of prios other + count_of more other
count_of-append prios more other = sum_by-append (λ p. cond (p == other) 1 0) prios more

pub list_at-popped_same : (lists : List (List (List ℕ))) (prio : ℕ)
    → list_at (popped lists prio) prio ≡ drop 1 (list_at lists prio)
list_at-popped_same lists prio =
    elim (cases_lt prio (length lists)) [
      | inl within ↦ get_or-set_same lists prio _ [] within
      | inr beyond ↦
          let long = length-set lists prio (drop 1 (list_at lists prio)) in
          get_or-eq_default (popped lists prio) [] (omega arith)
          ∙ sym (ap (drop 1) (get_or-eq_default lists [] beyond))
    ]

-- one priority takes one packet from its own list, and none from another
pub list_at-popped : (lists : List (List (List ℕ))) (prio other : ℕ)
    → list_at (popped lists prio) other ≡ drop (cond (prio == other) 1 0) (list_at lists other)
list_at-popped lists prio other =
    elim (eqb_tells prio other) [
      | inl (test, same) ↦ rw test (subst
          (λ (r : ℕ). list_at (popped lists prio) r ≡ drop 1 (list_at lists r)) same
          (list_at-popped_same lists prio))
      | inr (test, different) ↦ rw test
          (get_or-set_other lists prio other _ [] (λ same. different (sym same)))
    ]

-- what stays of a list: all but as many packets at its front as there are of its priority
pub list_at-lists_without : (prios : List ℕ) (lists : List (List (List ℕ))) (prio : ℕ)
    → list_at (lists_without prios lists) prio ≡ drop (count_of prios prio) (list_at lists prio)
list_at-lists_without [] lists prio = refl
list_at-lists_without (p ∷ ps) lists prio =
    list_at-lists_without ps (popped lists p) prio
    ∙ ap (drop (count_of ps prio)) (list_at-popped lists p prio)
    ∙ drop-drop (count_of ps prio) (cond (p == prio) 1 0) (list_at lists prio)
    ∙ ap (λ n. drop n (list_at lists prio)) (sym (count_of-cons p ps prio))

-- the first packet that stays in a list stands at the place that counts the packets of its priority
-- that are taken
pub slice_get-lists_without : (prios : List ℕ) (lists : List (List (List ℕ))) (prio : ℕ)
    → slice_get (list_at (lists_without prios lists) prio) 0
    ≡ slice_get (list_at lists prio) (count_of prios prio)
slice_get-lists_without prios lists prio =
    ap (λ packets. slice_get packets 0) (list_at-lists_without prios lists prio)
    ∙ slice_get-drop (count_of prios prio) (list_at lists prio) 0 (count_of prios prio)
    (sym (add-zero (count_of prios prio)))

-- priorities one after another take what the first take, and then what the others take of what
-- stays
pub packets_of-append : (prios more : List ℕ) (lists : List (List (List ℕ)))
    → packets_of (prios ++ more) lists
    ≡ packets_of prios lists ++ packets_of more (lists_without prios lists)
packets_of-append [] more lists = refl
packets_of-append (p ∷ ps) more lists =
    ap (λ packets. take 1 (list_at lists p) ++ packets) (packets_of-append ps more (popped lists p))
    ∙ sym (append_assoc (take 1 (list_at lists p)) (packets_of ps (popped lists p))
    (packets_of more (lists_without ps (popped lists p))))

pub lists_without-append : (prios more : List ℕ) (lists : List (List (List ℕ)))
    → lists_without (prios ++ more) lists ≡ lists_without more (lists_without prios lists)
lists_without-append [] more lists = refl
lists_without-append (p ∷ ps) more lists = lists_without-append ps more (popped lists p)
