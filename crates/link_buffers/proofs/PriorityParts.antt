-- The list of a priority: the packets that priorities take, and then those that stay.
use Rattle.std.proofs.Common.{◌≡◌, ℕ, zero, suc, ◌<◌, ◌==◌, Some, List, [], ◌∷◌, ◌++◌, length, drop, slice_get, get_or, inl, inr, refl, sym, ap, ◌∙◌, subst, if◌then◌else◌, arith, append_assoc, length-set}
use Rattle.std.proofs.lemmas.Bool.{cases_Bool}
use Rattle.std.proofs.lemmas.Bool.Decides.{eqb_tells}
use Rattle.std.proofs.lemmas.List.{append-nil}
use Rattle.std.proofs.lemmas.List.Elements.{filter-append}
use Rattle.std.proofs.lemmas.Option.{slice_get-get_or}
use Rattle.rio_packets.specs.Fields.{prio_of}
use Rattle.link_buffers.specs.Queues.{list_at, popped, of_prio, Sorted}
use Rattle.link_buffers.specs.Priorities.{packets_of, lists_without, Covers}
use Rattle.link_buffers.proofs.QueueLemmas.{Sorted-popped}
use Rattle.link_buffers.proofs.PriorityLists.{list_at-popped, prio_within}
use Rattle.link_buffers.proofs.PriorityLaws.{packets_of-cons, Covers-first, Covers-rest}

pub drop_at : {X : Type 0} (count : ℕ) (xs : List X) (x : X) → slice_get xs count ≡ Some x
    → drop count xs ≡ x ∷ drop (suc count) xs
drop_at count [] x is = absurd cc
drop_at zero (first ∷ xs) x is = let same : first ≡ x = cc in ap (λ e. e ∷ xs) same
drop_at (suc count) (first ∷ xs) x is = drop_at count xs x is

-- one packet of its own priority, and of no other
pub of_prio_one : (prio : ℕ) (packet : List ℕ)
    → of_prio prio (packet ∷ []) ≡ (if prio_of packet == prio then packet ∷ [] else [])
of_prio_one prio packet =
    elim (cases_Bool (prio_of packet == prio)) [
      | inl same ↦ rw same refl
      | inr other ↦ rw other refl
    ]

-- the packet goes from the front of what waits to the end of what is held
pub held_of_prio :
    (prio : ℕ) (held : List (List ℕ)) (lists : List (List (List ℕ))) (packet : List ℕ)
    → slice_get (list_at lists (prio_of packet)) 0 ≡ Some packet
    → of_prio prio held ++ list_at lists prio
    ≡ of_prio prio (held ++ packet ∷ []) ++ list_at (popped lists (prio_of packet)) prio
held_of_prio prio held lists packet first =
    let split : of_prio prio (held ++ packet ∷ [])
    ≡ of_prio prio held ++ of_prio prio (packet ∷ []) =
    filter-append (λ p. prio_of p == prio) held (packet ∷ []) in
    elim (eqb_tells (prio_of packet) prio) [
      | inl (test, same) ↦
          let there = subst (λ (r : ℕ). slice_get (list_at lists r) 0 ≡ Some packet) same first in
          let one : of_prio prio (packet ∷ []) ≡ packet ∷ [] = rw test refl in
          let rest : list_at (popped lists (prio_of packet)) prio ≡ drop 1 (list_at lists prio) =
          list_at-popped lists (prio_of packet) prio ∙ rw test refl in
          ap (λ packets. of_prio prio held ++ packets) (drop_at 0 (list_at lists prio) packet there
          ∙ ap (λ packets. packet ∷ packets) (sym rest))
          ∙ sym (append_assoc (of_prio prio held) (packet ∷ [])
          (list_at (popped lists (prio_of packet)) prio))
          ∙ ap (λ packets. (of_prio prio held ++ packets)
          ++ list_at (popped lists (prio_of packet)) prio) (sym one)
          ∙ ap (λ packets. packets ++ list_at (popped lists (prio_of packet)) prio) (sym split)
      | inr (test, different) ↦
          let none : of_prio prio (packet ∷ []) ≡ [] = rw test refl in
          let rest : list_at (popped lists (prio_of packet)) prio ≡ list_at lists prio =
          list_at-popped lists (prio_of packet) prio ∙ rw test refl in
          ap (λ packets. of_prio prio held ++ packets) (sym rest)
          ∙ ap (λ packets. packets ++ list_at (popped lists (prio_of packet)) prio) (sym
          (append-nil (of_prio prio held)) ∙ ap (λ packets. of_prio prio held ++ packets) (sym none)
          ∙ sym split)
    ]

-- packets that are taken in turn stand behind those taken before them, and before those that stay
list-taken :
    (prio : ℕ) (before : List (List ℕ)) (prios : List ℕ) (lists : List (List (List ℕ)))
    → length lists ≡ 4 → Sorted lists → Covers prios lists
    → of_prio prio before ++ list_at lists prio
    ≡ of_prio prio (before ++ packets_of prios lists)
    ++ list_at (lists_without prios lists) prio
list-taken prio before [] lists four sorted covers =
    ap (λ all. of_prio prio all ++ list_at lists prio) (sym (append-nil before))
list-taken prio before (p ∷ ps) lists four sorted covers =
    let some = Covers-first p ps lists covers in
    let few : p < 4 = (let within = prio_within lists p some in omega arith) in
    let packet = get_or (list_at lists p) 0 [] in
    let first = slice_get-get_or (list_at lists p) 0 [] some in
    let its : prio_of packet ≡ p = sorted p few 0 [] some in
    let there : slice_get (list_at lists (prio_of packet)) 0 ≡ Some packet =
    subst (λ (r : ℕ). slice_get (list_at lists r) 0 ≡ Some packet) (sym its) first in
    let rest =
    list-taken prio (before ++ packet ∷ []) ps (popped lists p)
    (length-set lists p (drop 1 (list_at lists p)) ∙ four)
    (Sorted-popped lists p four few sorted) (Covers-rest p ps lists covers) in
    held_of_prio prio before lists packet there
    ∙ ap (λ r. of_prio prio (before ++ packet ∷ []) ++ list_at (popped lists r) prio) its
    ∙ rest
    ∙ ap (λ all. of_prio prio all ++ list_at (lists_without (p ∷ ps) lists) prio)
    (append_assoc before (packet ∷ []) (packets_of ps (popped lists p))
    ∙ ap (λ all. before ++ all) (sym (packets_of-cons p ps lists packet first)))

pub list-parts :
    (prio : ℕ) (prios : List ℕ) (lists : List (List (List ℕ))) → length lists ≡ 4 → Sorted lists
    → Covers prios lists
    → list_at lists prio
    ≡ of_prio prio (packets_of prios lists) ++ list_at (lists_without prios lists) prio
list-parts prio prios lists four sorted covers = list-taken prio [] prios lists four sorted covers
