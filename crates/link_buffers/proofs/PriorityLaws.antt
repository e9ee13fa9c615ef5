-- The laws of what priorities take out of the lists, and of what stays.
use Rattle.std.proofs.Common.{◌≡◌, ℕ, zero, suc, ◌+◌, ◌-◌, ◌<◌, ◌≤◌, ◌↔◌, lt-ltb, le-ltb, Bool, cond, ◌==◌, List, [], ◌∷◌, ◌++◌, map, length, take, drop, get_or, set, slice_get, Option, Some, None, IsSome, subst, sym, ◌∙◌, ap, inl, inr, refl, arith, add-zero, length-append, length-drop, length-set, get_or-set_same, get_or-set_other}
use Rattle.std.proofs.lemmas.Bool.{cases_eq, cases_lt}
use Rattle.std.proofs.lemmas.Bool.Decides.{eqb_tells}
use Rattle.std.proofs.lemmas.List.{append-nil, set-set, set_comm, drop-append-le, take-append-le, length-take-le, take-append-drop}
use Rattle.std.proofs.lemmas.Option.{slice_get-get_or}
use Rattle.rio_packets.specs.Fields.{prio_of}
use Rattle.link_buffers.specs.Queues.{list_at, appended, popped, packet_count, Sorted, IsOutStore}
use Rattle.link_buffers.specs.Priorities.{packets_of, lists_without, count_of, Covers, highest_below, highest}
use Rattle.link_buffers.proofs.QueueLemmas.{packet_count_four, length_list_at-le-packet_count, packet_count-popped, Sorted-popped}
use Rattle.link_buffers.proofs.StoreLemmas.{IsOutStore-popped}
use Rattle.link_buffers.proofs.PriorityLists.{prio_within, count_of-cons, count_of-append, list_at-popped_same, list_at-popped, list_at-lists_without, slice_get-lists_without, packets_of-append, lists_without-append}

-- where the priorities are covered, the first finds a packet, and the others are covered by what
-- stays
pub Covers-first : (prio : ℕ) (prios : List ℕ) (lists : List (List (List ℕ)))
    → Covers (prio ∷ prios) lists → 0 < length (list_at lists prio)
Covers-first prio prios lists covers =
    let some = covers prio in
    let counted = count_of-cons prio prios prio in
    elim (eqb_tells prio prio) [
      | inl (test, _) ↦ let one = ap (λ (b : Bool). cond {A = ℕ} b 1 0) test in omega arith
      | inr (_, different) ↦ absurd (different refl)
    ]

pub Covers-rest : (prio : ℕ) (prios : List ℕ) (lists : List (List (List ℕ)))
    → Covers (prio ∷ prios) lists → Covers prios (popped lists prio)
Covers-rest prio prios lists covers other =
    let all = covers other in
    let counted = count_of-cons prio prios other in
    let fewer =
    ap length (list_at-popped lists prio other)
    ∙ length-drop (cond (prio == other) 1 0) (list_at lists other) in
    omega arith

pub Covers-append_left : (prios more : List ℕ) (lists : List (List (List ℕ)))
    → Covers (prios ++ more) lists → Covers prios lists
Covers-append_left prios more lists covers prio =
    let all = covers prio in
    let counted = count_of-append prios more prio in
    omega arith

pub Covers-append_right : (prios more : List ℕ) (lists : List (List (List ℕ)))
    → Covers (prios ++ more) lists → Covers more (lists_without prios lists)
Covers-append_right prios more lists covers prio =
    let all = covers prio in
    let counted = count_of-append prios more prio in
    let fewer =
    ap length (list_at-lists_without prios lists prio)
    ∙ length-drop (count_of prios prio) (list_at lists prio) in
    omega arith

-- a priority whose list has a packet that is not taken may be added
pub Covers-next :
    (prios : List ℕ) (prio : ℕ) (lists : List (List (List ℕ))) → Covers prios lists
    → count_of prios prio < length (list_at lists prio)
    → Covers (prios ++ prio ∷ []) lists
Covers-next prios prio lists covers more other =
    let all = covers other in
    let counted = count_of-append prios (prio ∷ []) other in
    elim (eqb_tells prio other) [
      | inl (test, same) ↦
          let one = rw test at counted in
          let here = subst (λ (r : ℕ). count_of prios r < length (list_at lists r)) same more in
          omega arith
      | inr (test, _) ↦ let none = rw test at counted in omega arith
    ]

pub list_at-appended : (lists : List (List (List ℕ))) (prio : ℕ) (packet : List ℕ) (other : ℕ)
    → prio < length lists → list_at (appended lists prio packet) other
    ≡ list_at lists other ++ cond (prio == other) (packet ∷ []) []
list_at-appended lists prio packet other within =
    elim (eqb_tells prio other) [
      | inl (test, same) ↦ rw test (subst
          (λ (r : ℕ). list_at (appended lists prio packet) r ≡ list_at lists r ++ packet ∷ []) same
          (get_or-set_same lists prio _ [] within))
      | inr (test, different) ↦ rw test (get_or-set_other lists prio other _ []
          (λ same. different (sym same)) ∙ sym (append-nil (list_at lists other)))
    ]

pub Covers-appended : (prios : List ℕ) (lists : List (List (List ℕ))) (prio : ℕ) (packet : List ℕ)
    → Covers prios lists → prio < length lists → Covers prios (appended lists prio packet)
Covers-appended prios lists prio packet covers within other =
    let all = covers other in
    let longer =
    ap length (list_at-appended lists prio packet other within)
    ∙ length-append (list_at lists other) (cond (prio == other) (packet ∷ []) []) in
    omega arith

-- the first packet of a list is the same after a put, where there is one
first-appended :
    (lists : List (List (List ℕ))) (prio : ℕ) (packet : List ℕ) (other : ℕ) → prio < length lists
    → 0 < length (list_at lists other)
    → take 1 (list_at (appended lists prio packet) other) ≡ take 1 (list_at lists other)
first-appended lists prio packet other within some =
    ap (take 1) (list_at-appended lists prio packet other within)
    ∙ take-append-le 1 (list_at lists other) (cond (prio == other) (packet ∷ []) []) some

-- a put and a pop of a list that is not empty may come in either order
popped-appended :
    (lists : List (List (List ℕ))) (prio : ℕ) (packet : List ℕ) (other : ℕ) → prio < length lists
    → 0 < length (list_at lists other)
    → popped (appended lists prio packet) other ≡ appended (popped lists other) prio packet
popped-appended lists prio packet other within some =
    elim (cases_eq prio other) [
      | inl same ↦ subst
          (λ (r : ℕ). popped (appended lists prio packet) r ≡ appended (popped lists r) prio packet)
          same (one_list (subst (λ (r : ℕ). 0 < length (list_at lists r)) (sym same) some))
      | inr different ↦
          ap (set (appended lists prio packet) other)
          (ap (drop 1) (get_or-set_other lists prio other _ [] (λ same. different (sym same))))
          ∙ set_comm lists prio other _ _ different
          ∙ ap (λ packets. set (popped lists other) prio (packets ++ packet ∷ []))
          (sym (get_or-set_other lists other prio _ [] different))
    ]
  where
    one_list : 0 < length (list_at lists prio)
        → popped (appended lists prio packet) prio ≡ appended (popped lists prio) prio packet
    one_list here =
        set-set lists prio _ _
        ∙ ap (λ packets. set lists prio (drop 1 packets)) (get_or-set_same lists prio _ [] within)
        ∙ ap (set lists prio) (drop-append-le 1 (list_at lists prio) (packet ∷ []) here)
        ∙ ap (λ packets. set lists prio (packets ++ packet ∷ []))
        (sym (list_at-popped_same lists prio))
        ∙ sym (set-set lists prio _ _)

-- a put changes nothing of what covered priorities take, and its packet stands at the end of what
-- stays
pub packets_of-appended :
    (prios : List ℕ) (lists : List (List (List ℕ))) (prio : ℕ) (packet : List ℕ)
    → Covers prios lists → prio < length lists
    → packets_of prios (appended lists prio packet) ≡ packets_of prios lists
packets_of-appended [] lists prio packet covers within = refl
packets_of-appended (p ∷ ps) lists prio packet covers within =
    let some = Covers-first p ps lists covers in
    let long = length-set lists p (drop 1 (list_at lists p)) in
    ap (λ packets. packets ++ packets_of ps (popped (appended lists prio packet) p))
    (first-appended lists prio packet p within some)
    ∙ ap (λ after. take 1 (list_at lists p) ++ packets_of ps after)
    (popped-appended lists prio packet p within some)
    ∙ ap (λ packets. take 1 (list_at lists p) ++ packets) (packets_of-appended ps (popped lists p)
    prio packet (Covers-rest p ps lists covers) (omega arith))

pub lists_without-appended :
    (prios : List ℕ) (lists : List (List (List ℕ))) (prio : ℕ) (packet : List ℕ)
    → Covers prios lists → prio < length lists
    → lists_without prios (appended lists prio packet)
    ≡ appended (lists_without prios lists) prio packet
lists_without-appended [] lists prio packet covers within = refl
lists_without-appended (p ∷ ps) lists prio packet covers within =
    let long = length-set lists p (drop 1 (list_at lists p)) in
    ap (lists_without ps)
    (popped-appended lists prio packet p within (Covers-first p ps lists covers))
    ∙ lists_without-appended ps (popped lists p) prio packet (Covers-rest p ps lists covers)
    (omega arith)

pub length-packets_of : (prios : List ℕ) (lists : List (List (List ℕ))) → Covers prios lists
    → length (packets_of prios lists) ≡ length prios
length-packets_of [] lists covers = refl
length-packets_of (p ∷ ps) lists covers =
    let some = Covers-first p ps lists covers in
    let rest = length-packets_of ps (popped lists p) (Covers-rest p ps lists covers) in
    length-append (take 1 (list_at lists p)) (packets_of ps (popped lists p))
    ∙ (let one = length-take-le 1 (list_at lists p) some in omega arith)

-- what is taken and what stays are all the packets
pub packet_count-lists_without : (prios : List ℕ) (lists : List (List (List ℕ)))
    → Covers prios lists
    → packet_count (lists_without prios lists) + length prios ≡ packet_count lists
packet_count-lists_without [] lists covers = add-zero (packet_count lists)
packet_count-lists_without (p ∷ ps) lists covers =
    let some = Covers-first p ps lists covers in
    let one = packet_count-popped lists p (prio_within lists p some) some in
    let rest = packet_count-lists_without ps (popped lists p) (Covers-rest p ps lists covers) in
    omega arith

pub length-lists_without : (prios : List ℕ) (lists : List (List (List ℕ)))
    → length (lists_without prios lists) ≡ length lists
length-lists_without [] lists = refl
length-lists_without (p ∷ ps) lists =
    length-lists_without ps (popped lists p) ∙ length-set lists p (drop 1 (list_at lists p))

-- what is true of every store stays true
pub Sorted-lists_without : (prios : List ℕ) (lists : List (List (List ℕ))) → length lists ≡ 4
    → Covers prios lists → Sorted lists → Sorted (lists_without prios lists)
Sorted-lists_without [] lists four covers sorted = sorted
Sorted-lists_without (p ∷ ps) lists four covers sorted =
    let within = prio_within lists p (Covers-first p ps lists covers) in
    Sorted-lists_without ps (popped lists p) (length-set lists p (drop 1 (list_at lists p)) ∙ four)
    (Covers-rest p ps lists covers)
    (Sorted-popped lists p four (omega arith) sorted)

pub IsOutStore-lists_without : (prios : List ℕ) (lists : List (List (List ℕ))) → Covers prios lists
    → IsOutStore lists → IsOutStore (lists_without prios lists)
IsOutStore-lists_without [] lists covers is = is
IsOutStore-lists_without (p ∷ ps) lists covers is =
    let within = prio_within lists p (Covers-first p ps lists covers) in
    IsOutStore-lists_without ps (popped lists p) (Covers-rest p ps lists covers)
    (IsOutStore-popped lists p is (omega (arith, is.four)))

-- the packet at the front, where there is one
take_one : (packets : List (List ℕ)) (packet : List ℕ) → slice_get packets 0 ≡ Some packet
    → take 1 packets ≡ packet ∷ []
take_one [] packet is = cc
take_one (x ∷ xs) packet is = cc

-- the first priority takes the first packet of its list
pub packets_of-cons :
    (prio : ℕ) (prios : List ℕ) (lists : List (List (List ℕ))) (packet : List ℕ)
    → slice_get (list_at lists prio) 0 ≡ Some packet
    → packets_of (prio ∷ prios) lists ≡ packet ∷ packets_of prios (popped lists prio)
packets_of-cons prio prios lists packet is =
    ap (λ packets. packets ++ packets_of prios (popped lists prio))
    (take_one (list_at lists prio) packet is)

-- one more priority takes the first packet of its list that the others do not
pub packets_of-next :
    (prios : List ℕ) (prio : ℕ) (lists : List (List (List ℕ))) (packet : List ℕ)
    → slice_get (list_at lists prio) (count_of prios prio) ≡ Some packet
    → packets_of (prios ++ prio ∷ []) lists ≡ packets_of prios lists ++ packet ∷ []
packets_of-next prios prio lists packet is =
    packets_of-append prios (prio ∷ []) lists
    ∙ ap (λ packets. packets_of prios lists ++ packets) (packets_of-cons prio []
    (lists_without prios lists) packet (slice_get-lists_without prios lists prio ∙ is))

-- the packets taken have the priorities that take them
pub map-prio_of-packets_of : (prios : List ℕ) (lists : List (List (List ℕ))) → length lists ≡ 4
    → Covers prios lists → Sorted lists → map prio_of (packets_of prios lists) ≡ prios
map-prio_of-packets_of [] lists four covers sorted = refl
map-prio_of-packets_of (p ∷ ps) lists four covers sorted =
    let some = Covers-first p ps lists covers in
    let few : p < 4 = (let within = prio_within lists p some in omega arith) in
    let first = slice_get-get_or (list_at lists p) 0 [] some in
    let its = sorted p few 0 [] some in
    let rest =
    map-prio_of-packets_of ps (popped lists p)
    (length-set lists p (drop 1 (list_at lists p)) ∙ four) (Covers-rest p ps lists covers)
    (Sorted-popped lists p four few sorted) in
    ap (map prio_of) (packets_of-cons p ps lists _ first)
    ∙ ap (λ r. r ∷ map prio_of (packets_of ps (popped lists p))) its
    ∙ ap (λ rs. p ∷ rs) rest

-- the first packets taken are those that the first priorities take
pub take-packets_of : (count : ℕ) (prios : List ℕ) (lists : List (List (List ℕ)))
    → Covers prios lists → take count (packets_of prios lists) ≡ packets_of (take count prios) lists
take-packets_of zero prios lists covers = refl
take-packets_of (suc n) [] lists covers = refl
take-packets_of (suc n) (p ∷ ps) lists covers =
    let first = slice_get-get_or (list_at lists p) 0 [] (Covers-first p ps lists covers) in
    ap (take (suc n)) (packets_of-cons p ps lists _ first)
    ∙ ap (λ packets. get_or (list_at lists p) 0 [] ∷ packets)
    (take-packets_of n ps (popped lists p) (Covers-rest p ps lists covers))
    ∙ sym (packets_of-cons p (take n ps) lists _ first)

-- the packets after them are those that the other priorities take of what stays
pub drop-packets_of : (count : ℕ) (prios : List ℕ) (lists : List (List (List ℕ)))
    → Covers prios lists → drop count (packets_of prios lists)
    ≡ packets_of (drop count prios) (lists_without (take count prios) lists)
drop-packets_of zero prios lists covers = refl
drop-packets_of (suc n) [] lists covers = refl
drop-packets_of (suc n) (p ∷ ps) lists covers =
    let first = slice_get-get_or (list_at lists p) 0 [] (Covers-first p ps lists covers) in
    ap (drop (suc n)) (packets_of-cons p ps lists _ first)
    ∙ drop-packets_of n ps (popped lists p) (Covers-rest p ps lists covers)

-- what stays, where the first priorities take first
pub lists_without-split : (count : ℕ) (prios : List ℕ) (lists : List (List (List ℕ)))
    → lists_without (drop count prios) (lists_without (take count prios) lists)
    ≡ lists_without prios lists
lists_without-split count prios lists =
    sym (lists_without-append (take count prios) (drop count prios) lists)
    ∙ ap (λ all. lists_without all lists) (take-append-drop count prios)

pub Covers-take : (count : ℕ) (prios : List ℕ) (lists : List (List (List ℕ))) → Covers prios lists
    → Covers (take count prios) lists
Covers-take count prios lists covers =
    Covers-append_left (take count prios) (drop count prios) lists
    (subst (λ all. Covers all lists) (sym (take-append-drop count prios)) covers)

pub Covers-drop : (count : ℕ) (prios : List ℕ) (lists : List (List (List ℕ))) → Covers prios lists
    → Covers (drop count prios) (lists_without (take count prios) lists)
Covers-drop count prios lists covers =
    Covers-append_right (take count prios) (drop count prios) lists
    (subst (λ all. Covers all lists) (sym (take-append-drop count prios)) covers)

pub length_list_at-lists_without : (prios : List ℕ) (lists : List (List (List ℕ))) (prio : ℕ)
    → length (list_at (lists_without prios lists) prio)
    ≡ length (list_at lists prio) - count_of prios prio
length_list_at-lists_without prios lists prio =
    ap length (list_at-lists_without prios lists prio)
    ∙ length-drop (count_of prios prio) (list_at lists prio)

-- the highest priority below a number, where the next one down has a packet, and where it has none
pub highest_below-found :
    (prio above : ℕ) (lists : List (List (List ℕ))) → above ≡ suc prio
    → 0 < length (list_at lists prio) → highest_below above lists ≡ Some prio
unfolding highest_below
highest_below-found prio above lists next some =
    ap (λ n. highest_below n lists) next
    ∙ ap (λ (b : Bool). cond b (Some prio) (highest_below prio lists))
    (lt-ltb 0 (length (list_at lists prio)) some)

pub highest_below-passed :
    (prio above : ℕ) (lists : List (List (List ℕ))) → above ≡ suc prio
    → length (list_at lists prio) ≤ 0 → highest_below above lists ≡ highest_below prio lists
unfolding highest_below
highest_below-passed prio above lists next none =
    ap (λ n. highest_below n lists) next
    ∙ ap (λ (b : Bool). cond b (Some prio) (highest_below prio lists))
    (le-ltb 0 (length (list_at lists prio)) none)

pub highest_below-zero : (above : ℕ) (lists : List (List (List ℕ))) → above ≡ 0
    → highest_below above lists ≡ None
unfolding highest_below
highest_below-zero above lists none = ap (λ n. highest_below n lists) none

-- the highest priority that has a packet is below the number, and has one
pub highest_below-some : (above prio : ℕ) (lists : List (List (List ℕ)))
    → highest_below above lists ≡ Some prio → (prio < above) × (0 < length (list_at lists prio))
highest_below-some zero prio lists is = let none = highest_below-zero 0 lists refl in cc
highest_below-some (suc n) prio lists is =
    elim (cases_lt 0 (length (list_at lists n))) [
      | inl some ↦
          let found = highest_below-found n (suc n) lists refl some in
          let same : n ≡ prio = cc in
          (omega arith, subst (λ (p : ℕ). 0 < length (list_at lists p)) same some)
      | inr none ↦
          let below =
          highest_below-some n prio lists
          (sym (highest_below-passed n (suc n) lists refl none) ∙ is) in
          (omega (arith, below.0), below.1)
    ]

-- one more list has a packet, or one below it
highest_below-more :
    (n : ℕ) (lists : List (List (List ℕ)))
    → (length (list_at lists n) ≤ 0 → IsSome (highest_below n lists))
    → IsSome (highest_below (suc n) lists)
highest_below-more n lists below =
    elim (cases_lt 0 (length (list_at lists n))) [
      | inl some ↦ subst IsSome (sym (highest_below-found n (suc n) lists refl some)) refl
      | inr none ↦ subst IsSome (sym (highest_below-passed n (suc n) lists refl none)) (below none)
    ]

packet_count-some : (lists : List (List (List ℕ))) → length lists ≡ 4 → 0 < packet_count lists
    → IsSome (highest lists)
packet_count-some lists four some =
    let all = packet_count_four lists four in
    highest_below-more 3 lists
    (λ third. highest_below-more 2 lists (λ second. highest_below-more 1 lists (λ first.
    highest_below-more 0 lists (λ zeroth. absurd (omega arith)))))

some-packet_count : (lists : List (List (List ℕ))) (most : Option ℕ) → length lists ≡ 4
    → highest lists ≡ most → IsSome most → 0 < packet_count lists
some-packet_count lists None four is some = cc
some-packet_count lists (Some prio) four is some =
    let has = highest_below-some 4 prio lists is in
    let most = length_list_at-le-packet_count lists prio (omega (arith, has.0)) in
    omega (arith, has.1)

-- a packet is held exactly where there is a highest priority that has one
pub packet_count-highest : (lists : List (List (List ℕ))) → length lists ≡ 4
    → (0 < packet_count lists) ↔ IsSome (highest lists)
packet_count-highest lists four =
    (packet_count-some lists four, some-packet_count lists (highest lists) four refl)

-- the highest priority that has a packet which stays: there is one at the place that counts the
-- packets that are taken, and the priority may be added
pub count_of-highest : (prios : List ℕ) (prio : ℕ) (lists : List (List (List ℕ)))
    → highest (lists_without prios lists) ≡ Some prio
    → count_of prios prio < length (list_at lists prio)
count_of-highest prios prio lists is =
    let some = highest_below-some 4 prio (lists_without prios lists) is in
    let fewer = length_list_at-lists_without prios lists prio in
    omega (arith, some.1)

pub Covers-highest : (prios : List ℕ) (prio : ℕ) (lists : List (List (List ℕ))) → Covers prios lists
    → highest (lists_without prios lists) ≡ Some prio → Covers (prios ++ prio ∷ []) lists
Covers-highest prios prio lists covers is =
    Covers-next prios prio lists covers (count_of-highest prios prio lists is)
