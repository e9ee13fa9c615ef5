-- What a change of one list leaves of the others, and of the number of packets.
use Rattle.std.proofs.Common.{◌≡◌, ◌≢◌, ℕ, ◌+◌, ◌<◌, ◌≤◌, List, [], ◌∷◌, ◌++◌, length, drop, set, subst, sym, ◌∙◌, ap, inl, inr, refl, All, arith, length-append, length-drop, get_or-set_same, get_or-set_other, slice_get, Some, get_or}
use Rattle.std.proofs.lemmas.Bool.{cases_eq}
use Rattle.std.proofs.lemmas.List.{set-get_or, drop_all}
use Rattle.std.proofs.lemmas.List.Sums.{sum_by-cons, sum_by-set, get_or-le-sum_by}
use Rattle.std.proofs.lemmas.List.Elements.{All-push, All-drop}
use Rattle.std.proofs.lemmas.Option.{slice_get_within, slice_get-get_or}
use Rattle.rio_packets.specs.Fields.{prio_of}
use Rattle.rio_packets.specs.LinkForm.{Passes}
use Rattle.link_buffers.specs.Queues.{list_at, appended, popped, packet_count, Sorted, ArePackets}

-- the list that was put in the place of another
pub list_at-set_same : (lists : List (List (List ℕ))) (prio : ℕ) (packets : List (List ℕ))
    → prio < length lists → list_at (set lists prio packets) prio ≡ packets
list_at-set_same lists prio packets within = get_or-set_same lists prio packets [] within

-- the other lists stay
pub list_at-set_other : (lists : List (List (List ℕ))) (prio other : ℕ) (packets : List (List ℕ))
    → other ≢ prio → list_at (set lists prio packets) other ≡ list_at lists other
list_at-set_other lists prio other packets different =
    get_or-set_other lists prio other packets [] different

-- what is true of each list, and of the one that is put in a place, is true of each list afterwards
pub each-set :
    (P : ℕ → List (List ℕ) → Type 0) (lists : List (List (List ℕ))) (prio : ℕ)
    (packets : List (List ℕ))
    → prio < length lists → P prio packets
    → ((other : ℕ) → other < 4 → P other (list_at lists other))
    → (other : ℕ) → other < 4 → P other (list_at (set lists prio packets) other)
each-set P lists prio packets within put each other few =
    elim (cases_eq other prio) [
      | inl same ↦ subst (λ (q : ℕ). P q (list_at (set lists prio packets) q)) (sym same)
          (subst (P prio) (sym (list_at-set_same lists prio packets within)) put)
      | inr different ↦ subst (P other) (sym (list_at-set_other lists prio other packets different))
          (each other few)
    ]

-- the packets of four lists
pub packet_count_four :
    (lists : List (List (List ℕ))) → length lists ≡ 4
    → packet_count lists ≡ length (list_at lists 0) + length (list_at lists 1)
    + length (list_at lists 2) + length (list_at lists 3)
packet_count_four [] four = cc
packet_count_four (a ∷ []) four = cc
packet_count_four (a ∷ b ∷ []) four = cc
packet_count_four (a ∷ b ∷ c ∷ []) four = cc
packet_count_four (a ∷ b ∷ c ∷ d ∷ []) four =
    let first = sum_by-cons length a (b ∷ c ∷ d ∷ []) in
    let second = sum_by-cons length b (c ∷ d ∷ []) in
    let third = sum_by-cons length c (d ∷ []) in
    let fourth = sum_by-cons length d [] in
    omega arith
packet_count_four (a ∷ b ∷ c ∷ d ∷ e ∷ more) four = absurd (omega arith)

-- a list is no longer than all lists together
pub length_list_at-le-packet_count : (lists : List (List (List ℕ))) (prio : ℕ) → prio < length lists
    → length (list_at lists prio) ≤ packet_count lists
length_list_at-le-packet_count lists prio within = get_or-le-sum_by length lists prio [] within

pub packet_count-appended : (lists : List (List (List ℕ))) (prio : ℕ) (packet : List ℕ)
    → prio < length lists → packet_count (appended lists prio packet) ≡ packet_count lists + 1
packet_count-appended lists prio packet within =
    let moved = sum_by-set length lists prio (list_at lists prio ++ packet ∷ []) [] within in
    let longer = length-append (list_at lists prio) (packet ∷ []) in
    omega arith

pub packet_count-popped : (lists : List (List (List ℕ))) (prio : ℕ) → prio < length lists
    → 0 < length (list_at lists prio) → packet_count (popped lists prio) + 1 ≡ packet_count lists
packet_count-popped lists prio within some =
    let moved = sum_by-set length lists prio (drop 1 (list_at lists prio)) [] within in
    let shorter = length-drop 1 (list_at lists prio) in
    omega arith

-- nothing is popped from an empty list
pub popped-none : (lists : List (List (List ℕ))) (prio : ℕ) → length (list_at lists prio) ≤ 0
    → popped lists prio ≡ lists
popped-none lists prio none =
    ap (set lists prio)
    (drop_all 1 (list_at lists prio) (omega arith) ∙ sym (drop_all 0 (list_at lists prio) none))
    ∙ set-get_or lists prio []

pub Sorted-set :
    (lists : List (List (List ℕ))) (prio : ℕ) (packets : List (List ℕ)) → prio < length lists
    → All (λ packet. prio_of packet ≡ prio) packets → Sorted lists → Sorted (set lists prio packets)
Sorted-set lists prio packets within same sorted =
    each-set (λ r xs. All (λ packet. prio_of packet ≡ r) xs) lists prio packets within same sorted

pub Sorted-appended : (lists : List (List (List ℕ))) (packet : List ℕ) → length lists ≡ 4
    → prio_of packet < 4 → Sorted lists → Sorted (appended lists (prio_of packet) packet)
Sorted-appended lists packet four few sorted =
    Sorted-set lists (prio_of packet) _ (omega arith) (All-push (λ p. prio_of p ≡ prio_of packet)
    (list_at lists (prio_of packet)) packet (sorted (prio_of packet) few) refl) sorted

pub Sorted-popped : (lists : List (List (List ℕ))) (prio : ℕ) → length lists ≡ 4 → prio < 4
    → Sorted lists → Sorted (popped lists prio)
Sorted-popped lists prio four few sorted =
    Sorted-set lists prio _ (omega arith)
    (All-drop (λ p. prio_of p ≡ prio) 1 (list_at lists prio) (sorted prio few)) sorted

pub ArePackets-appended :
    (lists : List (List (List ℕ))) (packet : List ℕ) → length lists ≡ 4 → prio_of packet < 4
    → Passes packet → ArePackets lists
    → ArePackets (appended lists (prio_of packet) packet)
ArePackets-appended lists packet four few passes packets =
    each-set (λ r xs. All (λ p. Passes p) xs) lists (prio_of packet) _ (omega arith)
    (All-push (λ p. Passes p) (list_at lists (prio_of packet)) packet (packets (prio_of packet) few)
    passes) packets

pub ArePackets-popped : (lists : List (List (List ℕ))) (prio : ℕ) → length lists ≡ 4 → prio < 4
    → ArePackets lists → ArePackets (popped lists prio)
ArePackets-popped lists prio four few packets =
    each-set (λ r xs. All (λ p. Passes p) xs) lists prio _ (omega arith)
    (All-drop (λ p. Passes p) 1 (list_at lists prio) (packets prio few)) packets

-- what stands in a list is a packet
pub Passes-at :
    (lists : List (List (List ℕ))) (prio place : ℕ) (packet : List ℕ) → ArePackets lists → prio < 4
    → slice_get (list_at lists prio) place ≡ Some packet → Passes packet
Passes-at lists prio place packet packets few is =
    let within = slice_get_within (list_at lists prio) place packet is in
    let got = slice_get-get_or (list_at lists prio) place [] within in
    let same : get_or (list_at lists prio) place [] ≡ packet = cc in
    subst (λ (p : List ℕ). Passes p) same (packets prio few place [] within)
