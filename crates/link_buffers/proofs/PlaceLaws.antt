-- Packets that are stowed in places: what it leaves of the other places, and how often each place
-- is counted.
use Rattle.std.proofs.Common.{◌≡◌, ◌≢◌, ℕ, ◌+◌, ◌-◌, ◌<◌, ◌≤◌, All, cond, ◌==◌, List, [], ◌∷◌, ◌++◌, length, map, drop, set, slice_get, Some, zero, suc, None, subst, sym, ◌∙◌, ap, inl, inr, refl, arith, length-append, length-set, get_or-set_same, get_or-set_other}
use Rattle.std.proofs.Math.ListN.{get_or-append, get_or-eq_default}
use Rattle.std.proofs.Math.Seq.{get_or-append_seam}
use Rattle.std.proofs.lemmas.Bool.{cases_lt}
use Rattle.std.proofs.lemmas.Bool.Decides.{eqb_tells}
use Rattle.std.proofs.lemmas.List.Sums.{sum_by-cons}
use Rattle.std.proofs.lemmas.Option.{slice_get-get_or, slice_get_within, get_or_from_slice_get}
use Rattle.circular_buffer.specs.Buffer.{Buffer, keep_last}
use Rattle.link_buffers.specs.Priorities.{count_of}
use Rattle.link_buffers.specs.Rings.{stowed_at, lists_of, uses_of, stowed}
use Rattle.link_buffers.proofs.PriorityLists.{count_of-cons}

-- what stands first is counted
pub count_of-first : (places : List ℕ) (place other : ℕ) → slice_get places 0 ≡ Some place
    → count_of places other ≡ cond (place == other) 1 0 + count_of (drop 1 places) other
count_of-first [] place other is = cc
count_of-first (p ∷ ps) place other is =
    let same : p ≡ place = cc in
    subst (λ (q : ℕ). count_of (p ∷ ps) other ≡ cond (q == other) 1 0 + count_of ps other) same
    (count_of-cons p ps other)

pub one_of : (place : ℕ) → cond {A = ℕ} (place == place) 1 0 ≡ 1
one_of place =
    elim (eqb_tells place place) [
      | inl (test, _) ↦ ap (λ b. cond {A = ℕ} b 1 0) test
      | inr (_, different) ↦ absurd (different refl)
    ]

pub none_of : (place other : ℕ) → place ≢ other → cond {A = ℕ} (place == other) 1 0 ≡ 0
none_of place other different =
    elim (eqb_tells place other) [
      | inl (_, same) ↦ absurd (different same)
      | inr (test, _) ↦ ap (λ b. cond {A = ℕ} b 1 0) test
    ]

-- what stands in a list is counted
pub count_of-some : (places : List ℕ) (i place : ℕ) → slice_get places i ≡ Some place
    → 0 < count_of places place
count_of-some [] i place is = cc
count_of-some (p ∷ ps) zero place is =
    let first = count_of-first (p ∷ ps) place place is in
    let one = one_of place in
    omega arith
count_of-some (p ∷ ps) (suc i) place is =
    let rest = count_of-some ps i place is in
    let all = count_of-cons p ps place in
    omega arith

-- lists that do not have a place do not see what is put there
pub packets-same :
    (before after : List (List ℕ)) (place : ℕ) (numbers : List ℕ)
    → ((other : ℕ) → other ≢ place → stowed_at after other ≡ stowed_at before other)
    → count_of numbers place ≤ 0
    → map (stowed_at after) numbers ≡ map (stowed_at before) numbers
packets-same before after place [] same none = refl
packets-same before after place (n ∷ ns) same none =
    let all = count_of-cons n ns place in
    let different : n ≢ place =
    λ is. let one = one_of place in
    let here = subst (λ (m : ℕ). cond {A = ℕ} (m == place) 1 0 ≡ 1) (sym is) one in
    absurd (omega arith) in
    let first = same n different in
    let rest = packets-same before after place ns same (omega arith) in
    ap (λ p. p ∷ map (stowed_at after) ns) first ∙ ap (λ ps. stowed_at before n ∷ ps) rest

pub lists_of-same :
    (before after : List (List ℕ)) (place : ℕ) (rings : List (Buffer ℕ))
    → ((other : ℕ) → other ≢ place → stowed_at after other ≡ stowed_at before other)
    → uses_of rings place ≤ 0
    → lists_of after rings ≡ lists_of before rings
lists_of-same before after place [] same none = refl
lists_of-same before after place (r ∷ rs) same none =
    let all = sum_by-cons (λ (ring : Buffer ℕ). count_of ring.items place) r rs in
    let first = packets-same before after place r.items same (omega arith) in
    let rest = lists_of-same before after place rs same (omega arith) in
    ap (λ ps. ps ∷ lists_of after rs) first
    ∙ ap (λ lists. map (stowed_at before) r.items ∷ lists) rest

-- a packet that is put stands in its place, and in no other place anything changes
pub stowed-other :
    (places : List (List ℕ)) (free : List ℕ) (packet : List ℕ) (other : ℕ)
    → other ≢ (stowed places free packet).place
    → stowed_at (stowed places free packet).places other ≡ stowed_at places other
unfolding stowed
stowed-other places [] packet other different =
    elim (cases_lt other (length places)) [
      | inl within ↦ get_or-append places (packet ∷ []) [] other within
      | inr beyond ↦
          let longer = length-append places (packet ∷ []) in
          get_or-eq_default (places ++ packet ∷ []) [] {n = other} (omega arith)
          ∙ sym (get_or-eq_default places [] {n = other} beyond)
    ]
stowed-other places (place ∷ free) packet other different =
    get_or-set_other places place other packet [] different

pub stowed-packet :
    (places : List (List ℕ)) (free : List ℕ) (packet : List ℕ)
    → ((place : ℕ) → slice_get free 0 ≡ Some place → place < length places)
    → stowed_at (stowed places free packet).places (stowed places free packet).place ≡ packet
unfolding stowed
stowed-packet places [] packet within = get_or-append_seam places packet [] []
stowed-packet places (place ∷ free) packet within =
    get_or-set_same places place packet [] (within place refl)

-- the place that gets a packet was free, or is a new one
pub unused :
    (places : List (List ℕ)) (free : List ℕ) (packet : List ℕ) (rings : List (Buffer ℕ))
    → ((place : ℕ) → uses_of rings place + count_of free place ≤ 1)
    → ((place : ℕ) → length places ≤ place → uses_of rings place + count_of free place ≤ 0)
    → uses_of rings (stowed places free packet).place ≤ 0
unfolding stowed
unused places [] packet rings once inside =
    let none = inside (length places) (omega arith) in
    omega arith
unused places (place ∷ free) packet rings once inside =
    let one = once place in
    let here = count_of-cons place free place in
    let counted = one_of place in
    omega arith

-- once it is used, each place is used once or free
pub once-stowed :
    (places : List (List ℕ)) (free : List ℕ) (packet : List ℕ) (rings : List (Buffer ℕ))
    (place used : ℕ)
    → ((place : ℕ) → uses_of rings place + count_of free place ≤ 1)
    → ((place : ℕ) → length places ≤ place → uses_of rings place + count_of free place ≤ 0)
    → used ≡ uses_of rings place + cond ((stowed places free packet).place == place) 1 0
    → used + count_of (stowed places free packet).free place ≤ 1
unfolding stowed
once-stowed places [] packet rings place used once inside is =
    elim (eqb_tells (length places) place) [
      | inl (_, same) ↦
          let none = inside place (omega arith) in
          let one = subst (λ (n : ℕ). cond {A = ℕ} (length places == n) 1 0 ≡ 1) same
          (one_of (length places)) in
          omega arith
      | inr (_, different) ↦
          let none = none_of (length places) place different in
          let before = once place in
          omega arith
    ]
once-stowed places (first ∷ free) packet rings place used once inside is =
    let before = once place in
    let here = count_of-cons first free place in
    omega arith

pub inside-stowed :
    (places : List (List ℕ)) (free : List ℕ) (packet : List ℕ) (rings : List (Buffer ℕ))
    (place used : ℕ)
    → ((place : ℕ) → length places ≤ place → uses_of rings place + count_of free place ≤ 0)
    → used ≡ uses_of rings place + cond ((stowed places free packet).place == place) 1 0
    → length (stowed places free packet).places ≤ place
    → used + count_of (stowed places free packet).free place ≤ 0
unfolding stowed
inside-stowed places [] packet rings place used inside is beyond =
    let longer = length-append places (packet ∷ []) in
    let before = inside place (omega arith) in
    let none = none_of (length places) place (λ same. absurd (omega arith)) in
    omega arith
inside-stowed places (first ∷ free) packet rings place used inside is beyond =
    let long = length-set places first packet in
    let before = inside place (omega arith) in
    let here = count_of-cons first free place in
    omega arith

-- there are as many places as packets and free places together
pub length-stowed : (places : List (List ℕ)) (free : List ℕ) (packet : List ℕ)
    → length (stowed places free packet).places + length free
    ≡ length places + length (stowed places free packet).free + 1
unfolding stowed
length-stowed places [] packet =
    let longer = length-append places (packet ∷ []) in
    omega arith
length-stowed places (first ∷ free) packet =
    let long = length-set places first packet in
    omega arith

pub within-stowed : (places : List (List ℕ)) (free : List ℕ) (packet : List ℕ) (room : ℕ)
    → length places ≤ room → (length free ≡ 0 → length places < room)
    → length (stowed places free packet).places ≤ room
unfolding stowed
within-stowed places [] packet room within some =
    let longer = length-append places (packet ∷ []) in
    let one_more = some refl in
    omega arith
within-stowed places (first ∷ free) packet room within some =
    let long = length-set places first packet in
    omega arith

-- the first free place gets a packet
pub stowed-some :
    (places : List (List ℕ)) (free : List ℕ) (packet : List ℕ) (place : ℕ)
    → slice_get free 0 ≡ Some place → stowed places free packet ≡ record {
      places = set places place packet;
      free = drop 1 free;
      place = place;
    }
unfolding stowed
stowed-some places [] packet place is = cc
stowed-some places (p ∷ free) packet place is =
    let same : p ≡ place = cc in
    ap (λ (n : ℕ). record {
      places = set places n packet;
      free = free;
      place = n;
    }) same

-- if there is none, one more place gets it
pub stowed-none :
    (places : List (List ℕ)) (free : List ℕ) (packet : List ℕ) → slice_get free 0 ≡ None
    → stowed places free packet ≡ record {
      places = places ++ packet ∷ [];
      free = drop 1 free;
      place = length places;
    }
unfolding stowed
stowed-none places [] packet is = refl
stowed-none places (p ∷ free) packet is = cc

pub none_free : (free : List ℕ) → slice_get free 0 ≡ None → length free ≡ 0
none_free [] is = refl
none_free (p ∷ free) is = cc

-- what is free is a place
pub first-within :
    (places : List (List ℕ)) (free : List ℕ) (place : ℕ)
    → All (λ place. place < length places) free
    → slice_get free 0 ≡ Some place → slice_get places place ≢ None
first-within places free place within found none =
    let inside : place < length places =
    subst (λ n. n < length places) (get_or_from_slice_get free 0 place 0 found)
    (within 0 0 (slice_get_within free 0 place found)) in
    let some = slice_get-get_or places place [] inside in
    cc

-- a buffer that is not full keeps all that it has
pub keep_last-room : {X : Type 0} → (items : List X) (item : X) (room : ℕ) → length items < room
    → keep_last room (items ++ item ∷ []) ≡ items ++ item ∷ []
keep_last-room items item room few =
    let longer = length-append items (item ∷ []) in
    let fits : length (items ++ item ∷ []) - room ≡ 0 = omega arith in
    ap (λ n. drop n (items ++ item ∷ [])) fits
