-- Lists of packets in the places of one block: what a packet that is put in a place, or taken from
-- one, leaves of them.
use Rattle.std.proofs.Common.{◌≡◌, ℕ, ◌+◌, ◌<◌, ◌≤◌, cond, ◌==◌, List, [], ◌∷◌, ◌++◌, length, map, drop, get_or, set, slice_get, Some, None, subst, sym, ◌∙◌, ap, inl, inr, refl, arith, length-append, length-set, length-drop}
use Rattle.std.proofs.lemmas.Bool.{cases_lt}
use Rattle.std.specs.List.{sum_by}
use Rattle.std.specs.Option.{option_map}
use Rattle.std.proofs.lemmas.List.{length-map, get_or-map, map-set, map-append, drop-map}
use Rattle.std.proofs.lemmas.List.Elements.{All-set}
use Rattle.std.proofs.lemmas.List.Sums.{sum_by-cons, sum_by-set, get_or-le-sum_by}
use Rattle.std.proofs.lemmas.Option.{slice_get-get_or, slice_get-map, slice_get_within, get_or_from_slice_get}
use Rattle.circular_buffer.specs.Buffer.{Buffer, buffer, keep_last}
use Rattle.link_buffers.specs.Priorities.{count_of}
use Rattle.link_buffers.specs.Queues.{list_at, appended, popped, packet_count}
use Rattle.link_buffers.specs.Rings.{stowed_at, lists_of, uses_of, stowed, AreRings}
use Rattle.link_buffers.proofs.PriorityLists.{count_of-cons, count_of-append}
use Rattle.link_buffers.proofs.PlaceLaws.{count_of-first, count_of-some, lists_of-same, stowed-other, stowed-packet, unused, once-stowed, inside-stowed, length-stowed, within-stowed, keep_last-room}

-- the lists in the rings
pub list_at-rings :
    (places : List (List ℕ)) (rings : List (Buffer ℕ)) (prio : ℕ) (ring : Buffer ℕ)
    → prio < length rings
    → list_at (lists_of places rings) prio
    ≡ map (stowed_at places) (get_or rings prio ring).items
list_at-rings places rings prio ring within =
    get_or-map (λ (r : Buffer ℕ). map (stowed_at places) r.items) rings prio ring [] within

pub packet_count-rings : (places : List (List ℕ)) (rings : List (Buffer ℕ))
    → packet_count (lists_of places rings) ≡ sum_by (λ ring. length ring.items) rings
packet_count-rings places [] = refl
packet_count-rings places (r ∷ rs) =
    let all = sum_by-cons length (map (stowed_at places) r.items) (lists_of places rs) in
    let both = sum_by-cons (λ (ring : Buffer ℕ). length ring.items) r rs in
    let long = length-map r.items (stowed_at places) in
    let rest = packet_count-rings places rs in
    omega arith

module _ (places : Buffer (List ℕ)) (free : Buffer ℕ) (rings : List (Buffer ℕ)) (room : ℕ)
    (is : AreRings places free rings room) where
  -- what is free is a place
  pub free-within : (i other : ℕ) → i < length free.items
      → get_or free.items i other < length places.items
  free-within i other within =
      let place = get_or free.items i other in
      let some = count_of-some free.items i place (slice_get-get_or free.items i other within) in
      elim (cases_lt place (length places.items)) [
        | inl inside ↦ inside
        | inr beyond ↦ let none = is.inside place beyond in absurd (omega arith)
      ]

  -- so is what stands in a ring
  pub ring-within :
      (prio i place : ℕ) (ring : Buffer ℕ) → prio < 4
      → slice_get (get_or rings prio ring).items i ≡ Some place → place < length places.items
  ring-within prio i place ring few found =
      let four = is.four in
      let within : prio < length rings = omega arith in
      let some = count_of-some (get_or rings prio ring).items i place found in
      let part =
      get_or-le-sum_by (λ (r : Buffer ℕ). count_of r.items place) rings prio ring within in
      elim (cases_lt place (length places.items)) [
        | inl inside ↦ inside
        | inr beyond ↦ let none = is.inside place beyond in absurd (omega arith)
      ]

  pub some_room : packet_count (lists_of places.items rings) < room
      → length places.items < length free.items + places.capacity
  some_room few =
      let count = packet_count-rings places.items rings in
      let all = is.all in
      let alike = is.places_alike in
      omega arith

  -- what stands at a place of a list
  pub list-some :
      (prio i place : ℕ) (ring : Buffer ℕ) → prio < 4
      → slice_get (get_or rings prio ring).items i ≡ Some place
      → slice_get (list_at (lists_of places.items rings) prio) i ≡ slice_get places.items place
  list-some prio i place ring few found =
      let four = is.four in
      let within : prio < length rings = omega arith in
      ap (λ packets. slice_get packets i) (list_at-rings places.items rings prio ring within)
      ∙ slice_get-map (stowed_at places.items) (get_or rings prio ring).items i
      ∙ ap (option_map (stowed_at places.items)) found
      ∙ sym (slice_get-get_or places.items place [] (ring-within prio i place ring few found))

  pub list-none :
      (prio i : ℕ) (ring : Buffer ℕ) → prio < 4
      → slice_get (get_or rings prio ring).items i ≡ None
      → slice_get (list_at (lists_of places.items rings) prio) i ≡ None
  list-none prio i ring few found =
      let four = is.four in
      let within : prio < length rings = omega arith in
      ap (λ packets. slice_get packets i) (list_at-rings places.items rings prio ring within)
      ∙ slice_get-map (stowed_at places.items) (get_or rings prio ring).items i
      ∙ ap (option_map (stowed_at places.items)) found

  -- the place that gets a packet is in no ring
  pub stowed-unused : (packet : List ℕ)
      → uses_of rings (stowed places.items free.items packet).place ≤ 0
  stowed-unused packet = unused places.items free.items packet rings is.once is.inside

  -- a place goes to the end of a ring
  pub ring-pushed :
      (prio place : ℕ) (ring next : Buffer ℕ) → prio < 4
      → packet_count (lists_of places.items rings) < room
      → next ≡ buffer (keep_last (get_or rings prio ring).capacity
      ((get_or rings prio ring).items ++ place ∷ [])) (get_or rings prio ring).capacity
      → next ≡ buffer ((get_or rings prio ring).items ++ place ∷ []) room
  ring-pushed prio place ring next few some pushed =
      let four = is.four in
      let within : prio < length rings = omega arith in
      let count = packet_count-rings places.items rings in
      let part = get_or-le-sum_by (λ (r : Buffer ℕ). length r.items) rings prio ring within in
      let wide = is.alike prio ring within in
      let old = (get_or rings prio ring).items in
      pushed
      ∙ ap (λ items. buffer items (get_or rings prio ring).capacity)
      (keep_last-room old place (get_or rings prio ring).capacity (omega arith))
      ∙ ap (buffer (old ++ place ∷ [])) wide

  -- a packet is put in a place, which goes to the end of a ring
  pub lists_of-put :
      (prio : ℕ) (packet : List ℕ) (ring next : Buffer ℕ) → prio < 4
      → next.items ≡ (get_or rings prio ring).items
      ++ (stowed places.items free.items packet).place ∷ []
      → lists_of (stowed places.items free.items packet).places (set rings prio next)
      ≡ appended (lists_of places.items rings) prio packet
  lists_of-put prio packet ring next few put =
      let four = is.four in
      let within : prio < length rings = omega arith in
      let after = (stowed places.items free.items packet).places in
      let place = (stowed places.items free.items packet).place in
      let in_ring = λ (r : Buffer ℕ). map (stowed_at after) r.items in
      let same = lists_of-same places.items after place rings
      (stowed-other places.items free.items packet) (stowed-unused packet) in
      let old = list_at-rings after rings prio ring within in
      let at_end : map (stowed_at after) next.items
      ≡ map (stowed_at after) (get_or rings prio ring).items ++ packet ∷ [] =
      ap (map (stowed_at after)) put
      ∙ map-append (stowed_at after) (get_or rings prio ring).items (place ∷ [])
      ∙ ap (λ p. map (stowed_at after) (get_or rings prio ring).items ++ p ∷ [])
      (stowed-packet places.items free.items packet
      (λ first found. subst (λ n. n < length places.items)
      (get_or_from_slice_get free.items 0 first 0 found)
      (free-within 0 0 (slice_get_within free.items 0 first found)))) in
      map-set in_ring rings prio next
      ∙ ap (set (lists_of after rings) prio)
      (at_end ∙ ap (λ packets. packets ++ packet ∷ []) (sym old))
      ∙ ap (λ lists. set lists prio (list_at lists prio ++ packet ∷ [])) same

  pub AreRings-put :
      (prio : ℕ) (packet : List ℕ) (ring next : Buffer ℕ) → prio < 4
      → packet_count (lists_of places.items rings) < room
      → next.items ≡ (get_or rings prio ring).items
      ++ (stowed places.items free.items packet).place ∷ []
      → next.capacity ≡ room
      → AreRings (record places { items = (stowed places.items free.items packet).places })
      (record free { items = (stowed places.items free.items packet).free }) (set rings prio next)
      room
  AreRings-put prio packet ring next few some put alike =
      let four = is.four in
      let within : prio < length rings = omega arith in
      let place = (stowed places.items free.items packet).place in
      let count = packet_count-rings places.items rings in
      let more = sum_by-set (λ (r : Buffer ℕ). length r.items) rings prio next ring within in
      let longer = ap length put ∙ length-append (get_or rings prio ring).items (place ∷ []) in
      let long = length-stowed places.items free.items packet in
      let all = is.all in
      let uses : (other : ℕ) → uses_of (set rings prio next) other
      ≡ uses_of rings other + cond (place == other) 1 0 =
      λ other.
      (let moved = sum_by-set (λ (r : Buffer ℕ). count_of r.items other) rings prio next ring
      within in
      let counted = ap (λ items. count_of items other) put
      ∙ count_of-append (get_or rings prio ring).items (place ∷ []) other in
      let last = count_of-cons place [] other in
      omega arith) in
      record {
        four = length-set rings prio next ∙ four;
        alike = All-set (λ (r : Buffer ℕ). r.capacity ≡ room) rings prio next alike is.alike;
        free_alike = is.free_alike;
        places_alike = is.places_alike;
        once = λ other. once-stowed places.items free.items packet rings other _ is.once is.inside
            (uses other);
        inside = λ other beyond. inside-stowed places.items free.items packet rings other _
            is.inside (uses other) beyond;
        all = omega arith;
        within = within-stowed places.items free.items packet room is.within
            (λ no_free. omega arith);
        few = is.few;
      }

  -- a place leaves the front of a ring, and is free
  pub lists_of-pop :
      (prio : ℕ) (ring next : Buffer ℕ) → prio < 4
      → next.items ≡ drop 1 (get_or rings prio ring).items
      → lists_of places.items (set rings prio next) ≡ popped (lists_of places.items rings) prio
  lists_of-pop prio ring next few taken =
      let four = is.four in
      let within : prio < length rings = omega arith in
      map-set (λ (r : Buffer ℕ). map (stowed_at places.items) r.items) rings prio next
      ∙ ap (set (lists_of places.items rings) prio)
      (ap (map (stowed_at places.items)) taken
      ∙ sym (drop-map (stowed_at places.items) 1 (get_or rings prio ring).items)
      ∙ ap (drop 1) (sym (list_at-rings places.items rings prio ring within)))

  -- free places have room
  pub free-room :
      (prio place : ℕ) (ring : Buffer ℕ) → prio < 4
      → slice_get (get_or rings prio ring).items 0 ≡ Some place
      → length free.items < free.capacity
  free-room prio place ring few found =
      let four = is.four in
      let within : prio < length rings = omega arith in
      let some = slice_get_within (get_or rings prio ring).items 0 place found in
      let part = get_or-le-sum_by (λ (r : Buffer ℕ). length r.items) rings prio ring within in
      let all = is.all in
      let most = is.within in
      let alike = is.free_alike in
      omega arith

  pub AreRings-pop :
      (prio place : ℕ) (ring next : Buffer ℕ) (next_free : Buffer ℕ) → prio < 4
      → slice_get (get_or rings prio ring).items 0 ≡ Some place
      → next.items ≡ drop 1 (get_or rings prio ring).items
      → next.capacity ≡ room
      → next_free.items ≡ free.items ++ place ∷ []
      → next_free.capacity ≡ free.capacity
      → AreRings places next_free (set rings prio next) room
  AreRings-pop prio place ring next next_free few found taken alike put as_before =
      let four = is.four in
      let within : prio < length rings = omega arith in
      let all = is.all in
      let some = slice_get_within (get_or rings prio ring).items 0 place found in
      let fewer = sum_by-set (λ (r : Buffer ℕ). length r.items) rings prio next ring within in
      let shorter = ap length taken ∙ length-drop 1 (get_or rings prio ring).items in
      let longer = ap length put ∙ length-append free.items (place ∷ []) in
      let uses : (other : ℕ) → uses_of (set rings prio next) other + count_of next_free.items other
      ≡ uses_of rings other + count_of free.items other =
      λ other.
      (let moved = sum_by-set (λ (r : Buffer ℕ). count_of r.items other) rings prio next ring
      within in
      let left = ap (λ items. count_of items other) taken in
      let first = count_of-first (get_or rings prio ring).items place other found in
      let counted = ap (λ items. count_of items other) put
      ∙ count_of-append free.items (place ∷ []) other in
      let last = count_of-cons place [] other in
      omega arith) in
      record {
        four = length-set rings prio next ∙ four;
        alike = All-set (λ (r : Buffer ℕ). r.capacity ≡ room) rings prio next alike is.alike;
        free_alike = as_before ∙ is.free_alike;
        places_alike = is.places_alike;
        once = λ other. (let same = uses other in let before = is.once other in omega arith);
        inside = λ other beyond.
            (let same = uses other in let before = is.inside other beyond in omega arith);
        all = omega arith;
        within = is.within;
        few = is.few;
      }

  -- the same of the whole buffers
  pub AreRings-popped :
      (prio place : ℕ) (ring next next_free : Buffer ℕ) → prio < 4
      → slice_get (get_or rings prio ring).items 0 ≡ Some place
      → next ≡ buffer (drop 1 (get_or rings prio ring).items) (get_or rings prio ring).capacity
      → next_free ≡ buffer (keep_last free.capacity (free.items ++ place ∷ [])) free.capacity
      → AreRings places next_free (set rings prio next) room
  AreRings-popped prio place ring next next_free few found taken put =
      let four = is.four in
      let within : prio < length rings = omega arith in
      let some = free-room prio place ring few found in
      AreRings-pop prio place ring next next_free few found
      (ap (λ (b : Buffer ℕ). b.items) taken)
      (ap (λ (b : Buffer ℕ). b.capacity) taken ∙ is.alike prio ring within)
      (ap (λ (b : Buffer ℕ). b.items) put ∙ keep_last-room free.items place free.capacity some)
      (ap (λ (b : Buffer ℕ). b.capacity) put)
