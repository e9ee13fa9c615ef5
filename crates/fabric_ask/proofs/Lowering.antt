-- A request or a response as it moves on.
use Rattle.fabric_ask.proofs.Prelude.{◌≡◌, ℕ, zero, suc, ◌+◌, ◌-◌, ◌/◌, ◌%◌, ◌<◌, ◌≤◌, ◌==◌, ◌&&◌, Bool, true, false, List, length, Option, Some, None, option_map, unwrap_or, refl, sym, ap, ◌∙◌, arith, if◌then◌else◌, MatchBool, eqb-true, slice_index, and_parts, same_Some, prio_of, tt_of, ttype_of, dest_of, source_of, hop_of, ids_end, hop_place, crc_place, is_maintenance, is_request, Lowered, is_large, word_at, Places, places, Read, Write, BadRead, BadWrite, Request, Response, offset_of, tid_of, low_half_of, short_length, long_length, names_second, value_in, has_form, op_of, request_of, is_with_data, is_without_data, with_words, response_of, IsAfterMoves, MovesTo, AsItWas, OnceMore}
use Rattle.fabric_ask.proofs.OnWay.{hop_there}

-- ---- a request or a response as it moves on

-- a response, whatever its hop count
abbrev pub unhopped : Response → Response
unhopped response = record response { hop = 0 }

abbrev pub anyhow : Request → Request
anyhow request = record request { hop = 0 }

module _ (old new : List ℕ) (low : Lowered old new) where
  spaces : Places (is_large old) old (hop_place old) (crc_place old)
  spaces = places old low.was

  -- what stands before the hop count, and what between that and the CRC
  byte : (k : ℕ) → k < hop_place old → slice_index new k ≡ slice_index old k
  byte k below =
      let between = spaces.between in
      low.others k (omega (arith, below)) (omega (arith, below, between))
      (omega (arith, below, between))

  late : (k : ℕ) → hop_place old < k → k < crc_place old → slice_index new k ≡ slice_index old k
  late k above below =
      low.others k (omega (arith, above)) (omega (arith, below)) (omega (arith, below))

  front : (k : ℕ) → k < 6 → slice_index new k ≡ slice_index old k
  front k below = let least = spaces.least in byte k (omega (arith, below, least))

  ends_same : ids_end new ≡ ids_end old
  ends_same = ap (λ t. if t == 1 then 6 else 4) low.same_type

  large_same : is_large new ≡ is_large old
  large_same = ap (λ t. t == 1) low.same_type

  head : (k : ℕ) → k < 2 → slice_index new (ids_end new + k) ≡ slice_index old (ids_end old + k)
  head k below =
      ap (λ e. slice_index new (e + k)) ends_same
      ∙ byte (ids_end old + k) (omega (arith, below))

  tail : (k : ℕ) → 2 < k → ids_end old + k < crc_place old
      → slice_index new (ids_end new + k) ≡ slice_index old (ids_end old + k)
  tail k above below =
      ap (λ e. slice_index new (e + k)) ends_same
      ∙ late (ids_end old + k) (omega (arith, above)) below

  type_byte : slice_index new (ids_end new) ≡ slice_index old (ids_end old)
  type_byte = ap (λ e. slice_index new e) ends_same ∙ byte (ids_end old) (omega arith)

  pub dest_same : dest_of new ≡ dest_of old
  dest_same =
      let two = front 2 (omega arith) in
      let three = front 3 (omega arith) in
      rw (low.same_type, two, three) refl

  source_same : source_of new ≡ source_of old
  source_same =
      let three = front 3 (omega arith) in
      let four = front 4 (omega arith) in
      let five = front 5 (omega arith) in
      rw (low.same_type, three, four, five) refl

  -- the hop count is one less
  pub hop_less : (h : ℕ) → hop_of old ≡ Some (suc h) → hop_of new ≡ Some h
  hop_less h was =
      let place : hop_place new ≡ hop_place old = ap (λ e. e + 2) ends_same in
      let count : slice_index old (hop_place old) ≡ suc h =
      same_Some _ (suc h) (sym (hop_there old low.was) ∙ was) in
      let one = low.hop in
      let less : slice_index new (hop_place old) ≡ h = omega (arith, one, count) in
      hop_there new low.is ∙ ap Some (ap (λ k. slice_index new k) place ∙ less)

  type_same : ttype_of new ≡ ttype_of old
  type_same = ap (λ b. b / 16) type_byte

  request_same : is_request new ≡ is_request old
  request_same = rw (low.was, low.is, type_same) refl

  offset_same : offset_of new ≡ offset_of old
  offset_same =
      let between = spaces.between in
      let three = tail 3 (omega arith) (omega (arith, between)) in
      let four = tail 4 (omega arith) (omega (arith, between)) in
      let five = tail 5 (omega arith) (omega (arith, between)) in
      rw (three, four, five) refl

  half_same : low_half_of new ≡ low_half_of old
  half_same = ap (λ b. b % 16) type_byte

  form_same : (long : ℕ) → has_form new long ≡ has_form old long
  form_same long = rw (half_same, low.same_length) refl

  word_same : (k : ℕ) → 2 < k → ids_end old + k + 3 < crc_place old
      → word_at new (ids_end new + k) ≡ word_at old (ids_end old + k)
  word_same k above below =
      let at = ids_end old + k in
      let a = late at (omega (arith, above)) (omega (arith, below)) in
      let b = late (at + 1) (omega (arith, above)) (omega (arith, below)) in
      let c = late (at + 2) (omega (arith, above)) (omega (arith, below)) in
      let d = late (at + 3) (omega (arith, above)) (omega (arith, below)) in
      ap (λ e. word_at new (e + k)) ends_same ∙ rw (a, b, c, d) refl

  -- two words of data stand before the CRC
  long_fits : length old ≡ long_length (is_large old) → ids_end old + 14 ≤ crc_place old
  long_fits is = by_size (tt_of old == 1) is
    where
      by_size : (b : Bool) → length old ≡ long_length b
          → (if b then 6 else 4) + 14 ≤ length old - (if b then 4 else 2)
      by_size true is = omega (arith, is)
      by_size false is = omega (arith, is)

  value_same : length old ≡ long_length (is_large old) → value_in new ≡ value_in old
  value_same is =
      ap (λ o. word_at new (ids_end new + (if names_second o then 10 else 6))) offset_same
      ∙ by_half (names_second (offset_of old))
    where
      by_half : (second : Bool) → word_at new (ids_end new + (if second then 10 else 6))
          ≡ word_at old (ids_end old + (if second then 10 else 6))
      by_half true = let fits = long_fits is in word_same 10 (omega arith) (omega (arith, fits))
      by_half false = let fits = long_fits is in word_same 6 (omega arith) (omega (arith, fits))

  abbrev short_old : ℕ
  short_old = short_length (is_large old)

  abbrev long_old : ℕ
  long_old = long_length (is_large old)

  write_same : (b : Bool) → has_form old long_old ≡ b
      → (if b then Write (value_in new) else BadWrite)
      ≡ (if b then Write (value_in old) else BadWrite)
  write_same true is = ap Write (value_same (eqb-true (length old) long_old
      (and_parts (low_half_of old == 8) (length old == long_old) is).1))
  write_same false is = refl

  op_same : op_of new ≡ op_of old
  op_same =
      let short = ap (λ b. has_form new (short_length b)) large_same ∙ form_same short_old in
      let long = ap (λ b. has_form new (long_length b)) large_same ∙ form_same long_old in
      let write = write_same (has_form old long_old) refl in
      (λ i. if type_same i == 0 then (if short i then Read else BadRead) else
      (if long i then Write (value_in new) else BadWrite))
      ∙ (λ i. if ttype_of old == 0 then (if has_form old short_old then Read else BadRead) else
      write i)

  -- a request with these fields
  abbrev with_hop : ℕ → Request
  with_hop hop = record {
    prio = prio_of old;
    dest = unwrap_or (dest_of old) 0;
    source = unwrap_or (source_of old) 0;
    large = is_large old;
    op = op_of old;
    tid = tid_of old;
    hop = hop;
    offset = offset_of old;
  }

  anyhow_same : option_map anyhow (request_of new) ≡ option_map anyhow (request_of old)
  anyhow_same =
      let one = front 1 (omega arith) in
      let tid = head 1 (omega arith) in
      (λ i. option_map anyhow (if request_same i then Some
      (record {
        prio = one i / 64;
        dest = unwrap_or (dest_same i) 0;
        source = unwrap_or (source_same i) 0;
        large = large_same i;
        op = op_same i;
        tid = tid i;
        hop = slice_index new (hop_place new);
        offset = offset_same i;
      }) else None))
      ∙ by_test (is_request old)
    where
      by_test : (b : Bool) → option_map anyhow
          (if b then Some (with_hop (slice_index new (hop_place new))) else None)
          ≡ option_map anyhow
          (if b then Some (with_hop (slice_index old (hop_place old))) else None)
      by_test true = refl
      by_test false = refl

  long_same : (length new == long_length (is_large new)) ≡ (length old == long_old)
  long_same = rw (low.same_length, large_same) refl

  short_same : (length new == short_length (is_large new)) ≡ (length old == short_old)
  short_same = rw (low.same_length, large_same) refl

  data_same : is_with_data new ≡ is_with_data old
  data_same = rw (type_same, half_same, long_same) refl

  no_data_same : is_without_data new ≡ is_without_data old
  no_data_same = rw (type_same, half_same, short_same) refl

  abbrev first_at : List ℕ → ℕ
  first_at bytes = word_at bytes (ids_end bytes + 6)

  abbrev second_at : List ℕ → ℕ
  second_at bytes = word_at bytes (ids_end bytes + 10)

  words_same : length old ≡ long_old
      → (first_at new ≡ first_at old) × (second_at new ≡ second_at old)
  words_same is =
      let fits = long_fits is in (
        word_same 6 (omega arith) (omega (arith, fits)),
        word_same 10 (omega arith) (omega (arith, fits)),
      )

  with_same : (first second : Option (ℕ × ℕ)) → first ≡ second
      → unhopped (with_words new first) ≡ unhopped (with_words old second)
  with_same first second same =
      let one = front 1 (omega arith) in
      let tid = head 1 (omega arith) in
      λ i. record {
        prio = one i / 64;
        dest = unwrap_or (dest_same i) 0;
        source = unwrap_or (source_same i) 0;
        large = large_same i;
        write = type_same i == 3;
        status = half_same i;
        tid = tid i;
        hop = 0;
        words = same i;
      }

  response_same : option_map unhopped (response_of new) ≡ option_map unhopped (response_of old)
  response_same = by_data (is_with_data old) refl
    where
      by_none : (b : Bool) → is_without_data old ≡ b → is_with_data old ≡ false
          → option_map unhopped (response_of new) ≡ option_map unhopped (response_of old)
      by_none true is other =
          let data_is = data_same ∙ other in
          let none = no_data_same ∙ is in
          rw (low.was, low.is, other, data_is, is, none) (ap Some (with_same None None refl))
      by_none false is other =
          let data_is = data_same ∙ other in
          let none = no_data_same ∙ is in
          rw (low.was, low.is, other, data_is, is, none) refl

      by_data : (b : Bool) → is_with_data old ≡ b
          → option_map unhopped (response_of new) ≡ option_map unhopped (response_of old)
      by_data true is =
          let data_is = data_same ∙ is in
          let size : length old ≡ long_old = eqb-true (length old) long_old
          (and_parts (low_half_of old == 0) (length old == long_old)
          (and_parts (ttype_of old == 2)
          ((low_half_of old == 0) && (length old == long_old)) is).1).1 in
          let both = words_same size in
          rw (low.was, low.is, is, data_is)
          (ap Some (with_same (Some (first_at new, second_at new))
          (Some (first_at old, second_at old)) (λ i. Some (both.0 i, both.1 i))))
      by_data false is = by_none (is_without_data old) refl is

one_move : (old new : List ℕ) → MovesTo old new
    → (option_map anyhow (request_of new) ≡ option_map anyhow (request_of old))
    × (is_request new ≡ is_request old)
one_move old new moves = by_kind (is_maintenance old) moves
  where
    by_kind : (b : Bool) → MatchBool b (Lowered old new) (new ≡ old)
        → (option_map anyhow (request_of new) ≡ option_map anyhow (request_of old))
        × (is_request new ≡ is_request old)
    by_kind true low = (anyhow_same old new low, request_same old new low)
    by_kind false same = (ap (λ p. option_map anyhow (request_of p)) same, ap is_request same)

-- two packets carry the same request, but for its hop count, or neither carries one
abbrev pub IsSameRequest : List ℕ → List ℕ → Type 0
IsSameRequest old new = (option_map anyhow (request_of new) ≡ option_map anyhow (request_of old))
    × (is_request new ≡ is_request old)

moves_then : {old mid : List ℕ} (new : List ℕ) {n : ℕ} → IsAfterMoves old n mid → MovesTo mid new
    → IsSameRequest old mid → IsSameRequest old new
moves_then {old} {mid} new before last more = let one = one_move mid new last in
    (one.0 ∙ more.0, one.1 ∙ more.1)

-- whatever moves on stays the same request, but for its hop count
pub moves_same : (old new : List ℕ) (n : ℕ) → IsAfterMoves old n new → IsSameRequest old new
moves_same old new zero AsItWas = (refl, refl)
moves_same old new (suc n) (OnceMore before last) =
    moves_then new before last (moves_same old _ n before)

one_response : (old new : List ℕ) → MovesTo old new
    → option_map unhopped (response_of new) ≡ option_map unhopped (response_of old)
one_response old new moves = by_kind (is_maintenance old) moves
  where
    by_kind : (b : Bool) → MatchBool b (Lowered old new) (new ≡ old)
        → option_map unhopped (response_of new) ≡ option_map unhopped (response_of old)
    by_kind true low = response_same old new low
    by_kind false same = ap (λ p. option_map unhopped (response_of p)) same

responses_then : {old mid : List ℕ} (new : List ℕ) {n : ℕ} → IsAfterMoves old n mid
    → MovesTo mid new
    → option_map unhopped (response_of mid) ≡ option_map unhopped (response_of old)
    → option_map unhopped (response_of new) ≡ option_map unhopped (response_of old)
responses_then {old} {mid} new before last more = one_response mid new last ∙ more

pub responses_same : (old new : List ℕ) (n : ℕ) → IsAfterMoves old n new
    → option_map unhopped (response_of new) ≡ option_map unhopped (response_of old)
responses_same old new zero AsItWas = refl
responses_same old new (suc n) (OnceMore before last) =
    responses_then new before last (responses_same old _ n before)
