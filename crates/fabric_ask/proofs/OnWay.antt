-- A packet that carries a request or a response is one on its way.
use Rattle.fabric_ask.proofs.Prelude.{◌≡◌, ℕ, ◌==◌, ◌&&◌, ◌||◌, nat_lt, Bool, true, false, List, length, Option, Some, None, unwrap_or, refl, sym, ap, ◌∙◌, subst, ◌+◌, ◌<◌, ◌⊎◌, inl, inr, arith, if◌then◌else◌, eqb-true, slice_index, and_parts, same_Some, tt_of, ftype_of, ttype_of, dest_of, hop_of, half_word_at, ids_end, hop_place, is_maintenance, is_maintenance_length, is_padded_form, is_request, is_large, Passes, word_at, is_status, places, Request, Response, low_half_of, short_length, long_length, request_of, is_with_data, is_without_data, with_words, response_of, IsOn}

-- a maintenance packet has a destination
dest_there : (packet : List ℕ) → is_maintenance packet ≡ true
    → dest_of packet ≡ Some (unwrap_or (dest_of packet) 0)
dest_there packet is = by_tests (ftype_of packet == 8) (tt_of packet == 0) (tt_of packet == 1) is
  where
    small : ℕ
    small = slice_index packet 2

    large : ℕ
    large = half_word_at packet 2

    by_tests : (eight zero one : Bool) → (eight && (if zero
        then is_maintenance_length (length packet) else (one && is_padded_form packet))) ≡ true
        → (if zero then Some small else (if one then Some large else None))
        ≡ Some (unwrap_or (if zero then Some small else (if one then Some large else None)) 0)
    by_tests eight true one e = refl
    by_tests eight false true e = refl
    by_tests true false false e = absurd cc
    by_tests false false false e = absurd cc

-- and a hop count
pub hop_there : (packet : List ℕ) → is_maintenance packet ≡ true
    → hop_of packet ≡ Some (slice_index packet (hop_place packet))
hop_there packet is = ap (λ b. if b then Some (slice_index packet (hop_place packet)) else None) is

pub asks : (packet : List ℕ) (request : Request) → request_of packet ≡ Some request
    → is_request packet ≡ true
asks packet request is = by_test (is_request packet) _ is
  where
    by_test : (t : Bool) (own : Request) → (if t then Some own else None) ≡ Some request → t ≡ true
    by_test true own e = refl
    by_test false own e = absurd cc

some_request : (packet : List ℕ) (request : Request) → request_of packet ≡ Some request
    → (unwrap_or (dest_of packet) 0 ≡ request.dest)
    × (slice_index packet (hop_place packet) ≡ request.hop)
some_request packet request is = by_test (is_request packet) refl
  where
    inside : (a : Request) → Some a ≡ Some request → a ≡ request
    inside a e = cc

    by_test : (t : Bool) → is_request packet ≡ t → (unwrap_or (dest_of packet) 0 ≡ request.dest)
        × (slice_index packet (hop_place packet) ≡ request.hop)
    by_test true e = let own = inside _ (rw e at is) in
        (ap (λ (r : Request). r.dest) own, ap (λ (r : Request). r.hop) own)
    by_test false e = let bad : None ≡ Some request = rw e at is in absurd cc

pub on_request : (packet : List ℕ) (request : Request) → Passes packet
    → request_of packet ≡ Some request → IsOn packet request.dest request.hop
on_request packet request passes is =
    let own = some_request packet request is in
    let kind = (and_parts (is_maintenance packet) (nat_lt (ttype_of packet) 2)
    (asks packet request is)).0 in
    record {
      passes = passes;
      maintenance = kind;
      goal = dest_there packet kind ∙ ap Some own.0;
      hop = hop_there packet kind ∙ ap Some own.1;
    }

-- ---- a response

-- what a packet is that carries this response
pub record IsResponse (packet : List ℕ) (response : Response) : Type 0 where
  pub maintenance : is_maintenance packet ≡ true
  pub dest : unwrap_or (dest_of packet) 0 ≡ response.dest
  pub hop : slice_index packet (hop_place packet) ≡ response.hop
  pub kind : (ttype_of packet ≡ 2) ⊎ (ttype_of packet ≡ 3)

data_kind : (packet : List ℕ) → is_with_data packet ≡ true → ttype_of packet ≡ 2
data_kind packet is = eqb-true (ttype_of packet) 2
    (and_parts (ttype_of packet == 2) ((low_half_of packet == 0)
    && (length packet == long_length (is_large packet))) is).0

no_data_kind : (packet : List ℕ) → is_without_data packet ≡ true
    → (ttype_of packet ≡ 2) ⊎ (ttype_of packet ≡ 3)
no_data_kind packet is = by_tests (ttype_of packet == 2) (ttype_of packet == 3) refl refl
    (and_parts (length packet == short_length (is_large packet)) _ is).1
  where
    by_tests : (read write : Bool) → (ttype_of packet == 2) ≡ read
        → (ttype_of packet == 3) ≡ write
        → ((read && (low_half_of packet == 7)) || (write && is_status (low_half_of packet))) ≡ true
        → (ttype_of packet ≡ 2) ⊎ (ttype_of packet ≡ 3)
    by_tests true write one two e = inl (eqb-true (ttype_of packet) 2 one)
    by_tests false true one two e = inr (eqb-true (ttype_of packet) 3 two)
    by_tests false false one two e = absurd cc

some_response : (packet : List ℕ) (response : Response) → response_of packet ≡ Some response
    → IsResponse packet response
some_response packet response is =
    by_tests (is_maintenance packet) (is_with_data packet) (is_without_data packet) refl refl refl
    is
  where
    words : Option (ℕ × ℕ)
    words = Some (word_at packet (ids_end packet + 6), word_at packet (ids_end packet + 10))

    same : (other : Option (ℕ × ℕ)) → Some (with_words packet other) ≡ Some response
        → with_words packet other ≡ response
    same other e = cc

    known : is_maintenance packet ≡ true → (other : Option (ℕ × ℕ))
        → Some (with_words packet other) ≡ Some response
        → (ttype_of packet ≡ 2) ⊎ (ttype_of packet ≡ 3) → IsResponse packet response
    known maintenance other e kind =
        let own = same other e in
        record {
          maintenance = maintenance;
          dest = ap (λ (r : Response). r.dest) own;
          hop = ap (λ (r : Response). r.hop) own;
          kind = kind;
        }

    by_tests : (maintenance filled none : Bool) → is_maintenance packet ≡ maintenance
        → is_with_data packet ≡ filled → is_without_data packet ≡ none
        → (if maintenance then (if filled then Some (with_words packet words)
        else (if none then Some (with_words packet None) else None)) else None) ≡ Some response
        → IsResponse packet response
    by_tests false filled none a b c at = absurd cc
    by_tests true false false a b c at = absurd cc
    by_tests true false true a b c at = known a None at (no_data_kind packet c)
    by_tests true true none a b c at = known a words at (inl (data_kind packet b))

pub on_response : (packet : List ℕ) (response : Response) → Passes packet
    → response_of packet ≡ Some response → IsOn packet response.dest response.hop
on_response packet response passes is =
    let own = some_response packet response is in
    record {
      passes = passes;
      maintenance = own.maintenance;
      goal = dest_there packet own.maintenance ∙ ap Some own.dest;
      hop = hop_there packet own.maintenance ∙ ap Some own.hop;
    }

-- it asks for nothing
pub response_asks : (packet : List ℕ) (response : Response) → response_of packet ≡ Some response
    → is_request packet ≡ false
response_asks packet response is =
    let own = some_response packet response is in
    ap (λ m. m && nat_lt (ttype_of packet) 2) own.maintenance ∙ by_kind own.kind
  where
    by_kind : (ttype_of packet ≡ 2) ⊎ (ttype_of packet ≡ 3) → nat_lt (ttype_of packet) 2 ≡ false
    by_kind (inl read) = ap (λ n. nat_lt n 2) read
    by_kind (inr write) = ap (λ n. nat_lt n 2) write

-- a response has the hop count of its packet
pub hop_read : (packet : List ℕ) (response : Response) (left : ℕ)
    → response_of packet ≡ Some response → hop_of packet ≡ Some left → response.hop ≡ left
hop_read packet response left is hop =
    let own = some_response packet response is in
    same_Some response.hop left
    (ap Some (sym own.hop) ∙ sym (hop_there packet own.maintenance) ∙ hop)

-- a hop count is a byte
pub hop_low : (packet : List ℕ) (dest hops : ℕ) → IsOn packet dest hops → hops < 256
hop_low packet dest hops on =
    let spaces = places packet on.maintenance in
    let between = spaces.between in
    let behind = spaces.behind in
    let byte = on.passes.range (hop_place packet) 0 (omega (arith, between, behind)) in
    subst (λ n. n < 256)
    (same_Some _ hops (sym (hop_there packet on.maintenance) ∙ on.hop)) byte
