-- Where a maintenance packet has its hop count, its CRC and its pad.
use Rattle.std.proofs.Common.{◌≡◌, ℕ, ◌+◌, ◌-◌, ◌/◌, ◌%◌, ◌≤◌, ◌==◌, ◌&&◌, Bool, true, false, nat_le, List, [], ◌∷◌, length, get_or, refl, sym, ap, ◌∙◌, subst, inl, inr, arith, eqb-true, eq-eqb, leb-true, length-append, if◌then◌else◌}
use Rattle.std.proofs.lemmas.Bool.{and_parts, cases_eq, false≢true}
use Rattle.std.proofs.lemmas.List.{get_or_past}
use Rattle.rio_packets.specs.Register.{running}
use Rattle.rio_packets.specs.LinkForm.{padded}
use Rattle.rio_packets.specs.Hops.{closed, message_ended, is_large}
use Rattle.rio_packets.specs.Fields.{ftype_of, tt_of, is_maintenance, is_maintenance_length, has_maintenance_form, is_padded_form, hop_place, crc_place}
use Rattle.rio_packets.proofs.StepLaws.{closed-is}
use Rattle.rio_packets.proofs.PadLaws.{padded-fours, padded-other}

pub record Size (n : ℕ) : Type 0 where
  pub rest : n % 8 ≡ 4
  pub least : 12 ≤ n
  pub most : n ≤ 76

size_of : (n : ℕ) → is_maintenance_length n ≡ true → Size n
size_of n e =
    let one = and_parts (n % 8 == 4) (nat_le 12 n && nat_le n 76) e in
    let two = and_parts (nat_le 12 n) (nat_le n 76) one.1 in
    record {
      rest = eqb-true (n % 8) 4 one.0;
      least = leb-true 12 n two.0;
      most = leb-true n 76 two.1;
    }

form_known : (bytes : List ℕ) → is_maintenance bytes ≡ true → has_maintenance_form bytes ≡ true
form_known bytes e = (and_parts (ftype_of bytes == 8) (has_maintenance_form bytes) e).1

form_small : (bytes : List ℕ) → tt_of bytes ≡ 0 → has_maintenance_form bytes ≡ true
    → is_maintenance_length (length bytes) ≡ true
form_small bytes small form =
    subst
    (λ b. (if b then is_maintenance_length (length bytes)
    else ((tt_of bytes == 1) && is_padded_form bytes)) ≡ true)
    (eq-eqb (tt_of bytes) 0 small) form

form_other : (bytes : List ℕ) → (tt_of bytes == 0) ≡ false → has_maintenance_form bytes ≡ true
    → (tt_of bytes ≡ 1) × (is_padded_form bytes ≡ true)
form_other bytes other form =
    let both = and_parts (tt_of bytes == 1) (is_padded_form bytes)
    (subst
    (λ b. (if b then is_maintenance_length (length bytes)
    else ((tt_of bytes == 1) && is_padded_form bytes)) ≡ true) other form) in
    (eqb-true (tt_of bytes) 1 both.0, both.1)

-- the length of a maintenance packet with one-byte IDs
pub maintenance_size : (bytes : List ℕ) → tt_of bytes ≡ 0 → is_maintenance bytes ≡ true
    → Size (length bytes)
maintenance_size bytes small e =
    size_of (length bytes) (form_small bytes small (form_known bytes e))

-- Where the CRC is, and what it leaves before and behind it.
pub record Places (large : Bool) (bytes : List ℕ) (hop crc : ℕ) : Type 0 where
  pub fours : length bytes % 4 ≡ 0
  pub even : crc % 2 ≡ 0
  pub least : 6 ≤ hop
  pub between : hop + 4 ≤ crc
  pub most : crc ≤ 76
  pub behind : crc + 2 ≤ length bytes
  pub zeros : (k : ℕ) → crc + 2 ≤ k → get_or bytes k 0 ≡ 0
  pub total : (m : List ℕ) → length m ≡ crc → length (message_ended large m) ≡ length bytes
  pub whole : (m : List ℕ) → length m ≡ crc → message_ended large m ≡ padded (closed m)

length-closed : (m : List ℕ) → length (closed m) ≡ length m + 2
length-closed m =
    ap length (closed-is m) ∙ length-append m (running m / 256 ∷ running m % 256 ∷ [])

small_places : (bytes : List ℕ) → Size (length bytes) → Places false bytes 6 (length bytes - 2)
small_places bytes size =
    let rest = size.rest in let least = size.least in let most = size.most in
    record {
      fours = omega arith;
      even = omega arith;
      least = omega arith;
      between = omega arith;
      most = omega arith;
      behind = omega arith;
      zeros = λ k. λ beyond. get_or_past bytes k 0 (omega arith);
      total = λ m. λ short. let closes = length-closed m in omega arith;
      whole =
          λ m. λ short. let closes = length-closed m in
          sym (padded-fours (closed m) (omega arith));
    }

-- the last two bytes are 0
pub record Pad (bytes : List ℕ) : Type 0 where
  pub size : Size (length bytes - 4)
  pub last_but_one : get_or bytes (length bytes - 2) 0 ≡ 0
  pub last : get_or bytes (length bytes - 1) 0 ≡ 0

pad_of : (bytes : List ℕ) → is_padded_form bytes ≡ true → Pad bytes
pad_of bytes e =
    let a = is_maintenance_length (length bytes - 4) in
    let b = get_or bytes (length bytes - 2) 0 == 0 in
    let c = get_or bytes (length bytes - 1) 0 == 0 in
    let one = and_parts a (b && c) e in
    let two = and_parts b c one.1 in
    record {
      size = size_of (length bytes - 4) one.0;
      last_but_one = eqb-true (get_or bytes (length bytes - 2) 0) 0 two.0;
      last = eqb-true (get_or bytes (length bytes - 1) 0) 0 two.1;
    }

large_zeros : (bytes : List ℕ) → Pad bytes → (k : ℕ) → length bytes - 4 + 2 ≤ k
    → get_or bytes k 0 ≡ 0
large_zeros bytes pad k beyond =
    let least = pad.size.least in
    elim (cases_eq k (length bytes - 2)) [
      | inl first ↦ ap (λ i. get_or bytes i 0) first ∙ pad.last_but_one
      | inr other ↦ elim (cases_eq k (length bytes - 1)) [
        | inl second ↦ ap (λ i. get_or bytes i 0) second ∙ pad.last
        | inr past ↦ get_or_past bytes k 0 (omega arith)
      ]
    ]

large_places : (bytes : List ℕ) → Pad bytes → Places true bytes 8 (length bytes - 4)
large_places bytes pad =
    let rest = pad.size.rest in let least = pad.size.least in let most = pad.size.most in
    record {
      fours = omega arith;
      even = omega arith;
      least = omega arith;
      between = omega arith;
      most = omega arith;
      behind = omega arith;
      zeros = large_zeros bytes pad;
      total =
          λ m. λ short. let closes = length-closed m in
          length-append (closed m) (0 ∷ 0 ∷ []) ∙ omega arith;
      whole =
          λ m. λ short. let closes = length-closed m in
          sym (padded-other (closed m) (λ fours. omega (arith, fours)));
    }

-- the places of a maintenance packet of either size
pub places : (bytes : List ℕ) → is_maintenance bytes ≡ true
    → Places (is_large bytes) bytes (hop_place bytes) (crc_place bytes)
places bytes e =
    let form = form_known bytes e in
    by_type (is_large bytes) refl (tt_of bytes == 0) refl form
  where
    by_type : (b : Bool) → is_large bytes ≡ b → (c : Bool) → (tt_of bytes == 0) ≡ c
        → has_maintenance_form bytes ≡ true
        → Places b bytes ((if b then 6 else 4) + 2) (length bytes - (if b then 4 else 2))
    by_type false small true none form =
        small_places bytes
        (size_of (length bytes) (form_small bytes (eqb-true (tt_of bytes) 0 none) form))
    by_type false small false other form =
        let one = (form_other bytes other form).0 in
        absurd (false≢true (sym small ∙ eq-eqb (tt_of bytes) 1 one))
    by_type true large true none form =
        let zero_type = eqb-true (tt_of bytes) 0 none in
        let one = eqb-true (tt_of bytes) 1 large in
        absurd (omega arith)
    by_type true large false other form =
        large_places bytes (pad_of bytes (form_other bytes other form).1)
