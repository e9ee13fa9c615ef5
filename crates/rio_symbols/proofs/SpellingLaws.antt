-- A symbol is spelled by its own three bytes and by no others.
use Rattle.std.proofs.Common.{◌≡◌, ℕ, ◌+◌, ◌*◌, ◌/◌, ◌%◌, ◌^◌, ◌<◌, ◌≤◌, ◌≢◌, Bool, true, false, eqb, nat_lt, List, [], ◌∷◌, ◌++◌, length, get_or, lit≤, cond, Some, None, refl, sym, ◌∙◌, ap, subst, arith, append_assoc}
use Rattle.std.specs.Prelude.{All}
use Rattle.std.specs.List.{flat_map}
use Rattle.std.proofs.lemmas.List.{append-nil}
use Rattle.std.proofs.lemmas.List.Elements.{All-nil, All-cons, All-head, All-tail}
use Rattle.std.proofs.lemmas.Bool.{and_parts, eq-eqb, eqb-true, lt-ltb, ltb-true}
use Rattle.std.specs.Int.Bits.{bit_and, bit_or}
use Rattle.std.proofs.lemmas.Nat.{and_mask, or_shifted, shl_whole}
use Rattle.crc_division.specs.Bits.{bits}
use Rattle.rio_symbols.specs.Crc5.{field_bits, crc5_of, crc5_value}
use Rattle.rio_symbols.specs.Fields.{Fields, InRange}
use Rattle.rio_symbols.specs.Spelling.{SpellsSymbol, symbol_bytes, fields_at, is_spelling, spelled, spelled_in}
use Rattle.crc_division.proofs.BitsLaws.{bits_cat, same_by_bits}
use Rattle.rio_symbols.proofs.BitLaws.{halves, bits-cancel}
use Rattle.rio_symbols.proofs.CrcLaws.{crc5_value-lt, bits-crc5_value}

-- lists of bytes with the same bits are the same
same_bytes : (xs ys : List ℕ) → All (λ b. b < 256) xs → All (λ b. b < 256) ys
    → flat_map (bits 8) xs ≡ flat_map (bits 8) ys → xs ≡ ys
unfolding bits
same_bytes [] [] p q e = refl
same_bytes [] (y ∷ ys) p q e = cc
same_bytes (x ∷ xs) [] p q e = cc
same_bytes (x ∷ xs) (y ∷ ys) p q e =
    let both = bits-cancel 8 x y (flat_map (bits 8) xs) (flat_map (bits 8) ys) e in
    let first : x ≡ y =
    same_by_bits 8 x y (All-head (λ b. b < 256) x xs p) (All-head (λ b. b < 256) y ys q)
    both.0 in
    let rest : xs ≡ ys =
    same_bytes xs ys (All-tail (λ b. b < 256) x xs p) (All-tail (λ b. b < 256) y ys q) both.1 in
    cc

-- bytes, one by one
three_bytes : (x y z : ℕ) → x < 256 → y < 256 → z < 256 → All (λ b. b < 256) (x ∷ y ∷ z ∷ [])
three_bytes x y z p q r =
    All-cons (λ b. b < 256) x (y ∷ z ∷ []) p
    (All-cons (λ b. b < 256) y (z ∷ []) q (All-cons (λ b. b < 256) z [] r (All-nil (λ b. b < 256))))

-- a symbol in range is spelled by its own bytes
pub spells_own : (symbol : Fields) → InRange symbol → SpellsSymbol symbol (symbol_bytes symbol)
unfolding symbol_bytes field_bits
spells_own symbol range = record {
  in_range = range;
  are_bytes =
      let first : symbol.s0 * 32 + symbol.p0 < 256 = omega (arith, range.s0, range.p0) in
      let second : symbol.p1 * 8 + symbol.s1 < 256 = omega (arith, range.p1, range.s1) in
      let third : symbol.cmd * 32 + crc5_value symbol < 256 =
      omega (arith, range.cmd, crc5_value-lt symbol) in
      three_bytes _ _ _ first second third;
  same_bits =
      let first : bits 8 (symbol.s0 * 32 + symbol.p0) ≡ bits 3 symbol.s0 ++ bits 5 symbol.p0 =
      bits_cat 3 5 symbol.s0 symbol.p0 8 refl range.p0 in
      let second : bits 8 (symbol.p1 * 8 + symbol.s1) ≡ bits 5 symbol.p1 ++ bits 3 symbol.s1 =
      bits_cat 5 3 symbol.p1 symbol.s1 8 refl range.s1 in
      let third : bits 8 (symbol.cmd * 32 + crc5_value symbol)
      ≡ bits 3 symbol.cmd ++ crc5_of symbol =
      bits_cat 3 5 symbol.cmd (crc5_value symbol) 8 refl (crc5_value-lt symbol)
      ∙ ap (λ bs. bits 3 symbol.cmd ++ bs) (bits-crc5_value symbol)
      in
      rw (first, second, third) (simp (append_assoc, append-nil));
}

-- and by no others
pub spelling_only : (symbol : Fields) (bytes : List ℕ) → SpellsSymbol symbol bytes
    → bytes ≡ symbol_bytes symbol
spelling_only symbol bytes s =
    let own = spells_own symbol s.in_range in
    same_bytes bytes (symbol_bytes symbol) s.are_bytes own.are_bytes
    (s.same_bits ∙ sym own.same_bits)

-- three bytes with the right CRC are those of the fields that stand in them
own_bytes : (x y z : ℕ) → z % 32 ≡ crc5_value (fields_at x y z)
    → symbol_bytes (fields_at x y z) ≡ x ∷ y ∷ z ∷ []
unfolding symbol_bytes
own_bytes x y z e =
    let first : x / 32 * 32 + x % 32 ≡ x = omega arith in
    let second : y / 8 * 8 + y % 8 ≡ y = omega arith in
    let third : z / 32 * 32 + crc5_value (fields_at x y z) ≡ z = omega arith in
    cc

-- what a choice that gives a symbol says
chosen : (test : Bool) (here symbol : Fields) → cond test (Some here) None ≡ Some symbol
    → (test ≡ true) × (here ≡ symbol)
chosen true here symbol e = (refl, cc)
chosen false here symbol e = cc

-- what the test says
pub record AreSpelling (x y z : ℕ) : Type 0 where
  pub first : x < 256
  pub second : y < 256
  pub third : z < 256
  pub crc : z % 32 ≡ crc5_value (fields_at x y z)

-- from the test to the facts, and back
pub spelling_from_test : (x y z : ℕ) → is_spelling x y z ≡ true → AreSpelling x y z
unfolding is_spelling
spelling_from_test x y z e =
    let first = and_parts _ _ e in
    let second = and_parts _ _ first.1 in
    let third = and_parts _ _ second.1 in
    record {
      first = ltb-true _ _ first.0;
      second = ltb-true _ _ second.0;
      third = ltb-true _ _ third.0;
      crc = eqb-true _ _ third.1;
    }

pub test_from_spelling : (x y z : ℕ) → AreSpelling x y z → is_spelling x y z ≡ true
unfolding is_spelling
test_from_spelling x y z s =
    let first : nat_lt x 256 ≡ true = lt-ltb _ _ s.first in
    let second : nat_lt y 256 ≡ true = lt-ltb _ _ s.second in
    let third : nat_lt z 256 ≡ true = lt-ltb _ _ s.third in
    let last : eqb (z % 32) (crc5_value (fields_at x y z)) ≡ true = eq-eqb _ _ s.crc in
    rw (first, second, third, last)

-- the fields of bytes are in range
pub fields_at-in_range : (x y z : ℕ) → AreSpelling x y z → InRange (fields_at x y z)
fields_at-in_range x y z s = record {
  s0 = omega (arith, s.first);
  p0 = omega arith;
  p1 = omega (arith, s.second);
  s1 = omega arith;
  cmd = omega (arith, s.third);
}

-- what the decision finds is spelled
pub spelled_some : (x y z : ℕ) (symbol : Fields) → spelled x y z ≡ Some symbol
    → SpellsSymbol symbol (x ∷ y ∷ z ∷ [])
unfolding spelled
spelled_some x y z symbol e =
    let found = chosen (is_spelling x y z) (fields_at x y z) symbol e in
    let holds = spelling_from_test x y z found.0 in
    let here = spells_own (fields_at x y z) (fields_at-in_range x y z holds) in
    let there : SpellsSymbol (fields_at x y z) (x ∷ y ∷ z ∷ []) =
    subst (SpellsSymbol (fields_at x y z)) (own_bytes x y z holds.crc) here in
    subst (λ f. SpellsSymbol f (x ∷ y ∷ z ∷ [])) found.1 there

-- the fields are read back from the bytes
pub fields_at-own : (x y z : ℕ) (symbol : Fields) → InRange symbol
    → x ∷ y ∷ z ∷ [] ≡ symbol_bytes symbol
    → (fields_at x y z ≡ symbol) × (z % 32 ≡ crc5_value symbol)
unfolding symbol_bytes
fields_at-own x y z symbol range e =
    let first : x ≡ symbol.s0 * 32 + symbol.p0 = cc in
    let second : y ≡ symbol.p1 * 8 + symbol.s1 = cc in
    let third : z ≡ symbol.cmd * 32 + crc5_value symbol = cc in
    let s0 : x / 32 ≡ symbol.s0 = omega (arith, range.s0, range.p0) in
    let p0 : x % 32 ≡ symbol.p0 = omega (arith, range.s0, range.p0) in
    let p1 : y / 8 ≡ symbol.p1 = omega (arith, range.p1, range.s1) in
    let s1 : y % 8 ≡ symbol.s1 = omega (arith, range.p1, range.s1) in
    let cmd : z / 32 ≡ symbol.cmd = omega (arith, range.cmd, crc5_value-lt symbol) in
    let crc : z % 32 ≡ crc5_value symbol = omega (arith, range.cmd, crc5_value-lt symbol) in
    ((λ i. record { s0 = s0 i; p0 = p0 i; p1 = p1 i; s1 = s1 i; cmd = cmd i }), crc)

-- what is spelled is found
pub spelled_back : (x y z : ℕ) (symbol : Fields) → SpellsSymbol symbol (x ∷ y ∷ z ∷ [])
    → spelled x y z ≡ Some symbol
unfolding spelled
spelled_back x y z symbol s =
    let own = fields_at-own x y z symbol s.in_range (spelling_only symbol (x ∷ y ∷ z ∷ []) s) in
    let bytes = s.are_bytes in
    let holds : is_spelling x y z ≡ true =
    test_from_spelling x y z (record {
      first = All-head (λ b. b < 256) x (y ∷ z ∷ []) bytes;
      second = All-head (λ b. b < 256) y (z ∷ []) (All-tail (λ b. b < 256) x (y ∷ z ∷ []) bytes);
      third =
          All-head (λ b. b < 256) z []
          (All-tail (λ b. b < 256) y (z ∷ []) (All-tail (λ b. b < 256) x (y ∷ z ∷ []) bytes));
      crc = own.1 ∙ sym (ap crc5_value own.0);
    })
    in
    rw holds (ap Some own.0)

-- where nothing is found, nothing is spelled
pub spelled_none : (x y z : ℕ) (symbol : Fields) → spelled x y z ≡ None
    → SpellsSymbol symbol (x ∷ y ∷ z ∷ []) → ⊥
spelled_none x y z symbol e s =
    let found : spelled x y z ≡ Some symbol = spelled_back x y z symbol s in cc

-- one list of bytes spells one symbol
pub same_symbol : (symbol other : Fields) (bytes : List ℕ) → SpellsSymbol symbol bytes
    → SpellsSymbol other bytes → symbol ≡ other
unfolding symbol_bytes
same_symbol symbol other bytes s o =
    let own = spelling_only symbol bytes s in
    let here = spelled_back _ _ _ symbol (spells_own symbol s.in_range) in
    let there = spelled_back _ _ _ other (subst (SpellsSymbol other) own o) in
    cc (here, there)

-- a symbol in range is found in its own bytes
pub spelled_own : (symbol : Fields) → InRange symbol
    → spelled (symbol.s0 * 32 + symbol.p0) (symbol.p1 * 8 + symbol.s1)
    (symbol.cmd * 32 + crc5_value symbol) ≡ Some symbol
unfolding symbol_bytes
spelled_own symbol range =
    spelled_back (symbol.s0 * 32 + symbol.p0) (symbol.p1 * 8 + symbol.s1)
    (symbol.cmd * 32 + crc5_value symbol) symbol (spells_own symbol range)

-- a list of three, place by place
three_places : (bytes : List ℕ) → length bytes ≡ 3
    → get_or bytes 0 0 ∷ get_or bytes 1 0 ∷ get_or bytes 2 0 ∷ [] ≡ bytes
three_places (x ∷ y ∷ z ∷ []) e = refl
three_places [] e = absurd (omega arith)
three_places (x ∷ []) e = absurd (omega arith)
three_places (x ∷ y ∷ []) e = absurd (omega arith)
three_places (x ∷ y ∷ z ∷ w ∷ bytes) e = absurd (omega arith)

-- the decision at the places of a list
pub list_some : (bytes : List ℕ) (symbol : Fields) → length bytes ≡ 3
    → spelled (get_or bytes 0 0) (get_or bytes 1 0) (get_or bytes 2 0) ≡ Some symbol
    → SpellsSymbol symbol bytes
list_some bytes symbol three e =
    subst (SpellsSymbol symbol) (three_places bytes three)
    (spelled_some (get_or bytes 0 0) (get_or bytes 1 0) (get_or bytes 2 0) symbol e)

pub list_back : (bytes : List ℕ) (symbol : Fields) → length bytes ≡ 3 → SpellsSymbol symbol bytes
    → spelled (get_or bytes 0 0) (get_or bytes 1 0) (get_or bytes 2 0) ≡ Some symbol
list_back bytes symbol three s =
    spelled_back (get_or bytes 0 0) (get_or bytes 1 0) (get_or bytes 2 0) symbol
    (subst (SpellsSymbol symbol) (sym (three_places bytes three)) s)

-- the fields as the code cuts them out
abbrev pub cut_fields : ℕ → ℕ → ℕ → Fields
cut_fields x y z = record {
  s0 = x / 32;
  p0 = bit_and x 31;
  p1 = y / 8;
  s1 = bit_and y 7;
  cmd = z / 32;
}

-- a mask is a remainder
pub fields_at-cut : (x y z : ℕ) → cut_fields x y z ≡ fields_at x y z
fields_at-cut x y z = λ i. record {
  s0 = x / 32;
  p0 = and_mask x 5 i;
  p1 = y / 8;
  s1 = and_mask y 3 i;
  cmd = z / 32;
}

-- bytes with the right CRC are accepted, and others refused
pub accepted : (x y z : ℕ) → x < 256 → y < 256 → z < 256
    → bit_and z 31 ≡ crc5_value (cut_fields x y z) → spelled x y z ≡ Some (cut_fields x y z)
unfolding spelled
accepted x y z p q r e =
    let crc : z % 32 ≡ crc5_value (fields_at x y z) =
    sym (and_mask z 5) ∙ e ∙ ap crc5_value (fields_at-cut x y z) in
    let holds : is_spelling x y z ≡ true = test_from_spelling x y z (record {
      first = p;
      second = q;
      third = r;
      crc = crc;
    }) in
    rw holds (ap Some (sym (fields_at-cut x y z)))

pub refused : (x y z : ℕ) → bit_and z 31 ≢ crc5_value (cut_fields x y z) → spelled x y z ≡ None
unfolding spelled
refused x y z other =
    elim (is_spelling x y z) as
    (λ test. is_spelling x y z ≡ test → cond test (Some (fields_at x y z)) None ≡ None) [
      | true ↦ λ h. absurd (other
          (and_mask z 5
          ∙ (spelling_from_test x y z h).crc
          ∙ sym (ap crc5_value (fields_at-cut x y z))))
      | false ↦ λ h. refl
    ] refl

-- two fields written into a byte
pub byte-joined : (high low j k : ℕ) → high < 2 ^ j → low < 2 ^ k → j + k ≤ 8
    → bit_or (high * 2 ^ k % 256) low ≡ high * 2 ^ k + low
byte-joined high low j k p q fits =
    ap (λ n. bit_or n low) (shl_whole high j k 8 p fits) ∙ or_shifted high k low q

-- the three bytes as the code writes them
pub symbol_bytes-joined : (symbol : Fields) → InRange symbol
    → bit_or (symbol.s0 * 32 % 256) symbol.p0 ∷ bit_or (symbol.p1 * 8 % 256) symbol.s1
    ∷ bit_or (symbol.cmd * 32 % 256) (crc5_value symbol) ∷ [] ≡ symbol_bytes symbol
unfolding symbol_bytes
symbol_bytes-joined symbol range =
    let first : bit_or (symbol.s0 * 32 % 256) symbol.p0 ≡ symbol.s0 * 32 + symbol.p0 =
    byte-joined symbol.s0 symbol.p0 3 5 range.s0 range.p0 (lit≤ tt) in
    let second : bit_or (symbol.p1 * 8 % 256) symbol.s1 ≡ symbol.p1 * 8 + symbol.s1 =
    byte-joined symbol.p1 symbol.s1 5 3 range.p1 range.s1 (lit≤ tt) in
    let third : bit_or (symbol.cmd * 32 % 256) (crc5_value symbol)
    ≡ symbol.cmd * 32 + crc5_value symbol =
    byte-joined symbol.cmd (crc5_value symbol) 3 5 range.cmd (crc5_value-lt symbol) (lit≤ tt) in
    cc

-- the fields stand in the first nineteen bits of three bytes, and the number found in the last five
pub bits-fields_at : (x y z : ℕ)
    → flat_map (bits 8) (x ∷ y ∷ z ∷ []) ≡ field_bits (fields_at x y z) ++ bits 5 (z % 32)
unfolding field_bits
bits-fields_at x y z =
    let first : bits 8 x ≡ bits 3 (x / 32) ++ bits 5 (x % 32) = halves 3 5 x 8 refl in
    let second : bits 8 y ≡ bits 5 (y / 8) ++ bits 3 (y % 8) = halves 5 3 y 8 refl in
    let third : bits 8 z ≡ bits 3 (z / 32) ++ bits 5 (z % 32) = halves 3 5 z 8 refl in
    rw (first, second, third) (simp (append_assoc, append-nil))

-- the same at the list
pub spelled_symbol_bytes : (symbol : Fields) → InRange symbol
    → spelled_in (symbol_bytes symbol) ≡ Some symbol
unfolding symbol_bytes
spelled_symbol_bytes symbol range = spelled_own symbol range
