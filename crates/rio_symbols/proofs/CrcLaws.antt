-- How the table leads the register over five bits at once, and what the CRC is as a number.
use Rattle.std.proofs.Common.{◌≡◌, ℕ, zero, suc, ◌+◌, ◌-◌, ◌*◌, ◌/◌, ◌%◌, ◌^◌, ◌<◌, ◌≤◌, Bool, true, false, List, [], ◌∷◌, ◌++◌, length, replicate, get_or, refl, sym, ◌∙◌, ap, inl, inr, arith, bit_xor, append_assoc, append-nil, length-append, lt-ltb, le-ltb, nat_lt, if◌then◌else◌}
use Rattle.std.proofs.lemmas.Nat.{xor_lt}
use Rattle.std.proofs.lemmas.Bool.{cases_lt}
use Rattle.crc_division.specs.Bits.{bits, number}
use Rattle.crc_division.specs.Division.{added, division_step, division_steps, remainder}
use Rattle.crc_division.proofs.BitsLaws.{length-bits, bits_cat, bits_of_zero, number-bits, bits-number, number-lt}
use Rattle.crc_division.proofs.DivisionLaws.{added_to_zeros, complemented-append, division_steps-add, division_step_low, division_step_high, absorbed, length-division_steps, length-complemented}
use Rattle.crc_division.proofs.Entries.{entries, entry}
use Rattle.rio_symbols.specs.declared.crc.TheConstants.{CRC5_TABLE}
use Rattle.rio_symbols.specs.Fields.{Fields, InRange}
use Rattle.rio_symbols.specs.Crc5.{crc5_divisor, crc5_entry, field_bits, crc5_message, crc5_of, crc5_value}
use Rattle.rio_symbols.proofs.BitLaws.{bits-mod, halves}

-- the register of five bits after a 0 bit, and after more of them
unfoldable shifted : ℕ → ℕ
shifted register = if nat_lt register 16 then register * 2 else bit_xor ((register - 16) * 2) 21

unfoldable shifted_times : ℕ → ℕ → ℕ
shifted_times zero register = register
shifted_times (suc n) register = shifted_times n (shifted register)

shifted_low : (r : ℕ) → r < 16 → shifted r ≡ r * 2
unfolding shifted
shifted_low r h = rw (lt-ltb r 16 h) refl

shifted_high : (r : ℕ) → 16 ≤ r → shifted r ≡ bit_xor ((r - 16) * 2) 21
unfolding shifted
shifted_high r low = rw (le-ltb r 16 low) refl

shifted-lt : (r : ℕ) → r < 32 → shifted r < 32
shifted-lt r h =
    elim (cases_lt r 16) [
      | inl low ↦ rw (shifted_low r low) (omega arith)
      | inr high ↦ rw (shifted_high r high) (xor_lt 5 ((r - 16) * 2) 21 (omega arith) (omega arith))
    ]

divisor_is : crc5_divisor ≡ true ∷ bits 5 21
unfolding bits
divisor_is = refl

-- a step of the division is a shift of the register in front
division_step-shifted : (r : ℕ) (bs : List Bool) → r < 32
    → division_step crc5_divisor (added (bits 5 r) (false ∷ bs)) ≡ added (bits 5 (shifted r)) bs
division_step-shifted r bs h =
    ap (λ d. division_step d (added (bits 5 r) (false ∷ bs))) divisor_is
    ∙ elim (cases_lt r 16) [
      | inl low ↦ rw (shifted_low r low) (division_step_low 4 r (bits 5 21) bs low)
      | inr high ↦ rw (shifted_high r high) (division_step_high 4 r 21 bs high h)
    ]

division_steps-shifted : (n r : ℕ) (bs : List Bool) → r < 32
    → division_steps n crc5_divisor (added (bits 5 r) (replicate n false ++ bs))
    ≡ added (bits 5 (shifted_times n r)) bs
unfolding division_steps shifted_times
division_steps-shifted zero r bs h = refl
division_steps-shifted (suc n) r bs h =
    ap (division_steps n crc5_divisor) (division_step-shifted r (replicate n false ++ bs) h)
    ∙ division_steps-shifted n (shifted r) bs (shifted-lt r h)

-- the table, by the division and by the shifts
table_remainders : CRC5_TABLE ≡ entries 32 0 crc5_entry
unfolding bits number division_steps
table_remainders = refl

table_shifts : CRC5_TABLE ≡ entries 32 0 (shifted_times 5)
unfolding shifted_times shifted
table_shifts = refl

pub entry_remainder : (n : ℕ) → n < 32 → get_or CRC5_TABLE n 0 ≡ crc5_entry n
entry_remainder n h = entry 32 CRC5_TABLE crc5_entry n table_remainders h

crc5_entry-shifts : (n : ℕ) → n < 32 → crc5_entry n ≡ shifted_times 5 n
crc5_entry-shifts n h =
    sym (entry_remainder n h) ∙ entry 32 CRC5_TABLE (shifted_times 5) n table_shifts h

-- a remainder is five bits long
length-remainder : (n : ℕ) → length (remainder (bits 5 n ++ replicate 5 false) crc5_divisor) ≡ 5
length-remainder n =
    let size : length (bits 5 n ++ replicate 5 false) ≡ 10 =
    length-append (bits 5 n) (replicate 5 false) ∙ ap (λ m. m + 5) (length-bits 5 n) in
    rw size
    (length-division_steps 5 crc5_divisor (bits 5 n ++ replicate 5 false) ∙ ap (λ m. m - 5) size)

pub crc5_entry-lt : (n : ℕ) → crc5_entry n < 32
crc5_entry-lt n =
    rw (length-remainder n) at (number-lt (remainder (bits 5 n ++ replicate 5 false) crc5_divisor))

pub table_entry-bits : (n : ℕ) → n < 32
    → bits 5 (get_or CRC5_TABLE n 0) ≡ remainder (bits 5 n ++ replicate 5 false) crc5_divisor
table_entry-bits n h =
    let back : bits 5 (crc5_entry n) ≡ remainder (bits 5 n ++ replicate 5 false) crc5_divisor =
    rw (length-remainder n) at
    (bits-number (remainder (bits 5 n ++ replicate 5 false) crc5_divisor)) in
    ap (bits 5) (entry_remainder n h) ∙ back

-- five bits behind the register lead it to an entry
fed : (r v : ℕ) (bs : List Bool) → r < 32 → v < 32
    → division_steps 5 crc5_divisor (added (bits 5 r) (bits 5 v ++ bs))
    ≡ added (bits 5 (crc5_entry (bit_xor r v))) bs
fed r v bs h below =
    let fits : bit_xor r v < 32 = xor_lt 5 r v h below in
    ap (division_steps 5 crc5_divisor) (absorbed 5 r v 0 (bits 5 v) bs (sym (append-nil (bits 5 v)))
    ∙ ap (λ m. added (bits 5 (bit_xor r v)) (replicate m false ++ bs)) (length-bits 5 v))
    ∙ division_steps-shifted 5 (bit_xor r v) bs fits
    ∙ ap (λ n. added (bits 5 n) bs) (sym (crc5_entry-shifts (bit_xor r v) fits))

-- the first five bits of a number that has more
front_five : (k n width : ℕ) → width ≡ 5 + k → bits width n ≡ bits 5 (n / 2 ^ k % 32) ++ bits k n
front_five k n width e =
    halves 5 k n width e
    ∙ ap (λ bs. bs ++ bits k (n % 2 ^ k)) (sym (bits-mod 5 5 (n / 2 ^ k) (omega arith)))
    ∙ ap (λ bs. bits 5 (n / 2 ^ k % 32) ++ bs) (bits-mod k k n (omega arith))

fed_front : (k r n width : ℕ) (bs : List Bool) → r < 32 → width ≡ 5 + k
    → division_steps width crc5_divisor (added (bits 5 r) (bits width n ++ bs))
    ≡ division_steps k crc5_divisor
    (added (bits 5 (crc5_entry (bit_xor r (n / 2 ^ k % 32)))) (bits k n ++ bs))
fed_front k r n width bs h e =
    division_steps-add 5 k width crc5_divisor _ e
    ∙ ap (λ t. division_steps k crc5_divisor (division_steps 5 crc5_divisor (added (bits 5 r) t)))
    (ap (λ t. t ++ bs) (front_five k n width e)
    ∙ append_assoc (bits 5 (n / 2 ^ k % 32)) (bits k n) bs)
    ∙ ap (division_steps k crc5_divisor) (fed r (n / 2 ^ k % 32) (bits k n ++ bs) h (omega arith))

-- nineteen bits of fields, twenty-five that are divided, and five of CRC
pub length-field_bits : (symbol : Fields) → length (field_bits symbol) ≡ 19
unfolding field_bits
length-field_bits symbol = simp (length-append, length-bits)

pub length-crc5_message : (symbol : Fields) → length (crc5_message symbol) ≡ 25
unfolding crc5_message
length-crc5_message symbol = simp (length-append, length-complemented, length-field_bits)

-- twenty steps are taken
pub crc5_of-steps : (symbol : Fields)
    → crc5_of symbol ≡ division_steps 20 crc5_divisor (crc5_message symbol)
unfolding crc5_of
crc5_of-steps symbol = rw (length-crc5_message symbol)

pub length-crc5_of : (symbol : Fields) → length (crc5_of symbol) ≡ 5
length-crc5_of symbol =
    ap length (crc5_of-steps symbol) ∙ length-division_steps 20 crc5_divisor (crc5_message symbol)
    ∙ ap (λ n. n - 20) (length-crc5_message symbol)

-- the CRC as a number, and back
pub crc5_value-lt : (symbol : Fields) → crc5_value symbol < 32
unfolding crc5_value
crc5_value-lt symbol =
    let size : length (crc5_of symbol) ≡ 5 = length-crc5_of symbol in
    rw size at (number-lt (crc5_of symbol))

pub bits-crc5_value : (symbol : Fields) → bits 5 (crc5_value symbol) ≡ crc5_of symbol
unfolding crc5_value
bits-crc5_value symbol = rw (length-crc5_of symbol) at (bits-number (crc5_of symbol))

-- the nineteen bits, each field written behind the ones before it
pub bits-fields : (symbol : Fields) → InRange symbol
    → bits 19 ((((symbol.s0 * 32 + symbol.p0) * 32 + symbol.p1) * 8 + symbol.s1) * 8 + symbol.cmd)
    ≡ field_bits symbol
unfolding field_bits
bits-fields symbol range =
    bits_cat 16 3 (((symbol.s0 * 32 + symbol.p0) * 32 + symbol.p1) * 8 + symbol.s1) symbol.cmd 19
    refl range.cmd
    ∙ ap (λ front. front ++ bits 3 symbol.cmd)
    (bits_cat 13 3 ((symbol.s0 * 32 + symbol.p0) * 32 + symbol.p1) symbol.s1 16 refl range.s1
    ∙ ap (λ front. front ++ bits 3 symbol.s1)
    (bits_cat 8 5 (symbol.s0 * 32 + symbol.p0) symbol.p1 13 refl range.p1
    ∙ ap (λ front. front ++ bits 5 symbol.p1) (bits_cat 3 5 symbol.s0 symbol.p0 8 refl range.p0)))
    ∙ simp append_assoc

-- the message behind the preset register
message_is : (symbol : Fields) (n : ℕ) → bits 19 n ≡ field_bits symbol
    → crc5_message symbol ≡ added (bits 5 31) (bits 20 (n * 2) ++ replicate 5 false)
unfolding crc5_message bits
message_is symbol n e =
    let front = field_bits symbol ++ false ∷ [] in
    let enough : length front ≡ 20 = simp (length-append, length-field_bits) in
    let same : n * 2 ^ 1 + 0 ≡ n * 2 = omega arith in
    let moved : bits 20 (n * 2) ≡ front =
    ap (bits 20) (sym same) ∙ bits_cat 19 1 n 0 20 refl (omega arith)
    ∙ ap (λ bs. bs ++ bits 1 0) e ∙ ap (λ bs. field_bits symbol ++ bs) (bits_of_zero 1) in
    complemented-append 5 front (replicate 5 false) (omega (arith, enough))
    ∙ ap (λ bs. added (bits 5 31) (bs ++ replicate 5 false)) (sym moved)

-- what stands alone in the register
alone : (r : ℕ) → added (bits 5 r) (replicate 5 false) ≡ bits 5 r
alone r =
    let whole : added (bits 5 r ++ []) (replicate (length (bits 5 r)) false ++ [])
    ≡ bits 5 r ++ [] =
    added_to_zeros (bits 5 r) [] 0 in
    let size : length (bits 5 r) ≡ 5 = length-bits 5 r in
    rw (append-nil (bits 5 r), size) at whole

-- the division is over
no_steps : (divisor bs : List Bool) → division_steps 0 divisor bs ≡ bs
unfolding division_steps
no_steps divisor bs = refl

nothing_left : (n : ℕ) (bs : List Bool) → bits 0 n ++ bs ≡ bs
unfolding bits
nothing_left n bs = refl

-- the register after four times five bits has the CRC
pub crc5_of-table : (symbol : Fields) (n a b c d : ℕ) → bits 19 n ≡ field_bits symbol
    → a ≡ crc5_entry (bit_xor 31 (n * 2 / 2 ^ 15 % 32))
    → b ≡ crc5_entry (bit_xor a (n * 2 / 2 ^ 10 % 32))
    → c ≡ crc5_entry (bit_xor b (n * 2 / 2 ^ 5 % 32))
    → d ≡ crc5_entry (bit_xor c (n * 2 / 2 ^ 0 % 32))
    → crc5_of symbol ≡ bits 5 d
crc5_of-table symbol n a b c d e first second third fourth =
    let room : List Bool = replicate 5 false in
    let turn : ℕ → List Bool → List Bool = λ count bs. division_steps count crc5_divisor bs in
    let behind : ℕ → ℕ → List Bool = λ count r. added (bits 5 r) (bits count (n * 2) ++ room) in
    let a_fits : a < 32 = rw first (crc5_entry-lt (bit_xor 31 (n * 2 / 2 ^ 15 % 32))) in
    let b_fits : b < 32 = rw second (crc5_entry-lt (bit_xor a (n * 2 / 2 ^ 10 % 32))) in
    let c_fits : c < 32 = rw third (crc5_entry-lt (bit_xor b (n * 2 / 2 ^ 5 % 32))) in
    crc5_of-steps symbol ∙ ap (division_steps 20 crc5_divisor) (message_is symbol n e)
    ∙ fed_front 15 31 (n * 2) 20 room (omega arith) refl
    ∙ ap (λ r. turn 15 (behind 15 r)) (sym first)
    ∙ fed_front 10 a (n * 2) 15 room a_fits refl ∙ ap (λ r. turn 10 (behind 10 r)) (sym second)
    ∙ fed_front 5 b (n * 2) 10 room b_fits refl ∙ ap (λ r. turn 5 (behind 5 r)) (sym third)
    ∙ fed_front 0 c (n * 2) 5 room c_fits refl ∙ ap (λ r. turn 0 (behind 0 r)) (sym fourth)
    ∙ no_steps crc5_divisor (behind 0 d) ∙ ap (added (bits 5 d)) (nothing_left (n * 2) room)
    ∙ alone d

pub crc5_value-of_bits : (symbol : Fields) (d : ℕ) → d < 32 → crc5_of symbol ≡ bits 5 d
    → d ≡ crc5_value symbol
unfolding crc5_value
crc5_value-of_bits symbol d h e =
    let low : d ≡ d % 2 ^ 5 = omega arith in
    low ∙ sym (number-bits 5 d) ∙ ap number (sym e)
