-- The tables of the CRC, and how they lead the register over eight bytes at once.
use Rattle.std.proofs.Common.{◌≡◌, ℕ, ◌+◌, ◌-◌, ◌<◌, false, ◌++◌, length, replicate, get_or, refl, sym, ap, ◌∙◌, arith, lit<, length-append}
use Rattle.crc_division.specs.Bits.{bits}
use Rattle.crc_division.specs.Division.{added, division_steps, remainder}
use Rattle.crc_division.proofs.BitsLaws.{length-bits, bits_of_zero}
use Rattle.crc_division.proofs.DivisionLaws.{added_zeros}
use Rattle.crc_division.proofs.Entries.{entries, entry}
use Rattle.rio_packets.specs.Crc16.{crc16_divisor}
use Rattle.rio_packets.specs.declared.tables.TheConstants.{CRC16_TABLE, AFTER_ONE_ZERO, AFTER_TWO_ZEROS, AFTER_THREE_ZEROS, AFTER_FOUR_ZEROS, AFTER_FIVE_ZEROS, AFTER_SIX_ZEROS, AFTER_SEVEN_ZEROS}
use Rattle.rio_packets.specs.Register.{shifted, shifted_times, fed}
use Rattle.rio_packets.specs.Tables.{after_zeros}
use Rattle.rio_packets.proofs.RegisterLaws.{division_steps-fed, added_to_nothing, length-crc16_divisor}

table_none : CRC16_TABLE ≡ entries 256 0 (after_zeros 0)
unfolding fed shifted_times shifted
table_none = refl

table_one : AFTER_ONE_ZERO ≡ entries 256 0 (after_zeros 1)
unfolding fed shifted_times shifted
table_one = refl

table_two : AFTER_TWO_ZEROS ≡ entries 256 0 (after_zeros 2)
unfolding fed shifted_times shifted
table_two = refl

table_three : AFTER_THREE_ZEROS ≡ entries 256 0 (after_zeros 3)
unfolding fed shifted_times shifted
table_three = refl

table_four : AFTER_FOUR_ZEROS ≡ entries 256 0 (after_zeros 4)
unfolding fed shifted_times shifted
table_four = refl

table_five : AFTER_FIVE_ZEROS ≡ entries 256 0 (after_zeros 5)
unfolding fed shifted_times shifted
table_five = refl

table_six : AFTER_SIX_ZEROS ≡ entries 256 0 (after_zeros 6)
unfolding fed shifted_times shifted
table_six = refl

table_seven : AFTER_SEVEN_ZEROS ≡ entries 256 0 (after_zeros 7)
unfolding fed shifted_times shifted
table_seven = refl

pub entry_none : (b : ℕ) → b < 256 → get_or CRC16_TABLE b 0 ≡ after_zeros 0 b
entry_none b h = entry 256 CRC16_TABLE (after_zeros 0) b table_none h

pub entry_one : (b : ℕ) → b < 256 → get_or AFTER_ONE_ZERO b 0 ≡ after_zeros 1 b
entry_one b h = entry 256 AFTER_ONE_ZERO (after_zeros 1) b table_one h

pub entry_two : (b : ℕ) → b < 256 → get_or AFTER_TWO_ZEROS b 0 ≡ after_zeros 2 b
entry_two b h = entry 256 AFTER_TWO_ZEROS (after_zeros 2) b table_two h

pub entry_three : (b : ℕ) → b < 256 → get_or AFTER_THREE_ZEROS b 0 ≡ after_zeros 3 b
entry_three b h = entry 256 AFTER_THREE_ZEROS (after_zeros 3) b table_three h

pub entry_four : (b : ℕ) → b < 256 → get_or AFTER_FOUR_ZEROS b 0 ≡ after_zeros 4 b
entry_four b h = entry 256 AFTER_FOUR_ZEROS (after_zeros 4) b table_four h

pub entry_five : (b : ℕ) → b < 256 → get_or AFTER_FIVE_ZEROS b 0 ≡ after_zeros 5 b
entry_five b h = entry 256 AFTER_FIVE_ZEROS (after_zeros 5) b table_five h

pub entry_six : (b : ℕ) → b < 256 → get_or AFTER_SIX_ZEROS b 0 ≡ after_zeros 6 b
entry_six b h = entry 256 AFTER_SIX_ZEROS (after_zeros 6) b table_six h

pub entry_seven : (b : ℕ) → b < 256 → get_or AFTER_SEVEN_ZEROS b 0 ≡ after_zeros 7 b
entry_seven b h = entry 256 AFTER_SEVEN_ZEROS (after_zeros 7) b table_seven h

-- the remainder of a byte and sixteen 0 bits
remainder_of_byte : (b : ℕ) → b < 256
    → remainder (bits 8 b ++ replicate 16 false) crc16_divisor ≡ bits 16 (fed 0 b)
remainder_of_byte b h =
    let zeros = replicate 16 false in
    let alone = bits 8 b ++ zeros in
    let steps : length alone + 1 - length crc16_divisor ≡ 8 =
    rw (length-append (bits 8 b) zeros, length-bits 8 b, length-crc16_divisor) (omega arith) in
    let empty : added (bits 16 0) alone ≡ alone =
    ap (λ t. added t alone) (bits_of_zero 16) ∙ added_zeros 16 alone in
    ap (λ n. division_steps n crc16_divisor alone) steps
    ∙ ap (division_steps 8 crc16_divisor) (sym empty)
    ∙ division_steps-fed 0 b zeros (lit< tt) h ∙ added_to_nothing (fed 0 b)

pub entry-remainder : (b : ℕ) → b < 256
    → bits 16 (get_or CRC16_TABLE b 0) ≡ remainder (bits 8 b ++ replicate 16 false) crc16_divisor
entry-remainder b h = ap (bits 16) (entry_none b h) ∙ sym (remainder_of_byte b h)
