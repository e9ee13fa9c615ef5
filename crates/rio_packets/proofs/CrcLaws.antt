-- The two bytes of a CRC, and the register behind them.
use Rattle.std.proofs.Common.{◌≡◌, ℕ, ◌+◌, ◌*◌, ◌/◌, ◌%◌, ◌^◌, ◌<◌, ◌≤◌, List, [], ◌∷◌, ◌++◌, length, refl, sym, ap, ◌∙◌, arith, lit<}
use Rattle.crc_division.specs.Bits.{bits}
use Rattle.rio_packets.specs.Register.{running}
use Rattle.rio_packets.specs.LinkForm.{AreBytes, IsCrc}
use Rattle.crc_division.proofs.BitsLaws.{bits_cat, same_by_bits}
use Rattle.rio_packets.proofs.Shifts.{fed_all-append}
use Rattle.rio_packets.proofs.RegisterLaws.{crc16_of-running, fed_all-lt, zero_after_two}

pub running-lt : (m : List ℕ) → AreBytes m → running m < 0x10000
running-lt m range = fed_all-lt 0xffff m (lit< tt) range

two_bytes : (x y : ℕ) → y < 256 → bits 16 (x * 256 + y) ≡ bits 8 x ++ bits 8 y
two_bytes x y low =
    let two : bits 16 (x * 2 ^ 8 + y) ≡ bits 8 x ++ bits 8 y = bits_cat 8 8 x y 16 refl low in two

-- the bytes of the register are the CRC
pub IsCrc-from_running : (m : List ℕ) (x y : ℕ) → 2 ≤ length m → AreBytes m → x < 256 → y < 256
    → running m ≡ x * 256 + y → IsCrc m x y
IsCrc-from_running m x y size range high low e = record {
  high = high;
  low = low;
  spells = sym (two_bytes x y low) ∙ ap (bits 16) (sym e) ∙ sym (crc16_of-running m size range);
}

pub IsCrc-halves : (m : List ℕ) → 2 ≤ length m → AreBytes m
    → IsCrc m (running m / 256) (running m % 256)
IsCrc-halves m size range =
    let below = running-lt m range in
    IsCrc-from_running m (running m / 256) (running m % 256) size range (omega arith) (omega arith)
    (omega arith)

pub running_from_IsCrc : (m : List ℕ) (x y : ℕ) → 2 ≤ length m → AreBytes m → IsCrc m x y
    → running m ≡ x * 256 + y
running_from_IsCrc m x y size range crc =
    same_by_bits 16 (running m) (x * 256 + y) (running-lt m range)
    (let high = crc.high in let low = crc.low in omega arith)
    (sym (crc16_of-running m size range) ∙ sym crc.spells ∙ sym (two_bytes x y crc.low))

-- a message has one CRC
pub IsCrc-one : (m : List ℕ) (x y u v : ℕ) → IsCrc m x y → IsCrc m u v → (x ≡ u) × (y ≡ v)
IsCrc-one m x y u v one other =
    let x_high =
    one.high in let y_low = one.low in let u_high = other.high in let v_low = other.low in
    let same : x * 256 + y ≡ u * 256 + v =
    same_by_bits 16 (x * 256 + y) (u * 256 + v) (omega arith) (omega arith)
    (two_bytes x y y_low ∙ one.spells ∙ sym other.spells ∙ sym (two_bytes u v v_low)) in
    (omega arith, omega arith)

-- the register is 0 behind a message and its CRC
pub running-crc : (m : List ℕ) (x y : ℕ) → 2 ≤ length m → AreBytes m → IsCrc m x y
    → running (m ++ x ∷ y ∷ []) ≡ 0
running-crc m x y size range crc =
    fed_all-append 0xffff m (x ∷ y ∷ [])
    ∙ (zero_after_two (running m) x y (running-lt m range) crc.high crc.low).1
    (running_from_IsCrc m x y size range crc)

-- and where it is 0 behind two bytes, these are the CRC
pub IsCrc-from_zero : (m : List ℕ) (x y : ℕ) → 2 ≤ length m → AreBytes m → x < 256 → y < 256
    → running (m ++ x ∷ y ∷ []) ≡ 0 → IsCrc m x y
IsCrc-from_zero m x y size range high low e =
    IsCrc-from_running m x y size range high low
    ((zero_after_two (running m) x y (running-lt m range) high low).0
    (sym (fed_all-append 0xffff m (x ∷ y ∷ [])) ∙ e))
