-- Laws of the running register: it computes the remainder, and it is 0 where its own value follows.
use Rattle.std.proofs.Common.{◌≡◌, ℕ, zero, suc, ◌+◌, ◌-◌, ◌*◌, ◌%◌, ◌^◌, ◌<◌, ◌≤◌, ◌↔◌, Bool, true, false, List, [], ◌∷◌, ◌++◌, length, replicate, refl, sym, ap, ◌∙◌, inl, inr, arith, bit_xor, append_assoc, append-nil, length-append, lt-ltb, le-ltb, lit<}
use Rattle.std.specs.Int.{bit_at}
use Rattle.std.specs.Int.Bits.{xor_self, xor_zero_l, xor_zero_r, xor_assoc}
use Rattle.std.proofs.lemmas.Nat.{xor_of_16}
use Rattle.std.proofs.lemmas.Nat.Bits.{bit_at_xor, bit_at_lowest}
use Rattle.std.proofs.lemmas.Bool.{cases_lt}
use Rattle.std.proofs.lemmas.List.Elements.{All-head, All-tail, All-cons, All-nil}
use Rattle.crc_division.specs.Bits.{bits, bits_of}
use Rattle.crc_division.specs.Division.{added, division_step, division_steps, remainder, complemented}
use Rattle.crc_division.proofs.BitsLaws.{length-bits, bits_cat, bits_of_zero, same_by_bits}
use Rattle.crc_division.proofs.DivisionLaws.{length-added, added_to_zeros, complemented-append, division_steps-add, division_step_low, division_step_high, absorbed}
use Rattle.rio_packets.specs.Crc16.{crc16_divisor, crc16_of}
use Rattle.rio_packets.specs.Register.{shifted, shifted_times, fed, fed_all, running}
use Rattle.rio_packets.specs.LinkForm.{AreBytes}

pub shifted_low : (r : ℕ) → r < 0x8000 → shifted r ≡ r * 2
unfolding shifted
shifted_low r h = rw (lt-ltb r 0x8000 h) refl

pub shifted_high : (r : ℕ) → 0x8000 ≤ r → r < 0x10000
    → shifted r ≡ bit_xor ((r - 0x8000) * 2) 0x1021
unfolding shifted
shifted_high r low high =
    let doubled : r * 2 % 0x10000 ≡ (r - 0x8000) * 2 = omega arith in
    rw (le-ltb r 0x8000 low) (ap (λ n. bit_xor n 0x1021) doubled)

pub shifted-lt : (r : ℕ) → r < 0x10000 → shifted r < 0x10000
shifted-lt r h =
    elim (cases_lt r 0x8000) [
      | inl low ↦ rw (shifted_low r low) (omega arith)
      | inr high ↦ rw (shifted_high r high h)
          (xor_of_16 ((r - 0x8000) * 2) 0x1021 (omega arith) (lit< tt))
    ]

shifted_times-none : (r : ℕ) → shifted_times 0 r ≡ r
unfolding shifted_times
shifted_times-none r = refl

pub shifted_times-lt : (n r : ℕ) → r < 0x10000 → shifted_times n r < 0x10000
unfolding shifted_times
shifted_times-lt zero r h = h
shifted_times-lt (suc n) r h = shifted_times-lt n (shifted r) (shifted-lt r h)

pub fed-lt : (r b : ℕ) → r < 0x10000 → b < 256 → fed r b < 0x10000
unfolding fed
fed-lt r b h k = shifted_times-lt 8 (bit_xor r (b * 256)) (xor_of_16 r (b * 256) h (omega arith))

pub fed_all-lt : (r : ℕ) (bytes : List ℕ) → r < 0x10000 → AreBytes bytes → fed_all r bytes < 0x10000
fed_all-lt r [] h range = h
fed_all-lt r (b ∷ bs) h range =
    fed_all-lt (fed r b) bs (fed-lt r b h (All-head (λ x. x < 256) b bs range))
    (All-tail (λ x. x < 256) b bs range)

-- a step of the division is a shift of the register in front
pub division_step-shifted : (r : ℕ) (bs : List Bool) → r < 0x10000
    → division_step crc16_divisor (added (bits 16 r) (false ∷ bs)) ≡ added (bits 16 (shifted r)) bs
unfolding crc16_divisor
division_step-shifted r bs h =
    elim (cases_lt r 0x8000) [
      | inl low ↦ rw (shifted_low r low) (division_step_low 15 r (bits 16 0x1021) bs low)
      | inr high ↦ rw (shifted_high r high h) (division_step_high 15 r 0x1021 bs high h)
    ]

pub division_steps-shifted : (n r : ℕ) (bs : List Bool) → r < 0x10000
    → division_steps n crc16_divisor (added (bits 16 r) (replicate n false ++ bs))
    ≡ added (bits 16 (shifted_times n r)) bs
unfolding division_steps shifted_times
division_steps-shifted zero r bs h = refl
division_steps-shifted (suc n) r bs h =
    ap (division_steps n crc16_divisor) (division_step-shifted r (replicate n false ++ bs) h)
    ∙ division_steps-shifted n (shifted r) bs (shifted-lt r h)

-- a number is absorbed with the bits behind the register, and shifted through
pub division_steps-absorbed : (n r v k : ℕ) (xs bs : List Bool) → r < 0x10000 → v < 0x10000
    → length xs ≡ n → bits 16 v ≡ xs ++ replicate k false
    → division_steps n crc16_divisor (added (bits 16 r) (xs ++ bs))
    ≡ added (bits 16 (shifted_times n (bit_xor r v))) bs
division_steps-absorbed n r v k xs bs h below size e =
    ap (division_steps n crc16_divisor) (absorbed 16 r v k xs bs e
    ∙ ap (λ m. added (bits 16 (bit_xor r v)) (replicate m false ++ bs)) size)
    ∙ division_steps-shifted n (bit_xor r v) bs (xor_of_16 r v h below)

pub division_steps-fed : (r b : ℕ) (bs : List Bool) → r < 0x10000 → b < 256
    → division_steps 8 crc16_divisor (added (bits 16 r) (bits 8 b ++ bs))
    ≡ added (bits 16 (fed r b)) bs
unfolding fed
division_steps-fed r b bs h k =
    let moved : bits 16 (b * 2 ^ 8 + 0) ≡ bits 8 b ++ bits 8 0 =
    bits_cat 8 8 b 0 16 refl (lit< tt) in
    let same : b * 2 ^ 8 + 0 ≡ b * 256 = omega arith in
    division_steps-absorbed 8 r (b * 256) 8 (bits 8 b) bs h (omega arith) (length-bits 8 b)
    (ap (bits 16) (sym same) ∙ moved ∙ ap (λ t. bits 8 b ++ t) (bits_of_zero 8))

-- The division of a message behind the register is the register after the message.
pub division_steps-fed_all : (bytes : List ℕ) (r n : ℕ) (bs : List Bool) → r < 0x10000
    → AreBytes bytes → n ≡ 8 * length bytes
    → division_steps n crc16_divisor (added (bits 16 r) (bits_of bytes ++ bs))
    ≡ added (bits 16 (fed_all r bytes)) bs
division_steps-fed_all [] r n bs h range e =
    let none : n ≡ 0 = omega arith in
    rw none
    (division_steps-shifted 0 r bs h ∙ ap (λ t. added (bits 16 t) bs) (shifted_times-none r))
division_steps-fed_all (b ∷ bytes) r n bs h range e =
    let here = All-head (λ x. x < 256) b bytes range in
    division_steps-add 8 (8 * length bytes) n crc16_divisor _ (omega arith)
    ∙ ap (λ t. division_steps (8 * length bytes) crc16_divisor
    (division_steps 8 crc16_divisor (added (bits 16 r) t)))
    (append_assoc (bits 8 b) (bits_of bytes) bs)
    ∙ ap (division_steps (8 * length bytes) crc16_divisor)
    (division_steps-fed r b (bits_of bytes ++ bs) h here)
    ∙ division_steps-fed_all bytes (fed r b) (8 * length bytes) bs (fed-lt r b h here)
    (All-tail (λ x. x < 256) b bytes range) refl

pub length-bits_of : (bytes : List ℕ) → length (bits_of bytes) ≡ 8 * length bytes
length-bits_of [] = refl
length-bits_of (b ∷ bytes) =
    length-append (bits 8 b) (bits_of bytes)
    ∙ rw (length-bits 8 b, length-bits_of bytes) (omega arith)

preset_ones : bits 16 0xffff ≡ replicate 16 true
unfolding bits
preset_ones = refl

-- what stands alone in the register
pub added_to_nothing : (r : ℕ) → added (bits 16 r) (replicate 16 false) ≡ bits 16 r
added_to_nothing r =
    let alone : added (bits 16 r ++ []) (replicate (length (bits 16 r)) false ++ [])
    ≡ bits 16 r ++ [] =
    added_to_zeros (bits 16 r) [] 0 in
    let size : length (bits 16 r) ≡ 16 = length-bits 16 r in
    rw (append-nil (bits 16 r), size) at alone

pub length-crc16_divisor : length crc16_divisor ≡ 17
unfolding crc16_divisor
length-crc16_divisor = ap (λ n. suc n) (length-bits 16 0x1021)

-- The CRC of a message is the register after it.
pub crc16_of-running : (bytes : List ℕ) → 2 ≤ length bytes → AreBytes bytes
    → crc16_of bytes ≡ bits 16 (running bytes)
unfolding crc16_of
crc16_of-running bytes h range =
    let size = length-bits_of bytes in
    let zeros = replicate 16 false in
    let all = bits_of bytes ++ zeros in
    let preset : complemented 16 (bits_of bytes) ++ zeros ≡ added (bits 16 0xffff) all =
    complemented-append 16 (bits_of bytes) zeros (omega (arith, size))
    ∙ ap (λ t. added t all) (sym preset_ones) in
    let steps : length (added (bits 16 0xffff) all) + 1 - length crc16_divisor ≡ 8 * length bytes =
    rw (
      length-added (bits 16 0xffff) all,
      length-append (bits_of bytes) zeros,
      size,
      length-crc16_divisor,
    ) (omega arith) in
    ap (λ t. remainder t crc16_divisor) preset
    ∙ ap (λ n. division_steps n crc16_divisor (added (bits 16 0xffff) all)) steps
    ∙ division_steps-fed_all bytes 0xffff (8 * length bytes) zeros (lit< tt) range refl
    ∙ added_to_nothing (running bytes)

-- ---- when the register is 0

-- the bit that falls out comes back as the last bit of the polynomial, so no shift loses a bit
shifted-zero : (r : ℕ) → r < 0x10000 → shifted r ≡ 0 → r ≡ 0
shifted-zero r h e =
    elim (cases_lt r 0x8000) [
      | inl low ↦ (let doubled = shifted_low r low in omega arith)
      | inr high ↦
          (let last : (r - 0x8000) * 2 % 2 ≡ 0 = omega arith in
          let odd = bit_at_xor ((r - 0x8000) * 2) 0x1021 0 in
          let sum : bit_at (bit_xor ((r - 0x8000) * 2) 0x1021) 0 ≡ bit_at 0 0 =
          ap (λ n. bit_at n 0) (sym (shifted_high r high h) ∙ e) in
          absurd (omega (arith, odd, sum, last, bit_at_lowest ((r - 0x8000) * 2))))
    ]

shifted_times-zero : (n r : ℕ) → r < 0x10000 → shifted_times n r ≡ 0 → r ≡ 0
unfolding shifted_times
shifted_times-zero zero r h e = e
shifted_times-zero (suc n) r h e =
    shifted-zero r h (shifted_times-zero n (shifted r) (shifted-lt r h) e)

zero_shifted : (n : ℕ) → shifted_times n 0 ≡ 0
unfolding shifted_times shifted
zero_shifted zero = refl
zero_shifted (suc n) = zero_shifted n

-- two bytes are absorbed as one number
fed_all-two : (r x y : ℕ) → r < 0x10000 → x < 256 → y < 256
    → fed_all r (x ∷ y ∷ []) ≡ shifted_times 16 (bit_xor r (x * 256 + y))
fed_all-two r x y h hx hy =
    let v = x * 256 + y in
    let below : v < 0x10000 = omega arith in
    let two : bits 16 (x * 2 ^ 8 + y) ≡ bits 8 x ++ bits 8 y = bits_cat 8 8 x y 16 refl hy in
    let whole : bits 16 v ≡ bits_of (x ∷ y ∷ []) ++ replicate 0 false =
    two
    ∙ sym (append-nil (bits 8 x ++ bits 8 y))
    ∙ ap (λ t. t ++ []) (ap (λ t. bits 8 x ++ t) (sym (append-nil (bits 8 y)))) in
    let size : length (bits_of (x ∷ y ∷ [])) ≡ 16 = length-bits_of (x ∷ y ∷ []) in
    let zeros = replicate 16 false in
    let range : AreBytes (x ∷ y ∷ []) =
    All-cons (λ b. b < 256) x (y ∷ []) hx
    (All-cons (λ b. b < 256) y [] hy (All-nil (λ b. b < 256))) in
    let one = division_steps-fed_all (x ∷ y ∷ []) r 16 zeros h range refl in
    let other = division_steps-absorbed 16 r v 0 (bits_of (x ∷ y ∷ [])) zeros h below size whole in
    same_by_bits 16 (fed_all r (x ∷ y ∷ [])) (shifted_times 16 (bit_xor r v))
    (fed_all-lt r (x ∷ y ∷ []) h range) (shifted_times-lt 16 (bit_xor r v) (xor_of_16 r v h below))
    (sym (added_to_nothing _) ∙ sym one ∙ other ∙ added_to_nothing _)

xor-zero : (a b : ℕ) → bit_xor a b ≡ 0 → a ≡ b
xor-zero a b e =
    sym (xor_zero_r a)
    ∙ ap (bit_xor a) (sym (xor_self b))
    ∙ sym (xor_assoc a b b)
    ∙ ap (λ t. bit_xor t b) e
    ∙ xor_zero_l b

-- The register is 0 behind two bytes exactly where they are its own value.
pub zero_after_two : (r x y : ℕ) → r < 0x10000 → x < 256 → y < 256
    → fed_all r (x ∷ y ∷ []) ≡ 0 ↔ (r ≡ x * 256 + y)
zero_after_two r x y h hx hy =
    let v = x * 256 + y in
    let two = fed_all-two r x y h hx hy in
    let below : v < 0x10000 = omega arith in (
      λ e. xor-zero r v (shifted_times-zero 16 (bit_xor r v) (xor_of_16 r v h below) (sym two ∙ e)),
      λ e. two
          ∙ ap (λ t. shifted_times 16 (bit_xor t v)) e
          ∙ ap (shifted_times 16) (xor_self v)
          ∙ zero_shifted 16,
    )
