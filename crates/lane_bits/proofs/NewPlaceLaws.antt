-- A comma at a new place, by which groups begin anew.
use Rattle.std.proofs.Common.{◌≡◌, ◌≢◌, ℕ, zero, suc, ◌+◌, ◌*◌, ◌/◌, ◌%◌, ◌<◌, ◌≤◌, ◌==◌, nat_lt, nat_le, if◌then◌else◌, Bool, true, false, List, [], ◌∷◌, ◌++◌, map, Option, Some, None, refl, sym, ap, ◌∙◌, subst, arith, append_assoc}
use Rattle.std.proofs.lemmas.Bool.{ne_eqb}
use Rattle.rio_chars.specs.declared.chars.Char.{Char}
use Rattle.rio_chars.specs.declared.chars.Char.TheVariants.{Data, Special}
use Rattle.code_groups.specs.declared.disparity.Disparity.{Disparity}
use Rattle.code_groups.specs.Commas.{is_comma, ten_bits_at}
use Rattle.lane_bits.specs.declared.align.Aligner.{Aligner}
use Rattle.lane_bits.specs.declared.align.Aligner.TheVariants.{Seeking, Aligned}
use Rattle.lane_bits.specs.declared.align.AlignStep.{AlignStep}
use Rattle.lane_bits.specs.declared.align.BitPiece.{BitPiece}
use Rattle.lane_bits.specs.declared.align.BitPiece.TheVariants.{Slip, Group}
use Rattle.lane_bits.specs.Aligning.{with_bit, nine_kept, ends_comma, aligned_at, align_step, slip_at, aligned_reads, reads_bit, after_bits, with_piece, bit_pieces, group_bits}
use Rattle.lane_bits.specs.BitHearing.{IsNewPlace, place_told, six_bits}
use Rattle.lane_bits.proofs.BitLaws.{after_both, pieces_both}
use Rattle.lane_bits.proofs.PlaceLaws.{no_comma_here, comma_here, kept_low, kept_small, kept_many, next_64, word_128, kept_128, next_256, next_512, word_1024}
use Rattle.lane_bits.proofs.GroupLaws.{Goes, goes_none, goes_bit, goes_both, at, NoneWithin, first_seven_bits, last_three_bits, up_1, up_2, up_3, up_4, up_5, up_6, last_three}

-- what an aligner keeps of the bits that were read last
abbrev pub recent_of : Aligner → ℕ
recent_of (Seeking recent) = recent
recent_of (Aligned bits) = bits.recent

recent_if : (c : Bool) (x y : AlignStep) (n : ℕ) → recent_of x.state ≡ n → recent_of y.state ≡ n
    → recent_of (if c then x else y).state ≡ n
recent_if true x y n h k = h
recent_if false x y n h k = k

recent_next : (state : Aligner) (bit : ℕ)
    → recent_of (reads_bit state bit).state ≡ nine_kept (with_bit (recent_of state) bit)
recent_next (Seeking recent) bit =
    let word : ℕ = with_bit recent bit in
    recent_if (ends_comma word) (align_step (aligned_at word 7) None)
    (align_step (Seeking (nine_kept word)) None) (nine_kept word) refl refl
recent_next (Aligned bits) bit =
    let word : ℕ = with_bit bits.recent bit in
    recent_if (ends_comma word) (align_step (aligned_at word 7) (slip_at bits.count))
    (aligned_reads word bits.count) (nine_kept word) refl
    (recent_if (nat_le 9 bits.count)
    (align_step (aligned_at word 0) (Some (Group (word % 1024))))
    (align_step (aligned_at word (bits.count + 1)) None) (nine_kept word) refl refl)

double : (recent bit least : ℕ) → least ≤ recent % 1024 → least ≤ 256
    → 2 * least ≤ nine_kept (with_bit recent bit) % 1024
double recent bit least h few =
    let word : ℕ = with_bit recent bit in
    let small : nine_kept word < 1024 = kept_small word in
    let many : 2 * least ≤ nine_kept word =
    kept_many word (2 * least) (omega (arith, h)) (omega arith) in
    omega (arith, small, many)

-- so many bits were read
pub bits_kept : (state : Aligner) (bits : List ℕ) → 1 ≤ recent_of state % 1024
    → 1 ≤ recent_of (after_bits state bits) % 1024
bits_kept state [] h = h
bits_kept state (bit ∷ bits) h =
    let twice : 2 * 1 ≤ nine_kept (with_bit (recent_of state) bit) % 1024 =
    double (recent_of state) bit 1 h (omega arith) in
    let next : 1 ≤ recent_of (reads_bit state bit).state % 1024 =
    subst (λ (n : ℕ). 1 ≤ n % 1024) (sym (recent_next state bit)) (omega (arith, twice)) in
    bits_kept (reads_bit state bit).state bits next

-- the same, and which bits they were
record LastBits (state : Aligner) (least x : ℕ) : Type 0 where
  many : least ≤ recent_of state % 1024
  low : recent_of state % 64 ≡ x % 64

bits_next : (state : Aligner) (least x bit next : ℕ) → LastBits state least x → least ≤ 256
    → 2 * x + bit ≡ next → LastBits (reads_bit state bit).state (2 * least) next
bits_next state least x bit next h few up = record {
  many = subst (λ (n : ℕ). 2 * least ≤ n % 1024) (sym (recent_next state bit))
      (double (recent_of state) bit least h.many few);
  low = ap (λ (n : ℕ). n % 64) (recent_next state bit)
      ∙ next_64 (recent_of state) x bit h.low ∙ ap (λ (n : ℕ). n % 64) up;
}

-- the six first bits of a group
six_read : (state : Aligner) (g : ℕ) → g < 1024 → 1 ≤ recent_of state % 1024
    → LastBits (after_bits state (six_bits g)) 64 (g / 16)
six_read state g low some =
    let p : ℕ = recent_of state in
    let n : ℕ = p * 1024 + g in
    let s0 : LastBits state 1 p = record { many = some; low = refl } in
    let t1 : Aligner = (reads_bit state (g / 512 % 2)).state in
    let s1 : LastBits t1 2 (n / 512) =
    bits_next state 1 p (g / 512 % 2) (n / 512) s0 (omega arith) (up_1 p g low) in
    let t2 : Aligner = (reads_bit t1 (g / 256 % 2)).state in
    let s2 : LastBits t2 4 (n / 256) =
    bits_next t1 2 (n / 512) (g / 256 % 2) (n / 256) s1 (omega arith) (up_2 p g) in
    let t3 : Aligner = (reads_bit t2 (g / 128 % 2)).state in
    let s3 : LastBits t3 8 (n / 128) =
    bits_next t2 4 (n / 256) (g / 128 % 2) (n / 128) s2 (omega arith) (up_3 p g) in
    let t4 : Aligner = (reads_bit t3 (g / 64 % 2)).state in
    let s4 : LastBits t4 16 (n / 64) =
    bits_next t3 8 (n / 128) (g / 64 % 2) (n / 64) s3 (omega arith) (up_4 p g) in
    let t5 : Aligner = (reads_bit t4 (g / 32 % 2)).state in
    let s5 : LastBits t5 32 (n / 32) =
    bits_next t4 16 (n / 64) (g / 32 % 2) (n / 32) s4 (omega arith) (up_5 p g) in
    let t6 : Aligner = (reads_bit t5 (g / 16 % 2)).state in
    let s6 : LastBits t6 64 (n / 16) =
    bits_next t5 32 (n / 32) (g / 16 % 2) (n / 16) s5 (omega arith) (up_6 p g) in
    let many : 64 ≤ recent_of t6 % 1024 = s6.many in
    let same : recent_of t6 % 64 ≡ n / 16 % 64 = s6.low in
    record { many = many; low = same ∙ six_low p g low }
  where
    six_low : (p g : ℕ) → g < 1024 → (p * 1024 + g) / 16 % 64 ≡ g / 16 % 64
    six_low p g low = omega arith

-- the seventh bit, where it ends a comma at a new place
comma_read : (state : Aligner) (bit : ℕ) → IsNewPlace state
    → ends_comma (with_bit (recent_of state) bit) ≡ true
    → Goes state (bit ∷ []) (at (nine_kept (with_bit (recent_of state) bit)) 7) (place_told state)
comma_read (Seeking recent) bit new one =
    let word : ℕ = with_bit recent bit in
    goes_bit (Seeking recent) (aligned_at word 7) (aligned_at word 7) bit [] None []
    (ap (λ (c : Bool). if c then align_step (aligned_at word 7) None
    else align_step (Seeking (nine_kept word)) None) one)
    (goes_none (aligned_at word 7))
comma_read (Aligned bits) bit new one =
    let word : ℕ = with_bit bits.recent bit in
    goes_bit (Aligned bits) (aligned_at word 7) (aligned_at word 7) bit [] (Some Slip) []
    (ap (λ (c : Bool). if c then align_step (aligned_at word 7) (slip_at bits.count)
    else aligned_reads word bits.count) one
    ∙ ap (λ (c : Bool). align_step (aligned_at word 7) (if c then None else Some Slip))
    (ne_eqb bits.count 6 new))
    (goes_none (aligned_at word 7))

seven_low : (g : ℕ) → g < 1024 → (2 * (g / 16) + g / 8 % 2) % 128 ≡ g / 8
seven_low g low = omega arith

-- a group with a comma at a new place
pub comma_group : (state : Aligner) (g d : ℕ) → g < 1024 → d < 1024
    → 1 ≤ recent_of state % 1024 → IsNewPlace (after_bits state (six_bits g))
    → is_comma g ≡ true → NoneWithin g d
    → (ten : ℕ) × Goes state (group_bits g) (at ten 0) (bit_pieces state (six_bits g)
    ++ place_told (after_bits state (six_bits g)) ++ Group g ∷ []) × (ten % 64 ≡ g % 64)
comma_group state g d low low_d some new one within =
    let six : Aligner = after_bits state (six_bits g) in
    let last = six_read state g low some in
    let many : 64 ≤ recent_of six % 1024 = last.many in
    let word : ℕ = with_bit (recent_of six) (g / 8 % 2) in
    let window : word % 128 ≡ g / 8 =
    word_128 (recent_of six) (g / 16) (g / 8 % 2) last.low ∙ seven_low g low in
    let comma = comma_here word g (omega (arith, many)) window one in
    let front : Goes state (six_bits g) six (bit_pieces state (six_bits g)) =
    record { after = refl; told = refl } in
    let rest = last_three g d (nine_kept word) low low_d (kept_128 word ∙ window) within in (
      rest.0,
      goes_both state (at (nine_kept word) 7) (at rest.0 0) (first_seven_bits g) (last_three_bits g)
          (bit_pieces state (six_bits g) ++ place_told six) (Group g ∷ [])
          (goes_both state six (at (nine_kept word) 7) (six_bits g) (g / 8 % 2 ∷ [])
          (bit_pieces state (six_bits g)) (place_told six) front
          (comma_read six (g / 8 % 2) new comma)) rest.1,
      rest.2,
    )
