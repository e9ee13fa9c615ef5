-- The ten bits of a group, one after another, where groups begin at its first one.
use Rattle.std.proofs.Common.{◌≡◌, ◌≢◌, ℕ, zero, suc, ◌+◌, ◌*◌, ◌/◌, ◌%◌, ◌<◌, ◌≤◌, ◌==◌, nat_lt, nat_le, if◌then◌else◌, Bool, true, false, List, [], ◌∷◌, ◌++◌, map, Option, Some, None, refl, sym, ap, ◌∙◌, subst, arith, append_assoc}
use Rattle.std.proofs.lemmas.Bool.{ne_eqb}
use Rattle.rio_chars.specs.declared.chars.Char.{Char}
use Rattle.rio_chars.specs.declared.chars.Char.TheVariants.{Data, Special}
use Rattle.code_groups.specs.declared.disparity.Disparity.{Disparity}
use Rattle.code_groups.specs.Commas.{is_comma, ten_bits_at}
use Rattle.lane_bits.specs.declared.align.Aligner.{Aligner}
use Rattle.lane_bits.specs.declared.align.Aligner.TheVariants.{Seeking, Aligned}
use Rattle.lane_bits.specs.declared.align.AlignStep.{AlignStep}
use Rattle.lane_bits.specs.declared.align.BitPiece.{BitPiece}
use Rattle.lane_bits.specs.declared.align.BitPiece.TheVariants.{Slip, Group}
use Rattle.lane_bits.specs.Aligning.{with_bit, nine_kept, ends_comma, aligned_at, align_step, slip_at, aligned_reads, reads_bit, after_bits, with_piece, bit_pieces, group_bits}
use Rattle.lane_bits.specs.BitHearing.{IsNewPlace, place_told, six_bits}
use Rattle.lane_bits.proofs.BitLaws.{after_both, pieces_both}
use Rattle.lane_bits.proofs.PlaceLaws.{no_comma_here, comma_here, kept_low, kept_small, kept_many, next_64, word_128, kept_128, next_256, next_512, word_1024}

-- Bits lead from one aligner to another, and end these pieces.
pub record Goes (from : Aligner) (bits : List ℕ) (to : Aligner) (pieces : List BitPiece) : Type 0
  where
    pub after : after_bits from bits ≡ to
    pub told : bit_pieces from bits ≡ pieces

pub goes_none : (from : Aligner) → Goes from [] from []
goes_none from = record { after = refl; told = refl }

pub goes_bit : (from state to : Aligner) (bit : ℕ) (bits : List ℕ) (piece : Option BitPiece)
    (pieces : List BitPiece) → reads_bit from bit ≡ align_step state piece
    → Goes state bits to pieces → Goes from (bit ∷ bits) to (with_piece piece pieces)
goes_bit from state to bit bits piece pieces e h = record {
  after = ap (λ (s : AlignStep). after_bits s.state bits) e ∙ h.after;
  told =
      ap (λ (s : AlignStep). with_piece s.piece (bit_pieces s.state bits)) e
      ∙ ap (with_piece piece) h.told;
}

pub goes_both : (from mid to : Aligner) (bits more : List ℕ) (pieces others : List BitPiece)
    → Goes from bits mid pieces → Goes mid more to others
    → Goes from (bits ++ more) to (pieces ++ others)
goes_both from mid to bits more pieces others h k = record {
  after =
      after_both from bits more
      ∙ ap (λ (s : Aligner). after_bits s more) h.after ∙ k.after;
  told =
      pieces_both from bits more
      ∙ ap (λ (s : Aligner). bit_pieces from bits ++ bit_pieces s more) h.after
      ∙ ap (λ (ps : List BitPiece). bit_pieces from bits ++ ps) k.told
      ∙ ap (λ (ps : List BitPiece). ps ++ others) h.told;
}

abbrev pub at : ℕ → ℕ → Aligner
at recent count = Aligned (record { recent = recent; count = count })

plain : (recent count bit : ℕ) → ends_comma (with_bit recent bit) ≡ false
    → reads_bit (at recent count) bit ≡ aligned_reads (with_bit recent bit) count
plain recent count bit none =
    let word : ℕ = with_bit recent bit in
    ap (λ (c : Bool). if c then align_step (aligned_at word 7) (slip_at count)
    else aligned_reads word count) none

seventh_so : (c : Bool) (word : ℕ)
    → (if c then align_step (aligned_at word 7) (slip_at 6) else aligned_reads word 6)
    ≡ align_step (aligned_at word 7) None
seventh_so true word = refl
seventh_so false word = refl

seventh : (recent bit : ℕ)
    → reads_bit (at recent 6) bit ≡ align_step (aligned_at (with_bit recent bit) 7) None
seventh recent bit = seventh_so (ends_comma (with_bit recent bit)) (with_bit recent bit)

-- the bits of two groups that were read when one more was
pub up_1 : (p g : ℕ) → g < 1024 → 2 * p + g / 512 % 2 ≡ (p * 1024 + g) / 512
up_1 p g low = omega arith

pub up_2 : (p g : ℕ) → 2 * ((p * 1024 + g) / 512) + g / 256 % 2 ≡ (p * 1024 + g) / 256
up_2 p g = omega arith

pub up_3 : (p g : ℕ) → 2 * ((p * 1024 + g) / 256) + g / 128 % 2 ≡ (p * 1024 + g) / 128
up_3 p g = omega arith

pub up_4 : (p g : ℕ) → 2 * ((p * 1024 + g) / 128) + g / 64 % 2 ≡ (p * 1024 + g) / 64
up_4 p g = omega arith

pub up_5 : (p g : ℕ) → 2 * ((p * 1024 + g) / 64) + g / 32 % 2 ≡ (p * 1024 + g) / 32
up_5 p g = omega arith

pub up_6 : (p g : ℕ) → 2 * ((p * 1024 + g) / 32) + g / 16 % 2 ≡ (p * 1024 + g) / 16
up_6 p g = omega arith

up_7 : (p g : ℕ) → g < 1024 → (2 * ((p * 1024 + g) / 16) + g / 8 % 2) % 128 ≡ g / 8
up_7 p g low = omega arith

-- the seven last of them
seven_so_1 : (n : ℕ) → n / 512 % 128 ≡ n / 64 % 1024 / 8
seven_so_1 n = omega arith

seven_so_2 : (n : ℕ) → n / 256 % 128 ≡ n / 32 % 1024 / 8
seven_so_2 n = omega arith

seven_so_3 : (n : ℕ) → n / 128 % 128 ≡ n / 16 % 1024 / 8
seven_so_3 n = omega arith

seven_so_4 : (n : ℕ) → n / 64 % 128 ≡ n / 8 % 1024 / 8
seven_so_4 n = omega arith

seven_so_5 : (n : ℕ) → n / 32 % 128 ≡ n / 4 % 1024 / 8
seven_so_5 n = omega arith

seven_so_6 : (n : ℕ) → n / 16 % 128 ≡ n / 2 % 1024 / 8
seven_so_6 n = omega arith

-- no comma begins in a group but at its first bit, up to this place
pub record NoneFrom (p g : ℕ) : Type 0 where
  pub at_4 : is_comma (ten_bits_at 4 p g) ≡ false
  pub at_5 : is_comma (ten_bits_at 5 p g) ≡ false
  pub at_6 : is_comma (ten_bits_at 6 p g) ≡ false
  pub at_7 : is_comma (ten_bits_at 7 p g) ≡ false
  pub at_8 : is_comma (ten_bits_at 8 p g) ≡ false
  pub at_9 : is_comma (ten_bits_at 9 p g) ≡ false

pub record NoneWithin (g d : ℕ) : Type 0 where
  pub at_1 : is_comma (ten_bits_at 1 g d) ≡ false
  pub at_2 : is_comma (ten_bits_at 2 g d) ≡ false
  pub at_3 : is_comma (ten_bits_at 3 g d) ≡ false

-- one of the first six bits
record OneRead (recent count bit next : ℕ) : Type 0 where
  read : reads_bit (at recent count) bit ≡ aligned_reads (with_bit recent bit) count
  low : nine_kept (with_bit recent bit) % 64 ≡ next % 64

one_read : (recent count x bit next w : ℕ) → recent % 64 ≡ x % 64 → 2 * x + bit ≡ next
    → next % 128 ≡ w / 8 → is_comma w ≡ false → OneRead recent count bit next
one_read recent count x bit next w same up seven none =
    let word : ℕ = with_bit recent bit in
    let window : word % 128 ≡ w / 8 =
    word_128 recent x bit same ∙ ap (λ (n : ℕ). n % 128) up ∙ seven in
    record {
      read = plain recent count bit (no_comma_here word w window none);
      low = next_64 recent x bit same ∙ ap (λ (n : ℕ). n % 64) up;
    }

abbrev pub first_seven_bits : ℕ → List ℕ
first_seven_bits group =
    group / 512 % 2 ∷ group / 256 % 2 ∷ group / 128 % 2 ∷ group / 64 % 2 ∷ group / 32 % 2
    ∷ group / 16 % 2 ∷ group / 8 % 2 ∷ []

abbrev pub last_three_bits : ℕ → List ℕ
last_three_bits group = group / 4 % 2 ∷ group / 2 % 2 ∷ group % 2 ∷ []

first_seven : (p g recent : ℕ) → g < 1024 → recent % 64 ≡ p % 64 → NoneFrom p g
    → (seven : ℕ) × Goes (at recent 0) (first_seven_bits g) (at seven 7) []
    × (seven % 128 ≡ g / 8)
first_seven p g recent low same none =
    let n : ℕ = p * 1024 + g in
    let h1 : OneRead recent 0 (g / 512 % 2) (n / 512) =
    one_read recent 0 p (g / 512 % 2) (n / 512) (ten_bits_at 4 p g) same (up_1 p g low)
    (seven_so_1 n) none.at_4 in
    let r1 : ℕ = nine_kept (with_bit recent (g / 512 % 2)) in
    let h2 : OneRead r1 1 (g / 256 % 2) (n / 256) =
    one_read r1 1 (n / 512) (g / 256 % 2) (n / 256) (ten_bits_at 5 p g) h1.low (up_2 p g)
    (seven_so_2 n) none.at_5 in
    let r2 : ℕ = nine_kept (with_bit r1 (g / 256 % 2)) in
    let h3 : OneRead r2 2 (g / 128 % 2) (n / 128) =
    one_read r2 2 (n / 256) (g / 128 % 2) (n / 128) (ten_bits_at 6 p g) h2.low (up_3 p g)
    (seven_so_3 n) none.at_6 in
    let r3 : ℕ = nine_kept (with_bit r2 (g / 128 % 2)) in
    let h4 : OneRead r3 3 (g / 64 % 2) (n / 64) =
    one_read r3 3 (n / 128) (g / 64 % 2) (n / 64) (ten_bits_at 7 p g) h3.low (up_4 p g)
    (seven_so_4 n) none.at_7 in
    let r4 : ℕ = nine_kept (with_bit r3 (g / 64 % 2)) in
    let h5 : OneRead r4 4 (g / 32 % 2) (n / 32) =
    one_read r4 4 (n / 64) (g / 32 % 2) (n / 32) (ten_bits_at 8 p g) h4.low (up_5 p g)
    (seven_so_5 n) none.at_8 in
    let r5 : ℕ = nine_kept (with_bit r4 (g / 32 % 2)) in
    let h6 : OneRead r5 5 (g / 16 % 2) (n / 16) =
    one_read r5 5 (n / 32) (g / 16 % 2) (n / 16) (ten_bits_at 9 p g) h5.low (up_6 p g)
    (seven_so_6 n) none.at_9 in
    let r6 : ℕ = nine_kept (with_bit r5 (g / 16 % 2)) in
    let w7 : ℕ = with_bit r6 (g / 8 % 2) in
    let r7 : ℕ = nine_kept w7 in
    let to : Aligner = at r7 7 in (
      r7,
      goes_bit (at recent 0) (at r1 1) to (g / 512 % 2) _ None [] h1.read
          (goes_bit (at r1 1) (at r2 2) to (g / 256 % 2) _ None [] h2.read
          (goes_bit (at r2 2) (at r3 3) to (g / 128 % 2) _ None [] h3.read
          (goes_bit (at r3 3) (at r4 4) to (g / 64 % 2) _ None [] h4.read
          (goes_bit (at r4 4) (at r5 5) to (g / 32 % 2) _ None [] h5.read
          (goes_bit (at r5 5) (at r6 6) to (g / 16 % 2) _ None [] h6.read
          (goes_bit (at r6 6) to to (g / 8 % 2) [] None [] (seventh r6 (g / 8 % 2))
          (goes_none to))))))),
      kept_128 w7 ∙ word_128 r6 (n / 16) (g / 8 % 2) h6.low ∙ up_7 p g low,
    )

-- the last three bits
within_1 : (g d : ℕ) → d < 1024
    → (2 * (g / 8) + g / 4 % 2) % 128 ≡ (g * 1024 + d) / 512 % 1024 / 8
within_1 g d low = omega arith

within_2 : (g d : ℕ) → d < 1024
    → (2 * (g / 4) + g / 2 % 2) % 128 ≡ (g * 1024 + d) / 256 % 1024 / 8
within_2 g d low = omega arith

within_3 : (g d : ℕ) → d < 1024
    → (2 * (g / 2) + g % 2) % 128 ≡ (g * 1024 + d) / 128 % 1024 / 8
within_3 g d low = omega arith

eight : (g : ℕ) → g < 1024 → (2 * (g / 8) + g / 4 % 2) % 256 ≡ g / 4
eight g low = omega arith

nine : (g : ℕ) → g < 1024 → (2 * (g / 4) + g / 2 % 2) % 512 ≡ g / 2
nine g low = omega arith

ten : (g : ℕ) → g < 1024 → (2 * (g / 2) + g % 2) % 1024 ≡ g
ten g low = omega arith

low_64_of_128 : (r x : ℕ) → r % 128 ≡ x → r % 64 ≡ x % 64
low_64_of_128 r x h = omega (arith, h)

low_64_of_256 : (r x : ℕ) → r % 256 ≡ x → r % 64 ≡ x % 64
low_64_of_256 r x h = omega (arith, h)

low_64_of_512 : (r x : ℕ) → r % 512 ≡ x → r % 64 ≡ x % 64
low_64_of_512 r x h = omega (arith, h)

low_64_of_word : (word g : ℕ) → word % 1024 ≡ g → nine_kept word % 64 ≡ g % 64
low_64_of_word word g h = let low = kept_low word in omega (arith, h, low)

bit_low : (n : ℕ) → n % 2 < 2
bit_low n = omega arith

pub last_three : (g d recent : ℕ) → g < 1024 → d < 1024 → recent % 128 ≡ g / 8 → NoneWithin g d
    → (ten : ℕ) × Goes (at recent 7) (last_three_bits g) (at ten 0) (Group g ∷ [])
    × (ten % 64 ≡ g % 64)
last_three g d recent low low_d same none =
    let b8 : ℕ = g / 4 % 2 in
    let b9 : ℕ = g / 2 % 2 in
    let b10 : ℕ = g % 2 in
    let w8 : ℕ = with_bit recent b8 in
    let r8 : ℕ = nine_kept w8 in
    let w9 : ℕ = with_bit r8 b9 in
    let r9 : ℕ = nine_kept w9 in
    let w10 : ℕ = with_bit r9 b10 in
    let r10 : ℕ = nine_kept w10 in
    let s8 : r8 % 256 ≡ g / 4 = next_256 recent (g / 8) b8 same ∙ eight g low in
    let s9 : r9 % 512 ≡ g / 2 = next_512 r8 (g / 4) b9 s8 ∙ nine g low in
    let s10 : w10 % 1024 ≡ g = word_1024 r9 (g / 2) b10 s9 (bit_low g) ∙ ten g low in
    let n8 : ends_comma w8 ≡ false =
    no_comma_here w8 (ten_bits_at 1 g d)
    (word_128 recent (g / 8) b8 (low_64_of_128 recent (g / 8) same) ∙ within_1 g d low_d)
    none.at_1 in
    let n9 : ends_comma w9 ≡ false =
    no_comma_here w9 (ten_bits_at 2 g d)
    (word_128 r8 (g / 4) b9 (low_64_of_256 r8 (g / 4) s8) ∙ within_2 g d low_d) none.at_2 in
    let n10 : ends_comma w10 ≡ false =
    no_comma_here w10 (ten_bits_at 3 g d)
    (word_128 r9 (g / 2) b10 (low_64_of_512 r9 (g / 2) s9) ∙ within_3 g d low_d) none.at_3 in
    let to : Aligner = at r10 0 in
    let last : reads_bit (at r9 9) b10 ≡ align_step to (Some (Group g)) =
    plain r9 9 b10 n10
    ∙ ap (λ (x : ℕ). align_step (aligned_at w10 0) (Some (Group x))) s10 in (
      r10,
      goes_bit (at recent 7) (at r8 8) to b8 _ None (Group g ∷ []) (plain recent 7 b8 n8)
          (goes_bit (at r8 8) (at r9 9) to b9 _ None (Group g ∷ []) (plain r8 8 b9 n9)
          (goes_bit (at r9 9) to to b10 [] (Some (Group g)) [] last (goes_none to))),
      low_64_of_word w10 g s10,
    )

-- a whole group where groups begin
pub one_group : (p g d recent : ℕ) → g < 1024 → d < 1024 → recent % 64 ≡ p % 64 → NoneFrom p g
    → NoneWithin g d
    → (ten : ℕ) × Goes (at recent 0) (group_bits g) (at ten 0) (Group g ∷ []) × (ten % 64 ≡ g % 64)
one_group p g d recent low low_d same from within =
    let seven = first_seven p g recent low same from in
    let rest = last_three g d seven.0 low low_d seven.2 within in (
      rest.0,
      goes_both (at recent 0) (at seven.0 7) (at rest.0 0) (first_seven_bits g)
          (last_three_bits g) [] (Group g ∷ []) seven.1 rest.1,
      rest.2,
    )
