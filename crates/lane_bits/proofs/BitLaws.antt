-- Bits one after another, and the pieces that they end.
use Rattle.std.proofs.Common.{◌≡◌, ◌≢◌, ℕ, zero, suc, ◌+◌, ◌*◌, ◌/◌, ◌%◌, ◌<◌, ◌≤◌, ◌==◌, ◌-◌, nat_lt, nat_le, if◌then◌else◌, Bool, true, false, List, [], ◌∷◌, ◌++◌, length, get_or, take, drop, map, Option, Some, None, refl, sym, ap, ◌∙◌, subst, arith, append-nil}
use Rattle.lane_bits.specs.declared.align.Aligner.{Aligner}
use Rattle.lane_bits.specs.declared.align.Aligner.TheVariants.{Seeking, Aligned}
use Rattle.lane_bits.specs.declared.align.AlignStep.{AlignStep}
use Rattle.lane_bits.specs.declared.align.BitPiece.{BitPiece}
use Rattle.lane_bits.specs.declared.align.BitPiece.TheVariants.{Slip, Group}
use Rattle.lane_bits.specs.Aligning.{with_bit, nine_kept, ends_comma, aligned_at, align_step, slip_at, aligned_reads, reads_bit, after_bits, with_piece, bit_pieces, AreBits, SpellBits}
use Rattle.lane_bits.specs.BitHearing.{HoldTens}

pub after_both : (state : Aligner) (bits more : List ℕ)
    → after_bits state (bits ++ more) ≡ after_bits (after_bits state bits) more
after_both state [] more = refl
after_both state (bit ∷ bits) more = after_both (reads_bit state bit).state bits more

with_both : (piece : Option BitPiece) (pieces more : List BitPiece)
    → with_piece piece (pieces ++ more) ≡ with_piece piece pieces ++ more
with_both None pieces more = refl
with_both (Some piece) pieces more = refl

pub pieces_both : (state : Aligner) (bits more : List ℕ)
    → bit_pieces state (bits ++ more)
    ≡ bit_pieces state bits ++ bit_pieces (after_bits state bits) more
pieces_both state [] more = refl
pieces_both state (bit ∷ bits) more =
    ap (with_piece (reads_bit state bit).piece) (pieces_both (reads_bit state bit).state bits more)
    ∙ with_both (reads_bit state bit).piece (bit_pieces (reads_bit state bit).state bits)
    (bit_pieces (after_bits (reads_bit state bit).state bits) more)

-- each group that is read has ten bits
if_holds : (c : Bool) (x y : AlignStep) → HoldTens (with_piece x.piece [])
    → HoldTens (with_piece y.piece [])
    → HoldTens (with_piece (if c then x else y).piece [])
if_holds true x y h k = h
if_holds false x y h k = k

slip_holds : (c : Bool)
    → HoldTens (with_piece (if c then None else Some Slip) [])
slip_holds true = tt
slip_holds false = tt

ten_holds : (word : ℕ) → word % 1024 < 1024
ten_holds word = omega arith

bit_holds : (state : Aligner) (bit : ℕ) → HoldTens (with_piece (reads_bit state bit).piece [])
bit_holds (Seeking recent) bit =
    if_holds (ends_comma (with_bit recent bit))
    (align_step (aligned_at (with_bit recent bit) 7) None)
    (align_step (Seeking (nine_kept (with_bit recent bit))) None) tt tt
bit_holds (Aligned bits) bit =
    let word : ℕ = with_bit bits.recent bit in
    if_holds (ends_comma word)
    (align_step (aligned_at word 7) (slip_at bits.count))
    (aligned_reads word bits.count)
    (slip_holds (bits.count == 6))
    (if_holds (nat_le 9 bits.count)
    (align_step (aligned_at word 0) (Some (Group (word % 1024))))
    (align_step (aligned_at word (bits.count + 1)) None) (ten_holds word, tt) tt)

with_holds : (piece : Option BitPiece) (pieces : List BitPiece) → HoldTens (with_piece piece [])
    → HoldTens pieces → HoldTens (with_piece piece pieces)
with_holds None pieces h k = k
with_holds (Some Slip) pieces h k = k
with_holds (Some (Group group)) pieces h k = (h.0, k)

pub pieces_hold : (state : Aligner) (bits : List ℕ) → HoldTens (bit_pieces state bits)
pieces_hold state [] = tt
pieces_hold state (bit ∷ bits) =
    with_holds (reads_bit state bit).piece (bit_pieces (reads_bit state bit).state bits)
    (bit_holds state bit) (pieces_hold (reads_bit state bit).state bits)

-- These digits were read, and these are left.
pub record DigitsDone (begin : Aligner) (digits left : List ℕ) (state : Aligner)
    (pieces : List BitPiece) : Type 0 where
  pub bits : List ℕ
  pub are_bits : AreBits bits
  pub spelled : digits ≡ map (λ (bit : ℕ). 48 + bit) bits ++ left
  pub stands : state ≡ after_bits begin bits
  pub told : pieces ≡ bit_pieces begin bits

pub none_done : (begin : Aligner) (digits : List ℕ) (pieces : List BitPiece) → pieces ≡ []
    → DigitsDone begin digits digits begin pieces
none_done begin digits pieces none = record {
  bits = [];
  are_bits = tt;
  spelled = refl;
  stands = refl;
  told = none;
}

bits_more : (bits : List ℕ) (bit : ℕ) → AreBits bits → bit < 2 → AreBits (bits ++ bit ∷ [])
bits_more [] bit h k = (k, tt)
bits_more (b ∷ bits) bit h k = (h.0, bits_more bits bit h.1 k)

spelled_more : (bits : List ℕ) (bit : ℕ) (rest : List ℕ)
    → map (λ (b : ℕ). 48 + b) bits ++ (48 + bit) ∷ rest
    ≡ map (λ (b : ℕ). 48 + b) (bits ++ bit ∷ []) ++ rest
spelled_more [] bit rest = refl
spelled_more (b ∷ bits) bit rest = ap (λ (l : List ℕ). (48 + b) ∷ l) (spelled_more bits bit rest)

-- the first of a list, and those after it
all_taken : (xs : List ℕ) → take (length xs) xs ≡ xs
all_taken [] = refl
all_taken (x ∷ xs) = ap (λ (l : List ℕ). x ∷ l) (all_taken xs)

front_of : (left : List ℕ) (d : ℕ) → 1 ≤ length left
    → left ≡ get_or left 0 d ∷ take (length left - 1) (drop 1 left)
front_of [] d some = absurd (omega arith)
front_of (c ∷ left) d some =
    let same : length (c ∷ left) - 1 ≡ length left = omega arith in
    ap (λ (l : List ℕ). c ∷ l) (sym (ap (λ (n : ℕ). take n left) same ∙ all_taken left))

pub one_done : (begin : Aligner) (digits left : List ℕ) (state : Aligner)
    (pieces next_pieces : List BitPiece) (bit d : ℕ) (step : AlignStep)
    → DigitsDone begin digits left state pieces → 1 ≤ length left
    → get_or left 0 d ≡ 48 + bit → bit < 2 → step ≡ reads_bit state bit
    → next_pieces ≡ pieces ++ with_piece step.piece []
    → DigitsDone begin digits (take (length left - 1) (drop 1 left)) step.state next_pieces
one_done begin digits left state pieces next_pieces bit d step h some is low read more =
    let rest : List ℕ = take (length left - 1) (drop 1 left) in
    record {
      bits = h.bits ++ bit ∷ [];
      are_bits = bits_more h.bits bit h.are_bits low;
      spelled =
          h.spelled
          ∙ ap (λ (l : List ℕ). map (λ (b : ℕ). 48 + b) h.bits ++ l)
          (front_of left d some ∙ ap (λ (x : ℕ). x ∷ rest) is)
          ∙ spelled_more h.bits bit rest;
      stands =
          ap (λ (s : AlignStep). s.state) read
          ∙ ap (λ (s : Aligner). (reads_bit s bit).state) h.stands
          ∙ sym (after_both begin h.bits (bit ∷ []));
      told =
          more
          ∙ ap (λ (s : AlignStep). pieces ++ with_piece s.piece []) read
          ∙ ap (λ (ps : List BitPiece). ps ++ with_piece (reads_bit state bit).piece []) h.told
          ∙ ap (λ (s : Aligner). bit_pieces begin h.bits ++ with_piece (reads_bit s bit).piece [])
          h.stands
          ∙ sym (pieces_both begin h.bits (bit ∷ []));
    }

-- a byte that is no digit
stops : (done bits : List ℕ) (digit : ℕ) (rest : List ℕ) → digit ≢ 48 → digit ≢ 49 → AreBits bits
    → map (λ (b : ℕ). 48 + b) done ++ digit ∷ rest ≡ map (λ (b : ℕ). 48 + b) bits → ⊥
stops [] [] digit rest zero_not one_not h is = absurd cc
stops [] (zero ∷ bits) digit rest zero_not one_not h is = zero_not cc
stops [] (suc zero ∷ bits) digit rest zero_not one_not h is = one_not cc
stops [] (suc (suc b) ∷ bits) digit rest zero_not one_not h is = absurd (omega (arith, h.0))
stops (d ∷ done) [] digit rest zero_not one_not h is = absurd cc
stops (d ∷ done) (b ∷ bits) digit rest zero_not one_not h is =
    stops done bits digit rest zero_not one_not h.1 cc

pub digit_stops : (begin : Aligner) (digits left : List ℕ) (state : Aligner)
    (pieces : List BitPiece) (d : ℕ) → DigitsDone begin digits left state pieces
    → 1 ≤ length left → get_or left 0 d ≢ 48 → get_or left 0 d ≢ 49
    → (bits : List ℕ) → ¬ SpellBits digits bits
digit_stops begin digits left state pieces d h some zero_not one_not bits spelled =
    stops h.bits bits (get_or left 0 d) (take (length left - 1) (drop 1 left)) zero_not one_not
    spelled.are_bits
    (sym (h.spelled ∙ ap (λ (l : List ℕ). map (λ (b : ℕ). 48 + b) h.bits ++ l)
    (front_of left d some)) ∙ spelled.are)

pub all_done : (begin : Aligner) (digits left : List ℕ) (state : Aligner)
    (pieces : List BitPiece) → DigitsDone begin digits left state pieces → left ≡ []
    → (bits : List ℕ) × SpellBits digits bits × (state ≡ after_bits begin bits)
    × (pieces ≡ bit_pieces begin bits) × HoldTens pieces
all_done begin digits left state pieces h none = (
  h.bits,
  record {
    are_bits = h.are_bits;
    are =
        h.spelled
        ∙ ap (λ (l : List ℕ). map (λ (b : ℕ). 48 + b) h.bits ++ l) none
        ∙ append-nil (map (λ (b : ℕ). 48 + b) h.bits);
  },
  h.stands,
  h.told,
  subst HoldTens (sym h.told) (pieces_hold begin h.bits),
)
