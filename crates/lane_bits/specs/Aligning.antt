-- Where groups begin in a stream of bits: each comma begins one, and from there each tenth bit
-- does.
use Rattle.std.specs.Prelude.{◌≡◌, ℕ, ◌+◌, ◌-◌, ◌*◌, ◌/◌, ◌%◌, ◌==◌, ◌<◌, nat_le, nat_lt, ◌&&◌, ◌||◌, if◌then◌else◌, Bool, true, false, List, [], ◌∷◌, ◌++◌, map, Option, Some, None}
use Rattle.lane_bits.specs.declared.align.Aligner.{Aligner}
use Rattle.lane_bits.specs.declared.align.Aligner.TheVariants.{Seeking, Aligned}
use Rattle.lane_bits.specs.declared.align.AlignStep.{AlignStep}
use Rattle.lane_bits.specs.declared.align.BitPiece.{BitPiece}
use Rattle.lane_bits.specs.declared.align.BitPiece.TheVariants.{Slip, Group}

-- The bits that were read last, as a number: a one stands before them, so that it tells how many
-- they are. A new aligner has read none.
abbrev pub with_bit : ℕ → ℕ → ℕ
with_bit recent bit = 2 * (recent % 1024) + bit

-- no more than nine of them are kept
abbrev pub nine_kept : ℕ → ℕ
nine_kept word = if nat_lt word 1024 then word else 512 + word % 512

-- whether the last seven of them are a comma
abbrev pub ends_comma : ℕ → Bool
ends_comma word =
    nat_le 128 word && ((word % 128 == 0b0011111) || (word % 128 == 0b1100000))

abbrev pub new_aligner : Aligner
new_aligner = Seeking 1

abbrev pub aligned_at : ℕ → ℕ → Aligner
aligned_at word count = Aligned (record { recent = nine_kept word; count = count })

abbrev pub align_step : Aligner → Option BitPiece → AlignStep
align_step state piece = record { state = state; piece = piece }

-- The seventh bit of a group ends its comma. A comma that ends at any other bit of a group is a
-- slip: the bits that were gathered are dropped, and the group of the comma begins.
abbrev pub slip_at : ℕ → Option BitPiece
slip_at count = if count == 6 then None else Some Slip

-- The tenth bit ends a group.
abbrev pub aligned_reads : ℕ → ℕ → AlignStep
aligned_reads word count =
    if nat_le 9 count then align_step (aligned_at word 0) (Some (Group (word % 1024)))
    else align_step (aligned_at word (count + 1)) None

-- a bit, by what was read so far
abbrev pub reads_bit : Aligner → ℕ → AlignStep
reads_bit (Seeking recent) bit =
    if ends_comma (with_bit recent bit)
    then align_step (aligned_at (with_bit recent bit) 7) None
    else align_step (Seeking (nine_kept (with_bit recent bit))) None
reads_bit (Aligned bits) bit =
    if ends_comma (with_bit bits.recent bit)
    then align_step (aligned_at (with_bit bits.recent bit) 7) (slip_at bits.count)
    else aligned_reads (with_bit bits.recent bit) bits.count

-- bits one after another: the aligner after them, and the pieces that they end
abbrev pub after_bits : Aligner → List ℕ → Aligner
after_bits state [] = state
after_bits state (bit ∷ bits) = after_bits (reads_bit state bit).state bits

abbrev pub with_piece : Option BitPiece → List BitPiece → List BitPiece
with_piece None pieces = pieces
with_piece (Some piece) pieces = piece ∷ pieces

abbrev pub bit_pieces : Aligner → List ℕ → List BitPiece
bit_pieces state [] = []
bit_pieces state (bit ∷ bits) =
    with_piece (reads_bit state bit).piece (bit_pieces (reads_bit state bit).state bits)

-- each is 0 or 1
abbrev pub AreBits : List ℕ → Type 0
AreBits [] = Unit {0}
AreBits (bit ∷ bits) = (bit < 2) × AreBits bits

-- the digits of these bits
pub record SpellBits (text bits : List ℕ) : Type 0 where
  pub are_bits : AreBits bits
  pub are : text ≡ map (λ (bit : ℕ). 48 + bit) bits

-- the ten bits of a group in the order in which they are sent, and those of groups
abbrev pub group_bits : ℕ → List ℕ
group_bits group =
    group / 512 % 2 ∷ group / 256 % 2 ∷ group / 128 % 2 ∷ group / 64 % 2 ∷ group / 32 % 2
    ∷ group / 16 % 2 ∷ group / 8 % 2 ∷ group / 4 % 2 ∷ group / 2 % 2 ∷ group % 2 ∷ []

abbrev pub bits_of_groups : List ℕ → List ℕ
bits_of_groups [] = []
bits_of_groups (group ∷ groups) = group_bits group ++ bits_of_groups groups
