-- What a lane hears of the pieces of a stream of bits.
use Rattle.std.specs.Prelude.{◌≡◌, ◌≢◌, ℕ, ◌<◌, ◌/◌, ◌%◌, ◌||◌, List, [], ◌∷◌, ◌++◌, map, Option, Some, None}
use Rattle.rio_chars.specs.declared.chars.Char.{Char}
use Rattle.code_groups.specs.declared.disparity.Disparity.TheVariants.{Negative}
use Rattle.lane_sync.specs.declared.lane.LaneState.{LaneState}
use Rattle.lane_sync.specs.Syncing.{lane_out, LaneHears}
use Rattle.lane_bits.specs.declared.align.Aligner.{Aligner}
use Rattle.lane_bits.specs.declared.align.Aligner.TheVariants.{Seeking, Aligned}
use Rattle.lane_bits.specs.declared.align.BitPiece.{BitPiece}
use Rattle.lane_bits.specs.declared.align.BitPiece.TheVariants.{Slip, Group}

-- Groups are heard one after another. A slip puts the lane out of sync: what comes after it is
-- heard from the comma on, as at the beginning.
abbrev pub HearsPieces : ℕ → LaneState → List BitPiece → LaneState → List Char → Type 0
HearsPieces commas from [] to heard = (to ≡ from) × (heard ≡ [])
HearsPieces commas from (Slip ∷ pieces) to heard =
    HearsPieces commas (lane_out commas Negative) pieces to heard
HearsPieces commas from (Group group ∷ pieces) to [] = ⊥
HearsPieces commas from (Group group ∷ pieces) to (c ∷ heard) = (next : LaneState)
    × LaneHears commas from group next c × HearsPieces commas next pieces to heard

-- each group has ten bits
abbrev pub HoldTens : List BitPiece → Type 0
HoldTens [] = Unit {0}
HoldTens (Slip ∷ pieces) = HoldTens pieces
HoldTens (Group group ∷ pieces) = (group < 1024) × HoldTens pieces

-- The first six bits of a group were read, and no group begins where this one does: either no comma
-- was read at all, or the last one was at another place. So the comma of this group is a new one.
abbrev pub IsNewPlace : Aligner → Type 0
IsNewPlace (Seeking recent) = Unit {0}
IsNewPlace (Aligned bits) = bits.count ≢ 6

-- what a comma at such a place ends: a slip, unless it is the first one
abbrev pub place_told : Aligner → List BitPiece
place_told (Seeking recent) = []
place_told (Aligned bits) = Slip ∷ []

-- the first six bits of a group
abbrev pub six_bits : ℕ → List ℕ
six_bits group =
    group / 512 % 2 ∷ group / 256 % 2 ∷ group / 128 % 2 ∷ group / 64 % 2 ∷ group / 32 % 2
    ∷ group / 16 % 2 ∷ []
