-- A lane in sync and out of sync (RapidIO Interconnect Specification 1.3, Part 6, lane
-- synchronization; its numbers are from memory, and how many commas are wanted is a choice here).
use Rattle.std.specs.Prelude.{◌≡◌, ℕ, ◌+◌, ◌-◌, ◌/◌, ◌==◌, nat_le, nat_lt, if◌then◌else◌, Bool, true, false, List, [], ◌∷◌}
use Rattle.rio_chars.specs.declared.chars.Char.{Char}
use Rattle.rio_chars.specs.declared.chars.Char.TheVariants.{Data, Special, Invalid}
use Rattle.code_groups.specs.declared.disparity.Disparity.{Disparity}
use Rattle.code_groups.specs.declared.disparity.Disparity.TheVariants.{Negative, Positive}
use Rattle.code_groups.specs.Commas.{is_comma}
use Rattle.code_groups.specs.Disparities.{after_group}
use Rattle.code_groups.specs.Groups.{IsHeardAs}
use Rattle.lane_sync.specs.declared.lane.LaneState.{LaneState}
use Rattle.lane_sync.specs.declared.lane.LaneState.TheVariants.{Out, In}

abbrev pub lane_out : ℕ → Disparity → LaneState
lane_out missing disparity = Out (record { missing = missing; disparity = disparity })

abbrev pub lane_in : ℕ → ℕ → Disparity → LaneState
lane_in spare more disparity = In (record { spare = spare; more = more; disparity = disparity })

-- the disparity at which a group with a comma is that of a character
abbrev pub comma_disparity : ℕ → Disparity
comma_disparity group = if group / 8 == 0b0011111 then Negative else Positive

-- the disparity at which a group is read: as long as no comma is counted, a comma tells its own
abbrev pub read_at : ℕ → LaneState → ℕ → Disparity
read_at commas (Out lane) group =
    if lane.missing == commas then comma_disparity group else lane.disparity
read_at commas (In lane) group = lane.disparity

abbrev pub is_invalid : Char → Bool
is_invalid (Data byte) = false
is_invalid (Special byte) = false
is_invalid Invalid = true

-- Out of sync: an invalid group makes all commas missing again, and the last one that was missing
-- brings sync, with three invalid groups to lose it.
abbrev pub out_goes : ℕ → ℕ → Disparity → Bool → Bool → LaneState
out_goes commas missing after invalid comma =
    if invalid then lane_out commas after else
    if comma then (if nat_le missing 1 then lane_in 3 255 after else lane_out (missing - 1) after)
    else lane_out missing after

-- In sync: the third invalid group loses it, where each 255 valid ones in a row make up for one.
abbrev pub in_goes : ℕ → ℕ → ℕ → Disparity → Bool → LaneState
in_goes commas spare more after invalid =
    if invalid
    then (if nat_le spare 1 then lane_out commas after else lane_in (spare - 1) 255 after)
    else if nat_lt spare 3
    then (if nat_le more 1 then lane_in (spare + 1) 255 after else lane_in spare (more - 1) after)
    else lane_in spare more after

-- after a group that is read so
abbrev pub lane_goes : ℕ → LaneState → ℕ → Char → LaneState
lane_goes commas (Out lane) group read =
    out_goes commas lane.missing (after_group (read_at commas (Out lane) group) group)
    (is_invalid read) (is_comma group)
lane_goes commas (In lane) group read =
    in_goes commas lane.spare lane.more (after_group lane.disparity group) (is_invalid read)

-- what is told of a group: what was read if the lane is in sync after it, and else no character
abbrev pub told_char : LaneState → Char → Char
told_char (Out lane) read = Invalid
told_char (In lane) read = read

-- A group on a lane that wants so many commas: the state after it, and the character that is heard.
pub record LaneHears (commas : ℕ) (from : LaneState) (group : ℕ) (to : LaneState) (heard : Char) :
    Type 0 where
  pub read : Char
  pub is_read : IsHeardAs (read_at commas from group) group read
  pub goes : to ≡ lane_goes commas from group read
  pub tells : heard ≡ told_char to read

-- groups one after another
abbrev pub LaneHearsAll : ℕ → LaneState → List ℕ → LaneState → List Char → Type 0
LaneHearsAll commas from [] to heard = (to ≡ from) × (heard ≡ [])
LaneHearsAll commas from (group ∷ groups) to [] = ⊥
LaneHearsAll commas from (group ∷ groups) to (c ∷ heard) =
    (next : LaneState) × LaneHears commas from group next c
    × LaneHearsAll commas next groups to heard
