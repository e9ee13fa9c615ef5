-- Groups in rows, as what four lanes hear of them.
use Rattle.std.specs.Prelude.{◌≡◌, ℕ, List, ◌++◌, replicate}
use Rattle.rio_chars.specs.declared.chars.Char.{Char}
use Rattle.rio_chars.specs.declared.chars.Char.TheVariants.{Special}
use Rattle.code_groups.specs.declared.disparity.Disparity.{Disparity}
use Rattle.code_groups.specs.declared.disparity.Disparity.TheVariants.{Negative}
use Rattle.code_groups.specs.Streams.{groups_from}
use Rattle.lane_columns.specs.Columns.{chars_of_columns, columns_of}
use Rattle.lane_columns.specs.Skews.{lane_from_align}
use Rattle.lane_sync.specs.declared.lane.LaneState.{LaneState}
use Rattle.lane_sync.specs.Syncing.{lane_out, LaneHearsAll}
use Rattle.lane_rows.specs.declared.hearing.FourReceivers.{FourReceivers}
use Rattle.lane_rows.specs.declared.sending.FourSenders.{FourSenders}
use Rattle.lane_rows.specs.Rows.{every_fourth, burst_rows}

abbrev pub new_receivers : ℕ → FourReceivers
new_receivers commas = record {
  a = lane_out commas Negative;
  b = lane_out commas Negative;
  c = lane_out commas Negative;
  d = lane_out commas Negative;
}

-- Each lane hears its own groups. From its first align character on, what it heard is in columns
-- with what the others heard from theirs on, as far as the shortest goes.
pub record HearsRows (commas : ℕ) (from : FourReceivers) (groups : List ℕ) (to : FourReceivers)
    (heard : List Char) : Type 0 where
  pub chars_a : List Char
  pub chars_b : List Char
  pub chars_c : List Char
  pub chars_d : List Char
  pub hears_a : LaneHearsAll commas from.a (every_fourth 0 groups) to.a chars_a
  pub hears_b : LaneHearsAll commas from.b (every_fourth 1 groups) to.b chars_b
  pub hears_c : LaneHearsAll commas from.c (every_fourth 2 groups) to.c chars_c
  pub hears_d : LaneHearsAll commas from.d (every_fourth 3 groups) to.d chars_d
  pub are : heard ≡ chars_of_columns (columns_of (lane_from_align chars_a)
      (lane_from_align chars_b) (lane_from_align chars_c) (lane_from_align chars_d))

-- what a lane carries of rows of characters that come so many rows later, with idles before them
abbrev pub late_groups : Disparity → ℕ → List Char → List ℕ
late_groups before late chars = groups_from before (replicate late (Special 0xbc) ++ chars)

-- The groups in rows are those of a burst, and each lane is late by a number of rows of its own.
pub record ComeLate (senders : FourSenders) (chars : List Char) (groups : List ℕ)
    (late_a late_b late_c late_d : ℕ) : Type 0 where
  pub lane_a : every_fourth 0 groups
      ≡ late_groups senders.a late_a (every_fourth 0 (burst_rows chars))
  pub lane_b : every_fourth 1 groups
      ≡ late_groups senders.b late_b (every_fourth 1 (burst_rows chars))
  pub lane_c : every_fourth 2 groups
      ≡ late_groups senders.c late_c (every_fourth 2 (burst_rows chars))
  pub lane_d : every_fourth 3 groups
      ≡ late_groups senders.d late_d (every_fourth 3 (burst_rows chars))
