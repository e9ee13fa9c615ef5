-- The tasks of the program, by their words.
use Rattle.std.specs.Prelude.{ℕ, List, [], codes}
use Rattle.code_groups.specs.declared.disparity.Disparity.TheVariants.{Negative}
use Rattle.lane_bits.specs.Aligning.{new_aligner}
use Rattle.lane_rows.specs.RowHearing.{new_receivers}
use Rattle.lane_rows.specs.RowSending.{new_senders}
use Rattle.lane_sync.specs.Syncing.{lane_out}
use Rattle.rio_lane.specs.declared.ends.LaneEnds.{LaneEnds}
use Rattle.rio_lane.specs.declared.ends.LaneTask.{LaneTask}
use Rattle.rio_lane.specs.declared.ends.LaneTask.TheVariants.{Groups, Chars, Bits, Sent, Got, FourGroups, FourChars}
use Rattle.rio_lane.specs.declared.ends.LaneWay.{LaneWay}
use Rattle.rio_lane.specs.declared.ends.LaneWay.TheVariants.{Sends, Hears, Aligns, SendsRows, HearsRows}

-- the word that asks for a task
abbrev pub task_word : LaneTask → List ℕ
task_word Groups = codes "groups"
task_word Chars = codes "chars"
task_word Bits = codes "bits"
task_word Sent = codes "sent"
task_word Got = codes "got"
task_word FourGroups = codes "groups"
task_word FourChars = codes "chars"

-- how many lanes it has
abbrev pub task_lanes : LaneTask → ℕ
task_lanes Groups = 1
task_lanes Chars = 1
task_lanes Bits = 1
task_lanes Sent = 1
task_lanes Got = 1
task_lanes FourGroups = 4
task_lanes FourChars = 4

-- what a line that is coded begins with
abbrev pub task_head : LaneTask → List ℕ
task_head Groups = []
task_head Chars = []
task_head Bits = []
task_head Sent = codes "sent "
task_head Got = codes "got "
task_head FourGroups = []
task_head FourChars = []

-- what a line is coded as: characters as groups, or groups or bits as what is heard of them
abbrev pub task_way : LaneTask → LaneWay
task_way Groups = Sends
task_way Chars = Hears
task_way Bits = Aligns
task_way Sent = Sends
task_way Got = Hears
task_way FourGroups = SendsRows
task_way FourChars = HearsRows

-- both ends of a lane on which nothing was sent, and that wants so many commas
abbrev pub new_ends : ℕ → LaneEnds
new_ends commas = record {
  sender = Negative;
  receiver = lane_out commas Negative;
  aligner = new_aligner;
  senders = new_senders;
  receivers = new_receivers commas;
}
