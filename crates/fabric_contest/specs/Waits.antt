-- Which of two hosts wait.
use Rattle.std.specs.Prelude.{◌≡◌, true}
use Rattle.link_watch.specs.declared.side.Side.{Side}
use Rattle.link_watch.specs.declared.side.Side.TheVariants.{A, B}
use Rattle.contest_machine.specs.Turns.{Both, turn_of}
use Rattle.contest_machine.specs.Locks.{walker_of}
use Rattle.fabric_contest.specs.declared.contest.WhoWaits.{WhoWaits}

-- both have made a turn
abbrev pub HaveBegun : Both → Type 0
HaveBegun both = (side : Side) → (walker_of both side).begun ≡ true

-- Both have begun, and a turn of one that waits leaves both of them and all registers as they are.
pub record WaitsChangeNothing (both : Both) (waits : WhoWaits) : Type 0 where
  pub begun : HaveBegun both
  pub first : waits.first ≡ true → turn_of both A ≡ both
  pub second : waits.second ≡ true → turn_of both B ≡ both
