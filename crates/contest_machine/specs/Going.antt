-- How many turns of a host go on, and how two hosts begin.
use Rattle.std.specs.Prelude.{◌≡◌, ◌≢◌, ℕ, ◌+◌, ◌<◌, ◌≤◌, List, [], ◌∷◌, ◌++◌}
use Rattle.fabric_map.specs.Topology.{IsTopology}
use Rattle.fabric_map.specs.Routes.{AllRegisters}
use Rattle.fabric_map.specs.Fitting.{Fits}
use Rattle.link_watch.specs.Sides.{other_side}
use Rattle.link_watch.specs.declared.side.Side.{Side}
use Rattle.link_watch.specs.declared.side.Side.TheVariants.{A, B}
use Rattle.contest_machine.specs.declared.stages.Turn.{Turn}
use Rattle.contest_machine.specs.declared.stages.Turn.TheVariants.{Going, Waiting, Done, Lost}
use Rattle.contest_machine.specs.declared.stages.Stage.TheVariants as stages
use Rattle.contest_machine.specs.Machine.{Walker}
use Rattle.contest_machine.specs.Turns.{Both, turn_of, after_turns}
use Rattle.contest_machine.specs.Keeping.{IsNew}
use Rattle.contest_machine.specs.Locks.{walker_of, side_answer}

-- a turn that answers Going is counted
abbrev pub going_one : Turn → ℕ
going_one Going = 1
going_one Waiting = 0
going_one Done = 0
going_one Lost = 0

-- the same of a turn of the second side, if the turns of the first are counted
abbrev pub going_in_turn : Both → Side → Side → ℕ
going_in_turn both A A = going_one (side_answer both A)
going_in_turn both A B = 0
going_in_turn both B A = 0
going_in_turn both B B = going_one (side_answer both B)

-- how many turns of a side answer Going
abbrev pub going_over : Both → Side → List Side → ℕ
going_over both side [] = 0
going_over both side (turn ∷ turns) =
    going_in_turn both side turn + going_over (turn_of both turn) side turns

-- Two hosts at their start, whose IDs differ and which give the ID 0 first. The registers show the
-- devices and links of the fabric, as each sees it.
pub record AreBegun (both : Both) : Type 0 where
  pub new : (side : Side) → IsNew (walker_of both side)
  pub next : (side : Side) → (walker_of both side).next ≡ 0
  pub differ : both.first.id ≢ both.second.id
  pub ids : (side : Side) → (walker_of both side).id < 0xff
  pub proper : (side : Side) → IsTopology (walker_of both side).view
  pub shown : (side : Side) → Fits (walker_of both side).view both.registers

-- However many turns are made, no more than 40,000 of a host answer Going.
abbrev pub GoingIsBounded : Type 0
GoingIsBounded = (both : Both) (turns : List Side) (side : Side) → AreBegun both
    → going_over both side turns ≤ 40000

-- ---- once the other is lost

-- nothing is locked
abbrev pub IsUnlocked : AllRegisters → Type 0
IsUnlocked registers = (node : ℕ) → (registers node).lock ≡ 0xffff

-- how many of these turns are those of a side
abbrev pub turns_of : Side → List Side → ℕ
turns_of side [] = 0
turns_of A (A ∷ turns) = turns_of A turns + 1
turns_of A (B ∷ turns) = turns_of A turns
turns_of B (A ∷ turns) = turns_of B turns
turns_of B (B ∷ turns) = turns_of B turns + 1

-- the walker is done, and has nothing to write any more
abbrev pub HasNumbered : Walker → Type 0
HasNumbered w = (w.stage ≡ stages.Done) × (w.todo ≡ [])

-- the other walker was lost in these turns, and nothing was locked before them
pub record IsLeftAlone (both : Both) (earlier : List Side) (side : Side) : Type 0 where
  pub begun : AreBegun both
  pub unlocked : IsUnlocked both.registers
  pub lost : (walker_of (after_turns both earlier) (other_side side)).stage ≡ stages.Lost

-- A host that is left alone waits no more.
abbrev pub AloneIsNoWait : Type 0
AloneIsNoWait = (both : Both) (earlier later : List Side) (side : Side)
    → IsLeftAlone both earlier side
    → side_answer (after_turns both (earlier ++ later)) side ≢ Waiting

-- It has numbered the fabric after 40,000 turns of its own, at the latest.
abbrev pub AloneIsDone : Type 0
AloneIsDone = (both : Both) (earlier later : List Side) (side : Side)
    → IsLeftAlone both earlier side → 40000 ≤ turns_of side later
    → HasNumbered (walker_of (after_turns both (earlier ++ later)) side)
