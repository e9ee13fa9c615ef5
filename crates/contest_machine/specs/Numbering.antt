-- What a host that is done has numbered, whatever the other does.
use Rattle.std.specs.Prelude.{◌≡◌, ℕ, List, [], ◌∷◌}
use Rattle.fabric_map.specs.Topology.{IsReached}
use Rattle.fabric_map.specs.Routes.{AllRegisters}
use Rattle.fabric_map.specs.Numbered.{entries_of, ChangesOnly, IsNumbered}
use Rattle.host_enumerate.specs.Underway.{AreOwnUntagged}
use Rattle.link_watch.specs.declared.side.Side.{Side}
use Rattle.contest_machine.specs.Machine.{Walker}
use Rattle.contest_machine.specs.Contest.{Keeps}
use Rattle.contest_machine.specs.Turns.{Both, after_turns}
use Rattle.contest_machine.specs.Locks.{walker_of}
use Rattle.contest_machine.specs.Going.{AreBegun, HasNumbered}

-- A walker keeps every device that it reaches, and its list is the map of a numbered fabric. The
-- registers before are those that each device had when it was taken in.
pub record KeepsItsMap (w : Walker) (now : AllRegisters) : Type 0 where
  pub keeps : (node : ℕ) → IsReached w.view node → Keeps w node
  pub before : AllRegisters
  pub numbered : IsNumbered w.view w.devices (entries_of w.devices) before now

-- A host that is done keeps its map, whatever turns came and come. At first no device that bears
-- its ID has a tag.
abbrev pub DoneKeepsItsMap : Type 0
DoneKeepsItsMap = (both : Both) (turns : List Side) (side : Side) → AreBegun both
    → AreOwnUntagged (walker_of both side).view both.registers (walker_of both side).id
    → HasNumbered (walker_of (after_turns both turns) side)
    → KeepsItsMap (walker_of (after_turns both turns) side) (after_turns both turns).registers

-- No device that both reach is kept by two hosts that are done: one of them is not.
abbrev pub OneIsDone : Type 0
OneIsDone = (both : Both) (turns : List Side) (node : ℕ) → AreBegun both
    → ((side : Side)
    → AreOwnUntagged (walker_of both side).view both.registers (walker_of both side).id)
    → ((side : Side) → IsReached (walker_of (after_turns both turns) side).view node)
    → ¬ ((side : Side) → HasNumbered (walker_of (after_turns both turns) side))

-- Devices that neither reaches are as before. Of the others only lock, tag, ID, select, default
-- port, and the entries 0 to 62, of either host's ID and of 255 may differ.
pub record LeavesOthers (both after : Both) : Type 0 where
  pub outside : (node : ℕ) → ¬ IsReached both.first.view node → ¬ IsReached both.second.view node
      → after.registers node ≡ both.registers node
  pub inside : (node : ℕ) → ChangesOnly (both.first.id ∷ both.second.id ∷ [])
      (both.registers node) (after.registers node)

abbrev pub TurnsLeaveOthers : Type 0
TurnsLeaveOthers = (both : Both) (turns : List Side) → AreBegun both
    → ((side : Side)
    → AreOwnUntagged (walker_of both side).view both.registers (walker_of both side).id)
    → LeavesOthers both (after_turns both turns)
