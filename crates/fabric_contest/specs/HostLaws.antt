-- What holds of two hosts of a script, after whatever turns: those of a number too.
use Rattle.std.specs.Prelude.{◌≡◌, ◌≢◌, ℕ, ◌≤◌, ◌↔◌, true, false, List, [], ◌∷◌, ◌++◌, Contains, Some}
use Rattle.maint_registers.specs.Routes.{next_port}
use Rattle.fabric_script.specs.declared.lines.Numbered.{Numbered}
use Rattle.fabric_map.specs.declared.map.Device.{Device}
use Rattle.fabric_map.specs.declared.map.Entry.{Entry}
use Rattle.fabric_map.specs.Topology.{Topology, node_at}
use Rattle.fabric_map.specs.Routes.{AllRegisters, PacketComes}
use Rattle.fabric_map.specs.Numbered.{device_has_id, entries_of, IsMap, IsMarked}
use Rattle.fabric_map.specs.Plain.{registers_of}
use Rattle.host_enumerate.specs.Devised.{devices_of}
use Rattle.host_enumerate.specs.Underway.{AreOwnUntagged}
use Rattle.link_watch.specs.Sides.{other_side}
use Rattle.link_watch.specs.declared.side.Side.{Side}
use Rattle.contest_machine.specs.declared.stages.Turn.TheVariants.{Waiting, Lost}
use Rattle.contest_machine.specs.declared.stages.Stage.TheVariants as stages
use Rattle.contest_machine.specs.Machine.{Walker, kept}
use Rattle.contest_machine.specs.Turns.{after_turns}
use Rattle.contest_machine.specs.Locks.{walker_of, side_answer, locks_in_turn, locks_over}
use Rattle.contest_machine.specs.Going.{AreBegun, HasNumbered, IsLeftAlone, going_over}
use Rattle.contest_machine.specs.Waiting.{HasGreater, HasLesser, IsLostWalker}
use Rattle.contest_machine.specs.Numbering.{LeavesOthers}
use Rattle.fabric_contest.specs.declared.contest.Contest.{Contest}
use Rattle.fabric_contest.specs.Contests.{new_both, CanTurn}
use Rattle.fabric_contest.specs.ContestTexts.{has_numbered, is_over}
use Rattle.fabric_contest.specs.Laws.{AreHosts, SetUpIsUnlocked}

-- The hosts of a script begin as two do, and no device that bears the ID of one has a tag.
abbrev pub HostsBegin : Type 0
HostsBegin = (names : List (List ℕ)) (lines : List Numbered) (first second : ℕ)
    → AreHosts names lines first second
    → AreBegun (new_both lines first second)
    × ((side : Side) → AreOwnUntagged (walker_of (new_both lines first second) side).view
    (registers_of (devices_of lines)) (walker_of (new_both lines first second) side).id)

-- ---- what a host that is done has numbered

-- These devices are the map of a fabric that a host with this ID has numbered while another did,
-- and so are the registers that stand then.
pub record IsContested (view : Topology) (host_id : ℕ) (devices : List Device)
    (after : AllRegisters) : Type 0 where
  pub map : IsMap view host_id devices (entries_of devices)
  pub marked : (device : Device) (node : ℕ) → Contains devices device
      → node_at view device.path ≡ Some node → IsMarked host_id device (after node)
  pub tables : (entry : Entry) (device : Device) (node : ℕ)
      → Contains (entries_of devices) entry → Contains devices device
      → device.tag ≡ entry.tag → node_at view device.path ≡ Some node
      → next_port (after node) entry.id ≡ Some entry.port
  pub routed : (id from to : ℕ) (device goal : Device)
      → Contains devices device → Contains devices goal
      → node_at view device.path ≡ Some from → node_at view goal.path ≡ Some to
      → device_has_id id goal ≡ true → from ≢ to → PacketComes view after id from to

-- After any turns a host that is done has numbered the fabric so, with the ID of its line, and both
-- have changed only what they may, of the registers that the lines made.
abbrev pub DoneIsContested : Type 0
DoneIsContested = (names : List (List ℕ)) (lines : List Numbered) (first second : ℕ)
    (turns : List Side) (side : Side) → AreHosts names lines first second
    → HasNumbered (walker_of (after_turns (new_both lines first second) turns) side)
    → IsContested (walker_of (new_both lines first second) side).view
    (walker_of (new_both lines first second) side).id
    (walker_of (after_turns (new_both lines first second) turns) side).devices
    (after_turns (new_both lines first second) turns).registers
    × LeavesOthers (new_both lines first second)
    (after_turns (new_both lines first second) turns)

-- ---- when a host waits or is lost

-- A turn waits exactly if it reads the lock of a host with a lesser ID.
abbrev pub HostsWait : Type 0
HostsWait = (names : List (List ℕ)) (lines : List Numbered) (first second : ℕ)
    (turns : List Side) (side : Side) → AreHosts names lines first second
    → (side_answer (after_turns (new_both lines first second) turns) side ≡ Waiting)
    ↔ HasLesser (walker_of (new_both lines first second) side).id
    (locks_in_turn (after_turns (new_both lines first second) turns) side side)

-- A turn is lost exactly if a lock that the host has read, in it or before, is that of a host with
-- a greater ID, and it keeps nothing after the turn.
abbrev pub TurnsAreLost : Type 0
TurnsAreLost = (names : List (List ℕ)) (lines : List Numbered) (first second : ℕ)
    (turns : List Side) (side : Side) → AreHosts names lines first second
    → (side_answer (after_turns (new_both lines first second) turns) side ≡ Lost)
    ↔ (HasGreater (walker_of (new_both lines first second) side).id
    (locks_over (new_both lines first second) side (turns ++ side ∷ []))
    × (kept (walker_of (after_turns (new_both lines first second) (turns ++ side ∷ [])) side)
    ≡ []))

-- So is a host after any turns.
abbrev pub HostsAreLost : Type 0
HostsAreLost = (names : List (List ℕ)) (lines : List Numbered) (first second : ℕ)
    (turns : List Side) (side : Side) → AreHosts names lines first second
    → IsLostWalker (walker_of (after_turns (new_both lines first second) turns) side)
    ↔ (HasGreater (walker_of (new_both lines first second) side).id
    (locks_over (new_both lines first second) side turns)
    × (kept (walker_of (after_turns (new_both lines first second) turns) side) ≡ []))

-- If no line locks a device and the other host is lost, this one is left alone.
abbrev pub HostsAreLeftAlone : Type 0
HostsAreLeftAlone = (names : List (List ℕ)) (lines : List Numbered) (first second : ℕ)
    (earlier : List Side) (side : Side) → AreHosts names lines first second
    → SetUpIsUnlocked lines
    → (walker_of (after_turns (new_both lines first second) earlier) (other_side side)).stage
    ≡ stages.Lost
    → IsLeftAlone (new_both lines first second) earlier side

-- ---- what is told of a host

-- It is told to be done exactly if it has numbered the fabric, and to be lost exactly if it is.
abbrev pub EndsAreTold : Type 0
EndsAreTold = (w : Walker) → ((has_numbered w ≡ true) ↔ HasNumbered w)
    × (((has_numbered w ≡ false) × (is_over w ≡ true)) ↔ IsLostWalker w)

-- ---- how often a host goes on

-- no more than 40,000 turns of a host of a script answer Going
abbrev pub HostsGoOnFewTimes : Type 0
HostsGoOnFewTimes = (names : List (List ℕ)) (lines : List Numbered) (first second : ℕ)
    (turns : List Side) (side : Side) → AreHosts names lines first second
    → going_over (new_both lines first second) side turns ≤ 40000

-- and no walker of a contest has counted more
abbrev pub CountsAreFew : Type 0
CountsAreFew = (contest : Contest) → CanTurn contest
    → (contest.first.going ≤ 40000) × (contest.second.going ≤ 40000)
