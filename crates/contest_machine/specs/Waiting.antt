-- When a host is lost, and when it waits.
use Rattle.std.specs.Prelude.{◌≡◌, ◌≢◌, ℕ, ◌<◌, ◌↔◌, List, [], ◌∷◌, ◌++◌, Contains}
use Rattle.link_watch.specs.declared.side.Side.{Side}
use Rattle.fabric_map.specs.Topology.{IsTopology}
use Rattle.fabric_map.specs.Fitting.{Fits}
use Rattle.contest_machine.specs.declared.stages.Turn.TheVariants.{Waiting, Lost}
use Rattle.contest_machine.specs.declared.stages.Stage.TheVariants as stages
use Rattle.contest_machine.specs.Machine.{Walker, kept}
use Rattle.contest_machine.specs.Turns.{Both, after_turns}
use Rattle.contest_machine.specs.Keeping.{IsNew}
use Rattle.contest_machine.specs.Locks.{walker_of, side_answer, locks_in_turn, locks_over}

-- one of these locks is that of a host with a greater ID; FFFF is that of none
abbrev pub HasGreater : ℕ → List ℕ → Type 0
HasGreater id locks = (lock : ℕ) × Contains locks lock × (id < lock) × (lock ≢ 0xffff)

-- A turn answers Lost exactly where a lock that the walker has read, in this turn or before, is
-- that of a host with a greater ID, and it keeps nothing after this turn.
abbrev pub LostIsForAGreater : Type 0
LostIsForAGreater = (both : Both) (turns : List Side) (side : Side)
    → IsNew (walker_of both side)
    → (side_answer (after_turns both turns) side ≡ Lost)
    ↔ (HasGreater (walker_of both side).id (locks_over both side (turns ++ side ∷ []))
    × (kept (walker_of (after_turns both (turns ++ side ∷ [])) side) ≡ []))

-- the walker is lost, and has nothing to write any more
abbrev pub IsLostWalker : Walker → Type 0
IsLostWalker w = (w.stage ≡ stages.Lost) × (w.todo ≡ [])

-- So a walker is lost after its turns exactly if it has read such a lock and keeps nothing.
abbrev pub LostHostsMetAGreater : Type 0
LostHostsMetAGreater = (both : Both) (turns : List Side) (side : Side)
    → IsNew (walker_of both side)
    → IsLostWalker (walker_of (after_turns both turns) side)
    ↔ (HasGreater (walker_of both side).id (locks_over both side turns)
    × (kept (walker_of (after_turns both turns) side) ≡ []))

-- one of these locks is that of a host with a lesser ID
abbrev pub HasLesser : ℕ → List ℕ → Type 0
HasLesser id locks = (lock : ℕ) × Contains locks lock × (lock < id)

-- A turn answers Waiting exactly where a lock that it reads is that of a host with a lesser ID.
abbrev pub WaitingIsForALesser : Type 0
WaitingIsForALesser = (both : Both) (turns : List Side) (side : Side)
    → IsNew (walker_of both side) → (walker_of both side).id < 0xff
    → IsTopology (walker_of both side).view → Fits (walker_of both side).view both.registers
    → (side_answer (after_turns both turns) side ≡ Waiting)
    ↔ HasLesser (walker_of both side).id (locks_in_turn (after_turns both turns) side side)
