-- A turn of a walker, and what came of it.
use Rattle.std.specs.Prelude.{Bool, true, false, List, [], ◌∷◌, if◌then◌else◌}
use Rattle.link_watch.specs.declared.side.Side.{Side}
use Rattle.link_watch.specs.declared.side.Side.TheVariants.{A, B}
use Rattle.fabric_map.specs.Routes.{AllRegisters}
use Rattle.contest_machine.specs.declared.stages.PendingWrite.{PendingWrite}
use Rattle.contest_machine.specs.declared.stages.Stage.{Stage}
use Rattle.contest_machine.specs.declared.stages.Stage.TheVariants.{Ask, Claim, Check, Test, Features, Information, Status, Free, Done, Lost}
use Rattle.contest_machine.specs.declared.stages.Turn.{Turn}
use Rattle.contest_machine.specs.declared.stages.Turn.TheVariants as Turns
use Rattle.contest_machine.specs.Machine.{Walker, State, stepped}

-- ---- one turn

-- what the walker asks next is still of the lock that it just read
abbrev pub is_locking : Stage → Bool
is_locking Ask = false
is_locking Claim = true
is_locking Check = true
is_locking Test = true
is_locking Features = false
is_locking Information = false
is_locking Status = false
is_locking Free = false
is_locking Done = false
is_locking Lost = false

-- it goes on with the lock, or stops
abbrev pub locked_on : State → State
locked_on state =
    if is_locking state.walker.stage then stepped state.walker state.registers else state

-- A turn is one access. But in its first turn a walker makes all accesses that lock its host: at
-- most
-- three, since nobody is between.
abbrev pub walker_turned : Walker → AllRegisters → State
walker_turned w registers =
    if w.begun then stepped w registers
    else locked_on (locked_on (stepped (record w { begun = true }) registers))

-- ---- what came of it

-- it waits, if it asks for a lock again and has nothing to write
abbrev pub waits_or_goes : List PendingWrite → List PendingWrite → Turn
waits_or_goes [] [] = Turns.Waiting
waits_or_goes (p ∷ rest) after = Turns.Going
waits_or_goes [] (p ∷ rest) = Turns.Going

-- it has ended once nothing is left to be written
abbrev pub ends : List PendingWrite → Turn → Turn
ends [] turn = turn
ends (p ∷ rest) turn = Turns.Going

abbrev pub came_at : Walker → Walker → Stage → Turn
came_at w after Ask = waits_or_goes w.todo after.todo
came_at w after Claim = Turns.Going
came_at w after Check = Turns.Going
came_at w after Test = Turns.Going
came_at w after Features = Turns.Going
came_at w after Information = Turns.Going
came_at w after Status = Turns.Going
came_at w after Free = Turns.Going
came_at w after Done = ends after.todo Turns.Done
came_at w after Lost = ends after.todo Turns.Lost

-- what came of the turn that led from the first to the second
abbrev pub came_of : Walker → Walker → Turn
came_of w after = came_at w after after.stage

-- ---- turns of two

-- two walkers, and the registers of all devices
pub record Both : Type 0 where
  pub first : Walker
  pub second : Walker
  pub registers : AllRegisters

-- side A is the first
abbrev pub turn_of : Both → Side → Both
turn_of both A = record {
  first = (walker_turned both.first both.registers).walker;
  second = both.second;
  registers = (walker_turned both.first both.registers).registers;
}
turn_of both B = record {
  first = both.first;
  second = (walker_turned both.second both.registers).walker;
  registers = (walker_turned both.second both.registers).registers;
}

abbrev pub after_turns : Both → List Side → Both
after_turns both [] = both
after_turns both (side ∷ turns) = after_turns (turn_of both side) turns
