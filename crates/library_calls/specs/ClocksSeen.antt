-- What clocks do to an open port, as its caller is told.
use Rattle.std.specs.Prelude.{◌≡◌, ◌<◌, ◌≤◌, ◌+◌, ℕ, if◌then◌else◌, List, [], ◌∷◌, ◌++◌, length, option_to_list}
use Rattle.rio_chars.specs.declared.chars.Char.{Char}
use Rattle.link_port.specs.Steps.{takes}
use Rattle.port_lines.specs.Clocks.{ClockedState, clocks, clocks_to, clock_fires, clock_gives, with_patience}
use Rattle.library_calls.specs.declared.status.CallStatus.{CallStatus}
use Rattle.library_calls.specs.declared.status.CallStatus.TheVariants.{Done, Argument, NoMemory}
use Rattle.library_calls.specs.declared.told.ClocksTold.{ClocksTold}
use Rattle.library_calls.specs.Wires.{wire_chars, char_wires}
use Rattle.library_calls.specs.Rooms.{laid_over, laid_at}
use Rattle.library_calls.specs.PortsSeen.{PortSeen, port_told, clocked_seen}

-- how many packets were accepted in clocks, one after another
unfoldable pub clocks_held : ClockedState → List Char → ℕ
clocks_held at [] = 0
clocks_held at (c ∷ chars) =
    length (option_to_list (takes at.port c).held) + clocks_held (clocks_to at c) chars

-- how many were freed
unfoldable pub clocks_freed : ClockedState → List Char → ℕ
clocks_freed at [] = 0
clocks_freed at (c ∷ chars) =
    length (takes at.port c).freed + clocks_freed (clocks_to at c) chars

-- how many time-outs fired
unfoldable pub clocks_fired : ClockedState → List Char → ℕ
clocks_fired at [] = 0
clocks_fired at (c ∷ chars) =
    (if clock_fires at c then 1 else 0) + clocks_fired (clocks_to at c) chars

-- What is told of clocks in which these characters came.
pub record TellsClocks (at : ClockedState) (chars : List Char) (told : ClocksTold) : Type 0 where
  pub clocks : told.clocks ≡ length chars
  pub held : told.held ≡ clocks_held at chars
  pub freed : told.freed ≡ clocks_freed at chars
  pub fired : told.fired ≡ clocks_fired at chars

-- There was a clock for each character of a front of a run, and what was given in them stands in
-- the room.
pub record ClocksTaken (numbers room room_after : List ℕ) (told : ClocksTold)
    (old new : ClockedState) : Type 0 where
  pub front : List ℕ
  pub rest : List ℕ
  pub are : numbers ≡ front ++ rest
  pub tells : TellsClocks old (wire_chars front) told
  pub stands : new ≡ (clocks old (wire_chars front)).stands
  pub room_is : room_after ≡ laid_over (char_wires (clocks old (wire_chars front)).given) room

-- What a clock adds to what is told of clocks, and the character that it gives is written behind
-- those before it.
pub record AddsClock (at : ClockedState) (c : Char) (told told_after : ClocksTold)
    (room room_after : List ℕ) : Type 0 where
  pub clocks : told_after.clocks ≡ told.clocks + 1
  pub held : told_after.held ≡ told.held + length (option_to_list (takes at.port c).held)
  pub freed : told_after.freed ≡ told.freed + length (takes at.port c).freed
  pub fired : told_after.fired ≡ told.fired + (if clock_fires at c then 1 else 0)
  pub room_is : room_after ≡ laid_at told.clocks (char_wires (clock_gives at c ∷ [])) room
  pub few : length (takes at.port c).freed ≤ 31

-- nothing is told
abbrev pub no_clocks_told : ClocksTold
no_clocks_told = record { clocks = 0; held = 0; freed = 0; fired = 0 }

-- room for as many characters as come, and no more characters than a run has at most
abbrev pub ClocksFit : List ℕ → List ℕ → Type 0
ClocksFit numbers room = (length numbers ≤ 65536) × (length numbers ≤ length room)

-- the same port, whose text waits as before
abbrev pub ClocksSeen : List ℕ → List ℕ → List ℕ → ClocksTold → PortSeen → PortSeen → Type 0
ClocksSeen numbers room room_after told old new = (at : ClockedState)
    × ClocksTaken numbers room room_after told (clocked_seen old) at
    × (new ≡ port_told at old.text)

-- There was a clock for each character; or memory was refused before the last ones; or they do not
-- fit, and nothing was done.
abbrev pub ClocksDo : List ℕ → List ℕ → List ℕ → ClocksTold → PortSeen → CallStatus → PortSeen
    → Type 0
ClocksDo numbers room room_after told old Done new = ClocksFit numbers room
    × ClocksSeen numbers room room_after told old new × (told.clocks ≡ length numbers)
ClocksDo numbers room room_after told old NoMemory new = ClocksFit numbers room
    × ClocksSeen numbers room room_after told old new × (told.clocks < length numbers)
ClocksDo numbers room room_after told old Argument new = (ClocksFit numbers room → ⊥)
    × (told ≡ no_clocks_told) × (room_after ≡ room) × (new ≡ old)
ClocksDo numbers room room_after told old _ new = ⊥

-- so many clocks without an answer are too long from here on
abbrev pub PatienceSet : ℕ → PortSeen → PortSeen → Type 0
PatienceSet clocks old new = new ≡ port_told (with_patience (clocked_seen old) clocks) old.text
