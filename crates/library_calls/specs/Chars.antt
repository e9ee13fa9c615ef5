-- What characters do to an open port, as its caller is told.
use Rattle.std.specs.Prelude.{◌≡◌, ◌<◌, ◌≤◌, ◌+◌, ◌*◌, ℕ, List, [], ◌∷◌, length, Option, Some, None, option_to_list}
use Rattle.std.specs.List.{flat_map}
use Rattle.rio_symbols.specs.Fields.{Fields}
use Rattle.link_port.specs.Steps.{Acted, takes}
use Rattle.link_port.specs.Streams.{Streamed}
use Rattle.link_port.specs.Streams.{takes_each}
use Rattle.link_port.specs.Turns.{turns_to, turn_sends, timed_out}
use Rattle.library_calls.specs.declared.status.CallStatus.{CallStatus}
use Rattle.library_calls.specs.declared.status.CallStatus.TheVariants.{Done, Argument}
use Rattle.library_calls.specs.declared.told.CharDid.{CharDid}
use Rattle.library_calls.specs.declared.told.RunDid.{RunDid}
use Rattle.library_calls.specs.Wires.{wire_char, wire_chars, char_wires, symbol_wires}
use Rattle.library_calls.specs.Rooms.{laid_over, laid_at}
use Rattle.library_calls.specs.PortsSeen.{PortSeen, seen_at}

-- how many bytes the packet has that was accepted, or 0
abbrev pub held_length : Option (List ℕ) → ℕ
held_length None = 0
held_length (Some packet) = length packet

-- those of the answer of one character, if there is one
abbrev pub reply_wires : Option Fields → List ℕ
reply_wires None = []
reply_wires (Some symbol) = symbol_wires symbol

-- those of many answers
abbrev pub replies_wires : List Fields → List ℕ
replies_wires symbols = flat_map symbol_wires symbols

-- the room of an answer, before there is one
abbrev pub no_wires : List ℕ
no_wires = 0 ∷ 0 ∷ 0 ∷ 0 ∷ []

-- What is told of a character.
pub record TellsChar (acted : Acted) (did : CharDid) : Type 0 where
  pub held : did.held ≡ held_length acted.held
  pub freed : did.freed ≡ length acted.freed
  pub sent : did.sent ≡ length (reply_wires acted.reply)
  pub chars : did.chars ≡ laid_over (reply_wires acted.reply) no_wires

-- What is told of a run of characters, whose answers are written into a room.
pub record TellsRun (streamed : Streamed) (did : RunDid) (room room_after : List ℕ) : Type 0 where
  pub held : did.held ≡ length streamed.held
  pub freed : did.freed ≡ length streamed.freed
  pub sent : did.sent ≡ length (replies_wires streamed.replies)
  pub room_is : room_after ≡ laid_over (replies_wires streamed.replies) room

-- What a character adds to what is told of a run, whose answers were written up to a place of the
-- room.
pub record AddsChar (acted : Acted) (did did_after : RunDid) (room room_after : List ℕ)
    : Type 0 where
  pub held : did_after.held ≡ did.held + length (option_to_list acted.held)
  pub freed : did_after.freed ≡ did.freed + length acted.freed
  pub sent : did_after.sent ≡ did.sent + length (reply_wires acted.reply)
  pub room_is : room_after ≡ laid_at did.sent (reply_wires acted.reply) room
  pub few : length acted.freed ≤ 31
  pub short : length (reply_wires acted.reply) ≤ 4

-- A character was taken, and what it did is told.
abbrev pub CharTakes : ℕ → CharDid → PortSeen → PortSeen → Type 0
CharTakes number did old new = TellsChar (takes old.port (wire_char number)) did
    × (new ≡ seen_at old (takes old.port (wire_char number)).port)

-- The time-out came.
abbrev pub PortTimesOut : PortSeen → PortSeen → Type 0
PortTimesOut old new = new ≡ seen_at old (timed_out old.port)

-- nothing is told
abbrev pub no_run : RunDid
no_run = record { held = 0; freed = 0; sent = 0 }

-- Room for the answers of all characters, of which each has at most one, and no more characters
-- than a run has at most.
abbrev pub RunFits : List ℕ → List ℕ → Type 0
RunFits chars room = (length chars ≤ 65536) × (4 * length chars ≤ length room)

-- A run of characters was taken, or it does not fit, and nothing was done.
abbrev pub RunTakes : List ℕ → List ℕ → List ℕ → RunDid → PortSeen → CallStatus → PortSeen → Type 0
RunTakes chars room room_after did old Done new = RunFits chars room
    × TellsRun (takes_each old.port (wire_chars chars)) did room room_after
    × (new ≡ seen_at old (takes_each old.port (wire_chars chars)).port)
RunTakes chars room room_after did old Argument new =
    (RunFits chars room → ⊥) × (did ≡ no_run) × (room_after ≡ room) × (new ≡ old)
RunTakes chars room room_after did old _ new = ⊥

-- A turn was taken, and what it sends stands in the room; or there is room for fewer characters
-- than a turn sends at most.
abbrev pub TurnTakes : List ℕ → List ℕ → ℕ → PortSeen → CallStatus → PortSeen → Type 0
TurnTakes room room_after count old Done new =
    (room_after ≡ laid_over (char_wires (turn_sends old.port).chars) room)
    × (count ≡ length (turn_sends old.port).chars) × (new ≡ seen_at old (turns_to old.port))
TurnTakes room room_after count old Argument new =
    (length room < 284) × (count ≡ 0) × (room_after ≡ room) × (new ≡ old)
TurnTakes room room_after count old _ new = ⊥
