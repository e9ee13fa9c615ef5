-- What the characters of a run say, as a caller is told.
use Rattle.std.specs.Prelude.{◌≡◌, ◌≤◌, ◌<◌, ◌⊎◌, ℕ, Bool, true, false, List, map, take, length, replicate}
use Rattle.rio_packets.specs.CauseNumbers.{number_of}
use Rattle.link_model.specs.Prelude.{Char, Fields}
use Rattle.link_model.specs.declared.event.Event.{Event}
use Rattle.link_model.specs.declared.event.Event.TheVariants.{Ctl, Pkt, Bad as Broken}
use Rattle.link_model.specs.Reading.{IsReading, IsCut}
use Rattle.library_calls.specs.declared.status.CallStatus.{CallStatus}
use Rattle.library_calls.specs.declared.status.CallStatus.TheVariants.{Done, Argument}
use Rattle.library_calls.specs.declared.told.EventTold.{EventTold}
use Rattle.library_calls.specs.declared.told.ReadingTold.{ReadingTold}
use Rattle.library_calls.specs.declared.told.SymbolTold.{SymbolTold}
use Rattle.library_calls.specs.Rooms.{laid_over}
use Rattle.library_calls.specs.Wires.{wire_chars}

-- the fields of a symbol
abbrev pub symbol_told : Fields → SymbolTold
symbol_told symbol = record {
  stype0 = symbol.s0;
  parameter0 = symbol.p0;
  parameter1 = symbol.p1;
  stype1 = symbol.s1;
  cmd = symbol.cmd;
}

abbrev pub no_symbol_told : SymbolTold
no_symbol_told =
    record { stype0 = 0; parameter0 = 0; parameter1 = 0; stype1 = 0; cmd = 0 }

-- the room of a packet, before there is one
abbrev pub no_packet_bytes : List ℕ
no_packet_bytes = replicate 276 0

-- what is told of an event that a character completes which stands at this place
abbrev pub event_told : ℕ → Event → EventTold
event_told place (Ctl symbol) = record {
  place = place;
  kind = 1;
  length = 0;
  symbol = symbol_told symbol;
  ack = 0;
  cause = 0;
  bytes = no_packet_bytes;
}
event_told place (Pkt ack packet) = record {
  place = place;
  kind = 2;
  length = length packet;
  symbol = no_symbol_told;
  ack = ack;
  cause = 0;
  bytes = laid_over packet no_packet_bytes;
}
event_told place (Broken cause) = record {
  place = place;
  kind = 3;
  length = 0;
  symbol = no_symbol_told;
  ack = 0;
  cause = number_of cause;
  bytes = no_packet_bytes;
}

abbrev pub events_told : List (ℕ × Event) → List EventTold
events_told events = map (λ event. event_told event.0 event.1) events

-- So many things are to be told, and the first of them stand in the room, as many as have a place
-- there. Behind them stands what stood there.
pub record StandIn (told room : List EventTold) (count : ℕ) (room_after : List EventTold) : Type 0
  where
    pub count_is : count ≡ length told
    pub room_is : room_after ≡ laid_over (take (length room) told) room

-- the number that says so, by whether neither a symbol nor a packet is in progress
abbrev pub cut_number : Bool → ℕ
cut_number true = 0
cut_number false = 1

-- whether characters end within a symbol or a packet
abbrev pub TellsCut : List Char → ℕ → Type 0
TellsCut chars cut = ((cut ≡ 1) × IsCut chars) ⊎ ((cut ≡ 0) × (IsCut chars → ⊥))

-- The reading of the characters is told: its events, and whether the characters are cut.
pub record TellsReading (chars : List Char) (room room_after : List EventTold) (did : ReadingTold)
    : Type 0 where
  pub events : List (ℕ × Event)
  pub reads : IsReading chars events
  pub stand : StandIn (events_told events) room did.events room_after
  pub cut : TellsCut chars did.cut

-- nothing is told
abbrev pub no_reading : ReadingTold
no_reading = record { events = 0; cut = 0 }

-- A run of characters was read, or there are more than are read at once, and nothing was done.
abbrev pub RunReads : List ℕ → List EventTold → List EventTold → ReadingTold → CallStatus → Type 0
RunReads numbers room room_after did Done = (length numbers ≤ 4194304)
    × TellsReading (wire_chars numbers) room room_after did
RunReads numbers room room_after did Argument = (4194304 < length numbers)
    × (did ≡ no_reading) × (room_after ≡ room)
RunReads numbers room room_after did _ = ⊥
