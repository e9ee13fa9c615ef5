-- What a port does, one thing after another, and the entries that it meets.
use Rattle.std.specs.Prelude.{ℕ, ◌==◌, Bool, List, [], ◌∷◌, ◌++◌, Option, option_to_list}
use Rattle.std.specs.Option.{option_map}
use Rattle.std.specs.List.{list_any}
use Rattle.rio_packets.specs.Fields.{prio_of}
use Rattle.link_buffers.specs.Prelude.{appended, popped}
use Rattle.link_model.specs.Prelude.{Char, number_of, Damaged}
use Rattle.link_model.specs.declared.event.Event.{Event}
use Rattle.link_model.specs.declared.event.Event.TheVariants.{Ctl, Pkt, Bad}
use Rattle.link_port.specs.Ports.{PortState, new_port}
use Rattle.link_port.specs.Steps.{acts, acts_all, read, after_reading}
use Rattle.link_port.specs.Turns.{turns_to, timed_out}
use Rattle.link_entries.specs.declared.entry.Entry.{Entry}
use Rattle.link_entries.specs.declared.entry.Entry.TheVariants as entry
use Rattle.link_entries.specs.Hearing.{symbol_heard_entry, symbol_heard_point}
use Rattle.link_entries.specs.Turning.{turn_entry, credit_point, overtaking_point, status_point}
use Rattle.link_entries.specs.TimingOut.{time_out_entry, time_out_point}
use Rattle.link_entries.specs.Arriving.{arrived_entry, obeyed_entry, packet_entry, packet_point}
use Rattle.link_entries.specs.ReadingEntries.{read_entry, ended_point}
use Rattle.link_entries.specs.Numbers.{entry_number}

-- what a port does
pub data Deed : Type 0 where
  -- it takes a character
  CharComes : Char → Deed
  -- it acts on an event
  EventComes : Event → Deed
  TurnIsTaken : Deed
  TimeOutFires : Deed
  -- a packet is to be sent
  PacketIsPut : List ℕ → Deed
  -- the first packet that it holds of a priority goes on
  PacketIsGiven : ℕ → Deed

-- a point, if there is one
abbrev pub beside : {X : Type 0} → (X → Entry) → Option X → List Entry
beside of point = option_to_list (option_map of point)

-- the entries of an event: a symbol meets one in each half
abbrev pub event_entries : PortState → Event → List Entry
event_entries port (Ctl symbol) =
    entry.Heard (symbol_heard_entry port symbol)
    ∷ (beside entry.Heard (symbol_heard_point port symbol)
    ++ entry.Arrived (obeyed_entry symbol.s1 symbol.cmd port.input) ∷ [])
event_entries port (Pkt ack packet) =
    entry.Arrived (packet_entry port ack packet)
    ∷ beside entry.Arrived (packet_point port ack packet)
event_entries port (Bad cause) =
    entry.Arrived (arrived_entry (Damaged (number_of cause)) port.input) ∷ []

-- the entries of events, one after another
unfoldable pub events_entries : PortState → List Event → List Entry
events_entries port [] = []
events_entries port (e ∷ es) = event_entries port e ++ events_entries (acts port e).port es

-- the entries of a character: those of its reading, and those of what it completes
abbrev pub char_entries : PortState → Char → List Entry
char_entries port c =
    beside entry.Read (read_entry port.place c) ++ (beside entry.Read (ended_point port.place c)
    ++ events_entries (after_reading port c) (read port c))

-- the entries of a turn
abbrev pub turn_entries : PortState → List Entry
turn_entries port =
    entry.Turn (turn_entry port) ∷ (beside entry.Turn (credit_point port)
    ++ (beside entry.Turn (overtaking_point port) ++ beside entry.Turn (status_point port)))

-- the entries of a time-out
abbrev pub time_out_entries : PortState → List Entry
time_out_entries port =
    entry.TimeOut (time_out_entry port.output)
    ∷ beside entry.TimeOut (time_out_point port.output)

-- the entries of what a port does
abbrev pub deed_entries : PortState → Deed → List Entry
deed_entries port (CharComes c) = char_entries port c
deed_entries port (EventComes event) = event_entries port event
deed_entries port TurnIsTaken = turn_entries port
deed_entries port TimeOutFires = time_out_entries port
deed_entries port (PacketIsPut packet) = []
deed_entries port (PacketIsGiven prio) = []

-- the port after it
abbrev pub after_deed : PortState → Deed → PortState
after_deed port (CharComes c) = (acts_all (after_reading port c) (read port c)).port
after_deed port (EventComes event) = (acts port event).port
after_deed port TurnIsTaken = turns_to port
after_deed port TimeOutFires = timed_out port
after_deed port (PacketIsPut packet) =
    record port { queued = appended port.queued (prio_of packet) packet }
after_deed port (PacketIsGiven prio) =
    record port { received = record port.received { lists = popped port.received.lists prio } }

-- the entries of what a port does, one thing after another
unfoldable pub entries_met : PortState → List Deed → List Entry
entries_met port [] = []
entries_met port (d ∷ ds) = deed_entries port d ++ entries_met (after_deed port d) ds

-- whether an entry is among others
abbrev pub is_among : Entry → List Entry → Bool
is_among it entries = list_any (λ other. entry_number other == entry_number it) entries

-- a port that was just made, and what it does
pub record Trial : Type 0 where
  pub tells : Bool
  pub buffers : ℕ
  pub deeds : List Deed

-- whether a trial meets an entry
abbrev pub meets : Trial → Entry → Bool
meets trial it = is_among it (entries_met (new_port trial.tells trial.buffers) trial.deeds)
