-- One way of a link.
use Rattle.std.specs.Prelude.{ℕ, zero, suc, ◌+◌, ◌++◌, nat_lt, nat_le, Bool, true, false, List, [], ◌∷◌, length, take, drop, map, slice_set, if◌then◌else◌}
use Rattle.std.specs.List.{flat_map}
use Rattle.link_model.specs.Prelude.{Char, Fields, symbol_chars_of}
use Rattle.link_port.specs.Prelude.{Event, Ctl, PortState, Burst, no_burst, turns_to, turn_sends}
use Rattle.rio_chars.specs.declared.edit.Edit.{Edit}
use Rattle.rio_chars.specs.declared.edit.Edit.TheVariants.{Alter, Erase, Insert}
use Rattle.link_wires.specs.declared.edits.Edited.{Edited}
use Rattle.link_wires.specs.declared.edits.Edited.TheVariants.{Done, Short}

-- the characters on the way, and the events that were sent and that no acted event has met
pub record WireState : Type 0 where
  pub chars : List Char
  pub kept : List Event

abbrev pub empty_wire : WireState
empty_wire = record { chars = []; kept = [] }

-- more is sent
abbrev pub with_sent : WireState → Burst → WireState
with_sent wire burst = record { chars = wire.chars ++ burst.chars; kept = wire.kept ++ burst.sent }

-- one burst and then another
abbrev pub both_bursts : Burst → Burst → Burst
both_bursts first next =
    record { chars = first.chars ++ next.chars; sent = first.sent ++ next.sent }

-- the port after so many turns
unfoldable pub port_turned : ℕ → PortState → PortState
port_turned zero port = port
port_turned (suc n) port = port_turned n (turns_to port)

-- what it sends in them
unfoldable pub bursts : ℕ → PortState → Burst
bursts zero port = no_burst
bursts (suc n) port = both_bursts (turn_sends port) (bursts n (turns_to port))

-- symbols that answer, one after another
abbrev pub answers : List Fields → Burst
answers replies =
    record { chars = flat_map symbol_chars_of replies; sent = map (λ symbol. Ctl symbol) replies }

-- characters were taken from the front, and this is kept
abbrev pub without_front : ℕ → List Event → WireState → WireState
without_front count kept wire = record { chars = drop count wire.chars; kept = kept }

-- nothing that was sent before is spoken of
abbrev pub silenced : WireState → WireState
silenced wire = record wire { kept = [] }

-- whether an edit lies within the characters
abbrev pub fits : Edit → List Char → Bool
fits (Alter place ch) chars = nat_lt place (length chars)
fits (Erase place count) chars = nat_le (place + count) (length chars)
fits (Insert place ch) chars = nat_le place (length chars)

-- the characters after it
abbrev pub edited : Edit → List Char → List Char
edited (Alter place ch) chars = slice_set chars place ch
edited (Erase place count) chars = take place chars ++ drop (place + count) chars
edited (Insert place ch) chars = take place chars ++ ch ∷ drop place chars

-- the wire after it: where it does not fit, nothing changes
abbrev pub after_edit : Edit → WireState → WireState
after_edit edit wire =
    if fits edit wire.chars then record wire { chars = edited edit wire.chars } else wire

-- the answer, by whether it fits
abbrev pub edit_answered : Bool → Edited
edit_answered true = Done
edit_answered false = Short
