-- The reading of characters, as steps of one character.
use Rattle.std.specs.Prelude.{◌≡◌, ℕ, suc, ◌⊎◌, ◌≤◌, nat_lt, Bool, true, false, List, [], ◌∷◌, ◌++◌, length, Option, Some, None}
use Rattle.rio_chars.specs.declared.chars.Char.{Char}
use Rattle.rio_symbols.specs.declared.characters.Delimiter.{Delimiter}
use Rattle.rio_symbols.specs.declared.stype1.TheConstants.{START_OF_PACKET, END_OF_PACKET}
use Rattle.rio_symbols.specs.Delimiters.{allowed}
use Rattle.rio_symbols.specs.Fields.{Fields}
use Rattle.rio_symbols.specs.Spelling.{spelled}
use Rattle.rio_packets.specs.declared.cause.Cause.{Cause}
use Rattle.rio_packets.specs.declared.cause.Cause.TheVariants.{BadSymbol, BadChar, General}
use Rattle.link_model.specs.declared.event.Event.{Event}
use Rattle.link_model.specs.declared.event.Event.TheVariants.{Ctl, Pkt, Bad}
use Rattle.link_model.specs.declared.reading_kinds.CharKind.{CharKind}
use Rattle.link_model.specs.declared.reading_kinds.CharKind.TheVariants.{Byte, Opens, Idle, Stray}
use Rattle.link_model.specs.declared.reading_kinds.Pending.{Pending}
use Rattle.link_model.specs.declared.reading_kinds.Pending.TheVariants.{Nothing, Opened, One, Two}
use Rattle.link_model.specs.Events.{packet_event}
use Rattle.link_model.specs.Reading.{Text, Plain, Skipped, Within, text_after, told, placed}
use Rattle.link_model.specs.ReadingKinds.{kind}

-- where a reader stands: the text, and what has come of a symbol; a packet in progress is kept
-- meanwhile
pub record Place : Type 0 where
  pub text : Text
  pub pending : Pending

abbrev pub place : Text → Pending → Place
place text pending = record { text = text; pending = pending }

-- nothing is in progress and nothing is skipped
abbrev pub place_start : Place
place_start = place Plain Nothing

-- what a character does: where the reader stands after it, and the events that it completes
pub record ReaderStep : Type 0 where
  pub place : Place
  pub gives : List Event

abbrev pub place_goes : Text → Pending → ReaderStep
place_goes text pending = record { place = place text pending; gives = [] }

abbrev pub fails : Text → Pending → Cause → ReaderStep
fails text pending cause = record { place = place text pending; gives = Bad cause ∷ [] }

-- the text in which a symbol begins: a delimiter ends skipping
abbrev pub opened : Text → Text
opened Plain = Plain
opened Skipped = Plain
opened (Within bytes) = Within bytes

-- a byte in a packet, by whether there is room for it
abbrev pub byte_added : List ℕ → ℕ → Bool → ReaderStep
byte_added bytes byte true = place_goes (Within (bytes ++ byte ∷ [])) Nothing
byte_added bytes byte false = fails Skipped Nothing General

-- the event of a symbol in progress that a delimiter breaks off
abbrev pub broken_off : Pending → List Event
broken_off Nothing = []
broken_off (Opened d) = Bad BadChar ∷ []
broken_off (One d x) = Bad BadChar ∷ []
broken_off (Two d x y) = Bad BadChar ∷ []

-- the text in which a symbol begins, where another may be in progress: a delimiter that breaks one
-- off ends a packet
abbrev pub begins_in : Text → Pending → Text
begins_in text Nothing = opened text
begins_in text (Opened d) = Plain
begins_in text (One d x) = Plain
begins_in text (Two d x y) = Plain

-- a character while no symbol is in progress
abbrev pub outside : Text → CharKind → ReaderStep
outside text (Opens d) = place_goes (opened text) (Opened d)
outside Plain Idle = place_goes Plain Nothing
outside Skipped Idle = place_goes Plain Nothing
outside (Within bytes) Idle = fails Plain Nothing BadChar
outside Plain (Byte byte) = fails Skipped Nothing BadChar
outside Skipped (Byte byte) = place_goes Skipped Nothing
outside (Within bytes) (Byte byte) = byte_added bytes byte (nat_lt (length bytes) 276)
outside Plain Stray = fails Skipped Nothing BadChar
outside Skipped Stray = place_goes Skipped Nothing
outside (Within bytes) Stray = fails Skipped Nothing BadChar

-- a character, no data, while a symbol is in progress
abbrev pub broken : CharKind → ReaderStep
broken (Opens d) = fails Plain (Opened d) BadChar
broken Idle = fails Plain Nothing BadChar
broken Stray = fails Skipped Nothing BadChar
broken (Byte byte) = fails Skipped Nothing BadChar

-- a symbol that was spelled, where its delimiter allows it and where it does not
abbrev pub symbol_taken : Text → Fields → Bool → ReaderStep
symbol_taken text symbol true =
    record { place = place (text_after text symbol.s1) Nothing; gives = told text symbol }
symbol_taken text symbol false = fails Skipped Nothing General

-- the third byte of a symbol, by what the three spell
abbrev pub finished : Text → Delimiter → Option Fields → ReaderStep
finished text d (Some symbol) = symbol_taken text symbol (allowed d symbol)
finished text d None = fails Skipped Nothing BadSymbol

-- a character of this kind
abbrev pub step_by : Text → Pending → CharKind → ReaderStep
step_by text Nothing k = outside text k
step_by text (Opened d) (Byte x) = place_goes text (One d x)
step_by text (Opened d) k = broken k
step_by text (One d x) (Byte y) = place_goes text (Two d x y)
step_by text (One d x) k = broken k
step_by text (Two d x y) (Byte z) = finished text d (spelled x y z)
step_by text (Two d x y) k = broken k

-- one character
abbrev pub step : Place → Char → ReaderStep
step from c = step_by from.text from.pending (kind c)

-- the events of characters, of which the first stands at this place, each at the place of the
-- character that completes it
unfoldable pub run : Place → ℕ → List Char → List (ℕ × Event)
run from at [] = []
run from at (c ∷ cs) = placed at (step from c).gives ++ run (step from c).place (suc at) cs

-- where the reader stands after characters
unfoldable pub place_after : Place → List Char → Place
place_after from [] = from
place_after from (c ∷ cs) = place_after (step from c).place cs

abbrev pub rests_by : Text → Pending → Bool
rests_by Plain Nothing = true
rests_by Skipped Nothing = true
rests_by _ _ = false

-- whether neither a symbol nor a packet is in progress
abbrev pub at_rest : Place → Bool
at_rest from = rests_by from.text from.pending

-- it is no packet
abbrev pub IsNoPacket : Event → Type 0
IsNoPacket (Ctl symbol) = Unit {0}
IsNoPacket (Pkt ack packet) = ⊥
IsNoPacket (Bad cause) = Unit {0}

-- At most two events come of one character. One by itself is no packet. The first of two is a
-- packet's, and the second the symbol that ended the packet: start-of-packet or end-of-packet.
abbrev pub AreGiven : List Event → Type 0
AreGiven [] = Unit {0}
AreGiven (e ∷ []) = IsNoPacket e
AreGiven (e ∷ x ∷ []) =
    (bytes : List ℕ) × (symbol : Fields) × (e ≡ packet_event bytes) × (x ≡ Ctl symbol)
    × ((symbol.s1 ≡ START_OF_PACKET) ⊎ (symbol.s1 ≡ END_OF_PACKET))
AreGiven (e ∷ x ∷ y ∷ es) = ⊥

-- a packet in progress has at most 276 bytes
abbrev pub IsBounded : Text → Type 0
IsBounded Plain = Unit {0}
IsBounded Skipped = Unit {0}
IsBounded (Within bytes) = length bytes ≤ 276
