-- Which entry of the reading of characters a character meets. The rows are those of `step`, by what
-- it gives. A character that only goes on with a symbol or a packet, as every one has them, meets
-- none.
use Rattle.std.specs.Prelude.{ℕ, ◌==◌, List, [], ◌∷◌, Option, Some, None, if◌then◌else◌}
use Rattle.rio_symbols.specs.declared.stype1.TheConstants.{START_OF_PACKET, STOMP, END_OF_PACKET, RESTART_FROM_RETRY, LINK_REQUEST}
use Rattle.rio_packets.specs.declared.cause.Cause.{Cause}
use Rattle.rio_packets.specs.declared.cause.Cause.TheVariants.{UnexpectedAck, BadSymbol, BadPacket, BadChar, General}
use Rattle.link_model.specs.Prelude.{Char, Place, step}
use Rattle.link_model.specs.Reading.{Text}
use Rattle.link_model.specs.ReadingKinds.{kind}
use Rattle.link_model.specs.declared.event.Event.{Event}
use Rattle.link_model.specs.declared.event.Event.TheVariants.{Ctl, Bad}
use Rattle.link_model.specs.declared.reading_kinds.CharKind.{CharKind}
use Rattle.link_model.specs.declared.reading_kinds.CharKind.TheVariants.{Byte, Opens, Idle, Stray}
use Rattle.link_model.specs.declared.reading_kinds.Pending.{Pending}
use Rattle.link_model.specs.declared.reading_kinds.Pending.TheVariants as Pend
use Rattle.link_entries.specs.declared.entry.ReadEntry.{ReadEntry}
use Rattle.link_entries.specs.declared.entry.ReadEntry.TheVariants as entry

-- a byte in a packet, by what it gives: only one too many gives anything
abbrev pub byte_entry : List Event → Option ReadEntry
byte_entry [] = None
byte_entry (e ∷ es) = Some entry.TooLong

-- a character while no symbol is in progress
abbrev pub outside_entry : Text → CharKind → List Event → Option ReadEntry
outside_entry Text.Plain (Opens d) gives = None
outside_entry Text.Skipped (Opens d) gives = Some entry.SkippingEnds
outside_entry (Text.Within bytes) (Opens d) gives = None
outside_entry Text.Plain Idle gives = Some entry.IdleOutside
outside_entry Text.Skipped Idle gives = Some entry.SkippingEnds
outside_entry (Text.Within bytes) Idle gives = Some entry.IdleInPacket
outside_entry Text.Plain (Byte byte) gives = Some entry.DataOutside
outside_entry Text.Skipped (Byte byte) gives = Some entry.Skipped
outside_entry (Text.Within bytes) (Byte byte) gives = byte_entry gives
outside_entry Text.Plain Stray gives = Some entry.StrayOutside
outside_entry Text.Skipped Stray gives = Some entry.Skipped
outside_entry (Text.Within bytes) Stray gives = Some entry.StrayInPacket

-- a character, no data, while a symbol is in progress
abbrev pub broken_entry : CharKind → Option ReadEntry
broken_entry (Opens d) = Some entry.DelimiterInSymbol
broken_entry Idle = Some entry.IdleInSymbol
broken_entry Stray = Some entry.StrayInSymbol
broken_entry (Byte byte) = None

-- a symbol that ends no packet, by its stype1
abbrev pub symbol_entry : Text → ℕ → Option ReadEntry
symbol_entry Text.Plain s1 = if s1 == END_OF_PACKET then Some entry.EndOutside else None
symbol_entry Text.Skipped s1 = None
symbol_entry (Text.Within bytes) s1 =
    if s1 == STOMP then Some entry.StompInPacket
    else (if (s1 == RESTART_FROM_RETRY) then Some entry.BrokenOff
    else (if s1 == LINK_REQUEST then Some entry.BrokenOff else Some entry.SymbolInPacket))

-- why characters are no symbol
abbrev pub no_symbol_entry : Cause → Option ReadEntry
no_symbol_entry UnexpectedAck = None
no_symbol_entry BadSymbol = Some entry.NoSymbol
no_symbol_entry BadPacket = None
no_symbol_entry BadChar = None
no_symbol_entry General = Some entry.WrongDelimiter

-- why the bytes of a packet that ends carry none
abbrev pub no_packet_entry : Cause → Option ReadEntry
no_packet_entry UnexpectedAck = None
no_packet_entry BadSymbol = None
no_packet_entry BadPacket = Some entry.BadCrc
no_packet_entry BadChar = None
no_packet_entry General = Some entry.TooShort

-- the third byte of a symbol, by what it gives
abbrev pub finished_entry : Text → List Event → Option ReadEntry
finished_entry text (Bad cause ∷ []) = no_symbol_entry cause
finished_entry text (Ctl symbol ∷ []) = symbol_entry text symbol.s1
finished_entry text (Bad cause ∷ e ∷ es) = no_packet_entry cause
finished_entry text _ = None

-- a character of this kind
abbrev pub entry_by : Text → Pending → CharKind → List Event → Option ReadEntry
entry_by text Pend.Nothing k gives = outside_entry text k gives
entry_by text (Pend.Opened d) k gives = broken_entry k
entry_by text (Pend.One d x) k gives = broken_entry k
entry_by text (Pend.Two d x y) (Byte z) gives = finished_entry text gives
entry_by text (Pend.Two d x y) k gives = broken_entry k

-- one character
abbrev pub read_entry : Place → Char → Option ReadEntry
read_entry from c = entry_by from.text from.pending (kind c) (step from c).gives

-- beside the end of a packet: the start-of-packet of the next one ends it
abbrev pub ended_point_of : List Event → Option ReadEntry
ended_point_of (e ∷ Ctl symbol ∷ []) =
    if symbol.s1 == START_OF_PACKET then Some entry.EndedByNext else None
ended_point_of _ = None

abbrev pub ended_point : Place → Char → Option ReadEntry
ended_point from c = ended_point_of (step from c).gives
