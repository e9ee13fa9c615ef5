-- Symbols and packets by themselves: from their fields to characters and bytes, and back.
use Rattle.std.specs.Prelude.{◌≡◌, ◌≤◌, ◌<◌, ℕ, List, [], ◌∷◌, Option, Some, None, length, if◌then◌else◌}
use Rattle.rio_symbols.specs.Fields.{Fields, InRange}
use Rattle.rio_packets.specs.Fields.{prio_of, tt_of, ftype_of, source_of, dest_of}
use Rattle.rio_packets.specs.LinkForm.{IsBadLength}
use Rattle.rio_packets.specs.Carries.{Carries}
use Rattle.link_model.specs.Prelude.{Char}
use Rattle.link_model.specs.declared.event.Event.TheVariants.{Ctl}
use Rattle.link_model.specs.Reading.{IsReading}
use Rattle.link_model.specs.ReadingSpelt.{bytes_with_ack}
use Rattle.library_calls.specs.declared.status.CallStatus.{CallStatus}
use Rattle.library_calls.specs.declared.status.CallStatus.TheVariants.{Done, Argument, Bad}
use Rattle.library_calls.specs.declared.told.SymbolTold.{SymbolTold}
use Rattle.library_calls.specs.declared.told.PacketHeader.{PacketHeader}
use Rattle.library_calls.specs.declared.told.PacketTold.{PacketTold}
use Rattle.library_calls.specs.Rooms.{laid_over}
use Rattle.library_calls.specs.Wires.{wire_chars, symbol_wires}
use Rattle.library_calls.specs.Headers.{has_large_ids, HeaderFits, header_body, Makes}
use Rattle.library_calls.specs.Readings.{symbol_told}

-- the symbol that has these fields
abbrev pub symbol_of_told : SymbolTold → Fields
symbol_of_told told = record {
  s0 = told.stype0;
  p0 = told.parameter0;
  p1 = told.parameter1;
  s1 = told.stype1;
  cmd = told.cmd;
}

-- Each field has its width, and there is room for four characters.
abbrev pub SymbolFits : SymbolTold → List ℕ → Type 0
SymbolFits told room = InRange (symbol_of_told told) × (4 ≤ length room)

-- The characters of a symbol stand in the room, or it does not fit, and nothing was done.
abbrev pub SymbolWrites : SymbolTold → List ℕ → List ℕ → CallStatus → Type 0
SymbolWrites told room room_after Done = SymbolFits told room
    × (room_after ≡ laid_over (symbol_wires (symbol_of_told told)) room)
SymbolWrites told room room_after Argument = (SymbolFits told room → ⊥) × (room_after ≡ room)
SymbolWrites told room room_after _ = ⊥

-- The characters are four, and all that they say is this symbol.
abbrev pub SaySymbol : List Char → Fields → Type 0
SaySymbol chars symbol = (length chars ≡ 4) × IsReading chars ((3, Ctl symbol) ∷ [])

-- The symbol of the characters is told, or they are no symbol, and nothing was done.
abbrev pub SymbolReads : List ℕ → SymbolTold → SymbolTold → CallStatus → Type 0
SymbolReads numbers old new Done =
    (symbol : Fields) × SaySymbol (wire_chars numbers) symbol × (new ≡ symbol_told symbol)
SymbolReads numbers old new Bad =
    ((symbol : Fields) → SaySymbol (wire_chars numbers) symbol → ⊥) × (new ≡ old)
SymbolReads numbers old new _ = ⊥

-- The fields and the ackID have their widths, and there is room for the longest packet.
pub record PacketFits (header : PacketHeader) (ack : ℕ) (room : List ℕ) : Type 0 where
  pub fields : HeaderFits header
  pub ack_fits : ack < 32
  pub has_room : 276 ≤ length room

-- The bytes of a packet stand in the room, with its CRC and its ackID; or it does not fit, or its
-- length is out of range, and nothing was done.
abbrev pub PacketWrites : PacketHeader → ℕ → List ℕ → List ℕ → List ℕ → ℕ → CallStatus → Type 0
PacketWrites header ack rest room room_after count Done = (packet : List ℕ)
    × PacketFits header ack room × Makes header rest packet
    × (room_after ≡ laid_over (bytes_with_ack ack packet) room) × (count ≡ length packet)
PacketWrites header ack rest room room_after count Argument =
    (PacketFits header ack room → IsBadLength (header_body header rest))
    × (room_after ≡ room) × (count ≡ 0)
PacketWrites header ack rest room room_after count _ = ⊥

-- an ID, or 0 if there is none
abbrev pub id_or_zero : Option ℕ → ℕ
id_or_zero None = 0
id_or_zero (Some id) = id

-- the ackID and the fields of a packet
abbrev pub packet_told : ℕ → List ℕ → PacketTold
packet_told ack packet = record {
  ack = ack;
  prio = prio_of packet;
  tt = tt_of packet;
  ftype = ftype_of packet;
  source = id_or_zero (source_of packet);
  dest = id_or_zero (dest_of packet);
}

-- what is told of a packet that was made of these fields
abbrev pub header_told : ℕ → PacketHeader → PacketTold
header_told ack header = record {
  ack = ack;
  prio = header.prio;
  tt = if has_large_ids header then 1 else 0;
  ftype = header.ftype;
  source = header.source;
  dest = header.dest;
}

-- The packet that the bytes carry is told, or they carry none, and nothing was done.
abbrev pub PacketReads : List ℕ → PacketTold → PacketTold → CallStatus → Type 0
PacketReads bytes old new Done = (ack : ℕ) × (packet : List ℕ) × Carries bytes ack packet
    × (new ≡ packet_told ack packet)
PacketReads bytes old new Bad =
    ((ack : ℕ) (packet : List ℕ) → Carries bytes ack packet → ⊥) × (new ≡ old)
PacketReads bytes old new _ = ⊥
