-- What is sent for a symbol and for a packet.
use Rattle.std.specs.Prelude.{ℕ, ◌+◌, ◌*◌, List, ◌∷◌, ◌++◌, map, slice_set, slice_index}
use Rattle.rio_chars.specs.declared.chars.Char.{Char}
use Rattle.rio_chars.specs.declared.chars.Char.TheVariants.{Data, Special}
use Rattle.rio_symbols.specs.declared.characters.Delimiter.{Delimiter}
use Rattle.rio_symbols.specs.declared.characters.Delimiter.TheVariants.{Sc, Pd}
use Rattle.rio_symbols.specs.Delimiters.{delimiter_of}
use Rattle.rio_symbols.specs.Fields.{Fields}
use Rattle.rio_symbols.specs.Spelling.{symbol_bytes}

-- the special character of a delimiter
abbrev pub delimiter_char : Delimiter → Char
delimiter_char Sc = Special 0x1c
delimiter_char Pd = Special 0x7c

-- data characters with these bytes
abbrev pub data_chars : List ℕ → List Char
data_chars bytes = map (λ byte. Data byte) bytes

-- the delimiter and the three bytes of a symbol
unfoldable pub symbol_chars_of : Fields → List Char
symbol_chars_of symbol = delimiter_char (delimiter_of symbol) ∷ data_chars (symbol_bytes symbol)

-- the bytes of a packet with an ackID in the first five bits
unfoldable pub bytes_with_ack : ℕ → List ℕ → List ℕ
bytes_with_ack ack packet = slice_set packet 0 (8 * ack + slice_index packet 0)

-- a start-of-packet symbol, the bytes of the packet with its ackID, and an end-of-packet symbol
unfoldable pub packet_chars_of : Fields → ℕ → List ℕ → Fields → List Char
packet_chars_of start ack packet end =
    symbol_chars_of start ++ (data_chars (bytes_with_ack ack packet) ++ symbol_chars_of end)
