-- What a line of a scenario puts on the wire.
use Rattle.std.specs.Prelude.{◌≡◌, ℕ, ◌+◌, ◌-◌, ◌%◌, ◌<◌, ◌≤◌, ◌==◌, if◌then◌else◌, List, [], ◌∷◌, ◌++◌, All, Option, Some, None, codes, length, slice_set, slice_index, slice_range}
use Rattle.std.specs.Fmt.{decimal}
use Rattle.rio_chars.specs.declared.chars.Char.{Char}
use Rattle.fabric_script.specs.Texts.{hex_text}
use Rattle.link_model.specs.ReadingSpelt.{data_chars, symbol_chars_of, bytes_with_ack}
use Rattle.port_lines.specs.Requests.{AsksRequest}
use Rattle.port_lines.specs.declared.requests.PortRequest.TheVariants.{Send}
use Rattle.conform_lines.specs.declared.items.LinkItem.{LinkItem}
use Rattle.conform_lines.specs.declared.items.LinkItem.TheVariants.{Symbol, Data, Packet, Spoiled, Part}
use Rattle.conform_lines.specs.declared.symbols.SymbolName.{SymbolName}
use Rattle.conform_lines.specs.declared.symbols.SymbolName.TheVariants as Names
use Rattle.conform_lines.specs.Names.{symbol_word, symbol_fields}

-- The words spell the two parameters of a symbol, each below 32. If there are fewer, the first is
-- 0, and the second 31: no free buffers are told.
abbrev pub SpellsParameters : List (List ℕ) → ℕ → ℕ → Type 0
SpellsParameters [] p0 p1 = (p0 ≡ 0) × (p1 ≡ 31)
SpellsParameters (first ∷ []) p0 p1 = (p0 < 32) × (first ≡ decimal p0) × (p1 ≡ 31)
SpellsParameters (first ∷ second ∷ []) p0 p1 = (p0 < 32) × (p1 < 32)
    × (first ≡ decimal p0) × (second ≡ decimal p1)
SpellsParameters _ p0 p1 = ⊥

-- The words spell an ackID, and a line by which a port is given a packet; these are the bytes that
-- a port sends for both.
pub record SpellsLinkBytes (words : List (List ℕ)) (bytes : List ℕ) : Type 0 where
  pub ack : ℕ
  pub line : List (List ℕ)
  pub packet : List ℕ
  pub small : ack < 32
  pub words_are : words ≡ decimal ack ∷ line
  pub asks : AsksRequest (Send packet) line
  pub bytes_are : bytes ≡ bytes_with_ack ack packet

-- a byte whose lowest bit is turned
abbrev pub bit_turned : ℕ → ℕ
bit_turned byte = if byte % 2 == 0 then byte + 1 else byte - 1

-- the words spell the ends of a part of a packet, and the packet
pub record SpellsPart (words : List (List ℕ)) (part : List ℕ) : Type 0 where
  pub from : ℕ
  pub to : ℕ
  pub behind : List (List ℕ)
  pub bytes : List ℕ
  pub words_are : words ≡ decimal from ∷ decimal to ∷ behind
  pub spells : SpellsLinkBytes behind bytes
  pub ordered : from ≤ to
  pub within : to ≤ length bytes
  pub part_is : part ≡ slice_range bytes from to

-- a row for each kind of line
abbrev pub SpellsItem : LinkItem → List (List ℕ) → Type 0
SpellsItem (Symbol symbol) words = (name : SymbolName) × (behind : List (List ℕ)) × (p0 : ℕ)
    × (p1 : ℕ) × (words ≡ symbol_word name ∷ behind) × SpellsParameters behind p0 p1
    × (symbol ≡ symbol_fields name p0 p1)
SpellsItem (Data bytes) words =
    All (λ byte. byte < 256) bytes.items × (words ≡ codes "data" ∷ hex_text bytes.items ∷ [])
SpellsItem (Packet bytes) words = (behind : List (List ℕ)) × (words ≡ codes "packet" ∷ behind)
    × SpellsLinkBytes behind bytes.items
SpellsItem (Spoiled bytes) words = (behind : List (List ℕ)) × (right : List ℕ)
    × (words ≡ codes "spoiled" ∷ behind) × SpellsLinkBytes behind right
    × (4 < length right) × (bytes.items ≡ slice_set right 4 (bit_turned (slice_index right 4)))
SpellsItem (Part bytes) words = (behind : List (List ℕ)) × (words ≡ codes "part" ∷ behind)
    × SpellsPart behind bytes.items

-- what is read of words: the item that they spell, or they spell none
abbrev pub ReadsItem : Option LinkItem → List (List ℕ) → Type 0
ReadsItem (Some item) words = SpellsItem item words
ReadsItem None words = (item : LinkItem) → ¬ SpellsItem item words

-- a start-of-packet symbol, bytes, and an end-of-packet symbol
abbrev pub packet_between : List ℕ → List Char
packet_between bytes = symbol_chars_of (symbol_fields Names.Start 0 31)
    ++ (data_chars bytes ++ symbol_chars_of (symbol_fields Names.End 0 31))

-- the characters that are put on the wire
abbrev pub item_chars : LinkItem → List Char
item_chars (Symbol symbol) = symbol_chars_of symbol
item_chars (Data bytes) = data_chars bytes.items
item_chars (Packet bytes) = packet_between bytes.items
item_chars (Spoiled bytes) = packet_between bytes.items
item_chars (Part bytes) = data_chars bytes.items
