-- Which words each kind of word may be, and which reason hits the others.
use Rattle.std.specs.Prelude.{◌≡◌, ◌≢◌, ℕ, ◌^◌, ◌<◌, ◌≤◌, true, false, ◌⊎◌, List, [], ◌∷◌, ◌++◌, All, Contains, codes, length}
use Rattle.std.specs.Fmt.{decimal}
use Rattle.rio_chars.specs.CharText.{char_text_of, HasByte}
use Rattle.rio_chars.specs.declared.chars.Char.{Char}
use Rattle.fabric_script.specs.declared.ports.PortRef.{PortRef}
use Rattle.fabric_script.specs.declared.reasons.Reason.{Reason}
use Rattle.fabric_script.specs.declared.reasons.Reason.TheVariants.{BadNumber, BadName, NameTaken, UnknownNode, PortOutside, BadHex}
use Rattle.fabric_script.specs.Names.{is_name}
use Rattle.fabric_script.specs.Forms.{Field, NewName, Node, Port, Number, Hex, Digits, Character}
use Rattle.fabric_script.specs.Texts.{Value, Named, NodeValue, PortValue, Counted, Bytes, InDigits, Code, port_text, hex_text, digits_text}
use Rattle.fabric_script.specs.Known.{Known, ports_of}

-- what a kind of word may say
abbrev pub FitsField : Known → Field → Value → Type 0
FitsField known NewName (Named name) = (is_name name ≡ true) × ¬ Contains known.names name
FitsField known Node (NodeValue n) = n < length known.names
FitsField known Port (PortValue p) =
    (p.node < length known.names) × (p.port < 16) × (p.port < ports_of known.nodes p.node)
FitsField known (Number least most) (Counted n) = (least ≤ n) × (n ≤ most)
FitsField known Hex (Bytes bytes) = All (λ byte. byte < 256) bytes
FitsField known (Digits count) (InDigits shown n) = (shown ≡ count) × (n < 16 ^ count)
FitsField known Character (Code c) = HasByte c
FitsField known _ _ = ⊥

-- the text of a port: the name of a node, a point, and a number of a port
abbrev pub point_text : List ℕ → ℕ → List ℕ
point_text name port = name ++ codes "." ++ decimal port

-- A reason hits a word of a kind. Reason 2: it is no number of the range.
pub data Hits (known : Known) : Reason → Field → List ℕ → Type 0 where
  NumberIsBad : {least most : ℕ} {word : List ℕ}
      → ((n : ℕ) → least ≤ n → n ≤ most → word ≢ decimal n)
      → Hits known BadNumber (Number least most) word
  -- 3: it is no name; of a port, it is no name with the number of a port, 0 to 15
  NewNameIsBad : {word : List ℕ} → is_name word ≡ false → Hits known BadName NewName word
  NodeIsBad : {word : List ℕ} → is_name word ≡ false → Hits known BadName Node word
  PortIsBad : {word : List ℕ}
      → ((name : List ℕ) (port : ℕ) → is_name name ≡ true → port < 16 → word ≢ point_text name port)
      → Hits known BadName Port word
  -- 4: an earlier node has the name
  NameIsTaken : {word : List ℕ} → is_name word ≡ true → Contains known.names word
      → Hits known NameTaken NewName word
  -- 5: no earlier node has the name
  NodeIsUnknown : {word : List ℕ} → is_name word ≡ true → ¬ Contains known.names word
      → Hits known UnknownNode Node word
  PortIsUnknown : {word : List ℕ} (name : List ℕ) (port : ℕ) → is_name name ≡ true → port < 16
      → word ≡ point_text name port → ¬ Contains known.names name → Hits known UnknownNode Port word
  -- 6: the node has no such port
  PortIsOutside : {word : List ℕ} (p : PortRef) → p.node < length known.names → p.port < 16
      → word ≡ port_text known.names p → ports_of known.nodes p.node ≤ p.port
      → Hits known PortOutside Port word
  -- 9: it spells no bytes, no number in so many digits, no character
  HexIsBad : {word : List ℕ}
      → ((bytes : List ℕ) → All (λ byte. byte < 256) bytes → word ≢ hex_text bytes)
      → Hits known BadHex Hex word
  DigitsAreBad : {count : ℕ} {word : List ℕ}
      → ((n : ℕ) → n < 16 ^ count → word ≢ digits_text count n)
      → Hits known BadHex (Digits count) word
  CharacterIsBad : {word : List ℕ} → ((c : Char) → HasByte c → word ≢ char_text_of c)
      → Hits known BadHex Character word

-- the reason hits one of these words
abbrev pub HitsOne : Known → Reason → List Field → List (List ℕ) → Type 0
HitsOne known reason (field ∷ fields) (word ∷ words) =
    Hits known reason field word ⊎ HitsOne known reason fields words
HitsOne known reason _ _ = ⊥

-- each value may be said by a word of its kind
abbrev pub FitAll : Known → List Field → List Value → Type 0
FitAll known [] [] = Unit {0}
FitAll known (field ∷ fields) (value ∷ values) =
    FitsField known field value × FitAll known fields values
FitAll known _ _ = ⊥
