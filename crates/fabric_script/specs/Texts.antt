-- The texts of what stands in a line, a word each.
use Rattle.std.specs.Prelude.{ℕ, ◌/◌, ◌%◌, zero, suc, List, [], ◌∷◌, ◌++◌, codes}
use Rattle.std.specs.Fmt.{decimal}
use Rattle.rio_chars.specs.HexText.{hex_digit, hex_of}
use Rattle.rio_chars.specs.CharText.{char_text_of}
use Rattle.fabric_script.specs.declared.ports.PortRef.{PortRef}
use Rattle.fabric_script.specs.Names.{name_of}
pub use Rattle.fabric_script.specs.declared.values.Value.{Value}
pub use Rattle.fabric_script.specs.declared.values.Value.TheVariants.{Named, Node as NodeValue, Port as PortValue, Counted, Bytes, InDigits, Code}

-- a node's name, a point and the port's number
abbrev pub port_text : List (List ℕ) → PortRef → List ℕ
port_text names p = name_of names p.node ++ codes "." ++ decimal p.port

-- bytes in hexadecimal, and a hyphen for no bytes
abbrev pub hex_text : List ℕ → List ℕ
hex_text [] = codes "-"
hex_text (byte ∷ bytes) = hex_of (byte ∷ bytes)

-- the last so many hexadecimal digits of a number
abbrev pub digits_text : ℕ → ℕ → List ℕ
digits_text zero n = []
digits_text (suc count) n = digits_text count (n / 16) ++ hex_digit (n % 16) ∷ []

abbrev pub value_text : List (List ℕ) → Value → List ℕ
value_text names (Named name) = name
value_text names (NodeValue n) = name_of names n
value_text names (PortValue p) = port_text names p
value_text names (Counted n) = decimal n
value_text names (Bytes bytes) = hex_text bytes
value_text names (InDigits count n) = digits_text count n
value_text names (Code c) = char_text_of c
