-- The texts of lines, as they are printed.
use Rattle.std.specs.Prelude.{ℕ, ◌<◌, List, [], ◌∷◌, ◌++◌, length, map}
use Rattle.std.specs.List.{flat_map}
use Rattle.fabric_script.specs.declared.lines.Line.{Line}
use Rattle.fabric_script.specs.declared.lines.Line.TheVariants.{Endpoint, Switch, Link, Buffers, Route, Default, Lock, Large, Credits, Send, Read, Write, Send16, Read16, Write16, Pump, Deliver, Alter, Insert, Erase, Timeout, Settle, Move, Collect, Run}
use Rattle.fabric_script.specs.declared.lines.Numbered.{Numbered}
use Rattle.fabric_script.specs.Lines.{line_text, new_name, values_of}
use Rattle.fabric_script.specs.Texts.{value_text}

-- the nodes that a line names have a name
abbrev pub AreNamed : List (List ℕ) → Line → Type 0
AreNamed names (Endpoint name id) = name < length names
AreNamed names (Switch name ports) = name < length names
AreNamed names (Link a b) = (a.node < length names) × (b.node < length names)
AreNamed names (Buffers port n) = port.node < length names
AreNamed names (Route node id p) = node < length names
AreNamed names (Default node p) = node < length names
AreNamed names (Lock node id) = node < length names
AreNamed names (Large node id) = node < length names
AreNamed names (Credits port) = port.node < length names
AreNamed names (Send node prio ftype dest hex) = node < length names
AreNamed names (Read node prio dest hop tid offset) = node < length names
AreNamed names (Write node prio dest hop tid offset value) = node < length names
AreNamed names (Send16 node prio ftype dest hex) = node < length names
AreNamed names (Read16 node prio dest hop tid offset) = node < length names
AreNamed names (Write16 node prio dest hop tid offset value) = node < length names
AreNamed names (Pump port n) = port.node < length names
AreNamed names (Deliver port n) = port.node < length names
AreNamed names (Alter port place ch) = port.node < length names
AreNamed names (Insert port place ch) = port.node < length names
AreNamed names (Erase port place n) = port.node < length names
AreNamed names (Timeout port) = port.node < length names
AreNamed names (Settle port) = port.node < length names
AreNamed names (Move node) = node < length names
AreNamed names (Collect node) = node < length names
AreNamed names (Run n) = Unit {0}

-- the texts of what the words of a line say, behind its keyword
abbrev pub value_texts : List (List ℕ) → Line → List (List ℕ)
value_texts names line = map (value_text names) (values_of (new_name names line) line)

-- a text with these words behind it, a space before each
abbrev pub after_words : List ℕ → List (List ℕ) → List ℕ
after_words text [] = text
after_words text (word ∷ words) = after_words (text ++ 32 ∷ word) words

-- the text of a script: a line for each kept line
abbrev pub script_text : List (List ℕ) → List Numbered → List ℕ
script_text names lines = flat_map (λ line. line_text names line.line ++ 10 ∷ []) lines
