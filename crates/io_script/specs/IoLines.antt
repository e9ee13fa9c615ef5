-- What a line is: its form, and what its words say.
use Rattle.std.specs.Prelude.{ℕ, ◌<◌, List, [], ◌∷◌, length, map}
use Rattle.std.specs.List.{join_with_byte}
use Rattle.fabric_script.specs.declared.values.Value.{Value}
use Rattle.fabric_script.specs.declared.values.Value.TheVariants.{Node as NodeValue, Counted, Bytes, InDigits}
use Rattle.fabric_script.specs.Texts.{value_text}
use Rattle.io_script.specs.declared.forms.IoForm.{IoForm}
use Rattle.io_script.specs.declared.forms.IoForm.TheVariants as F
use Rattle.io_script.specs.declared.lines.IoLine.{IoLine}
use Rattle.io_script.specs.declared.lines.IoLine.TheVariants.{Memory, NRead, NWrite, NWriteR, SWrite, Round}
use Rattle.io_script.specs.IoForms.{io_keyword_of}

abbrev pub io_form_of : IoLine → IoForm
io_form_of (Memory node bytes) = F.Memory
io_form_of (NRead node dest addr size) = F.NRead
io_form_of (NWrite node dest addr load) = F.NWrite
io_form_of (NWriteR node dest addr load) = F.NWriteR
io_form_of (SWrite node dest addr load) = F.SWrite
io_form_of Round = F.Round

-- who asks which device, at which address
abbrev pub io_place : ℕ → ℕ → ℕ → Value → List Value
io_place node dest addr last = NodeValue node ∷ Counted dest ∷ InDigits 8 addr ∷ last ∷ []

-- what the words of a line say
abbrev pub io_values_of : IoLine → List Value
io_values_of (Memory node bytes) = NodeValue node ∷ Counted bytes ∷ []
io_values_of (NRead node dest addr size) = io_place node dest addr (Counted size)
io_values_of (NWrite node dest addr load) = io_place node dest addr (Bytes load)
io_values_of (NWriteR node dest addr load) = io_place node dest addr (Bytes load)
io_values_of (SWrite node dest addr load) = io_place node dest addr (Bytes load)
io_values_of Round = []

-- the words of a line, where the nodes have these names
abbrev pub io_line_words : List (List ℕ) → IoLine → List (List ℕ)
io_line_words names line =
    io_keyword_of (io_form_of line) ∷ map (value_text names) (io_values_of line)

-- the text of a line, without its line feed: its words joined by single spaces
abbrev pub io_line_text : List (List ℕ) → IoLine → List ℕ
io_line_text names line = join_with_byte 32 (io_line_words names line)

-- the node that a line names has a name
abbrev pub IsNamed : List (List ℕ) → IoLine → Type 0
IsNamed names (Memory node bytes) = node < length names
IsNamed names (NRead node dest addr size) = node < length names
IsNamed names (NWrite node dest addr load) = node < length names
IsNamed names (NWriteR node dest addr load) = node < length names
IsNamed names (SWrite node dest addr load) = node < length names
IsNamed names Round = Unit {0}
