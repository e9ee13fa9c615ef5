-- What a line of a scenario asks of a device.
use Rattle.std.specs.Prelude.{◌≡◌, ℕ, List, ◌++◌, ◌⊎◌, Bool, true, false, Option, codes, Result, Ok, Err}
use Rattle.std.specs.Io.KnownBytes.{Appends}
use Rattle.rio_chars.specs.CharText.{spaced_chars}
use Rattle.fabric_script.specs.Lines.{words_of}
use Rattle.port_lines.specs.Lines.{ReadsLine}
use Rattle.port_lines.specs.Requests.{AsksRequest}
use Rattle.port_lines.specs.declared.faults.RequestRefusal.{RequestRefusal}
use Rattle.port_lines.specs.declared.requests.PortRequest.{PortRequest}
use Rattle.port_lines.specs.declared.requests.PortRequest.TheVariants.{Got, Turn, TimeOut, Send, Take, State, Reset, Clock}
use Rattle.conform_lines.specs.declared.items.LinkItem.{LinkItem}
use Rattle.conform_lines.specs.Items.{SpellsItem, item_chars}

-- the words spell what is put on the wire, and these are its characters
abbrev pub SpellsWire : PortRequest → List (List ℕ) → Type 0
SpellsWire request words =
    (item : LinkItem) × SpellsItem item words × (request ≡ Got (item_chars item))

-- the words spell nothing that is put on the wire
abbrev pub SpellsNoWire : List (List ℕ) → Type 0
SpellsNoWire words = (request : PortRequest) → ¬ SpellsWire request words

-- What was read of a line of a scenario: that characters come which its words spell; or else what
-- it asks of a port as it is, or why it asks nothing of one. So `reset` is the control symbol.
abbrev pub ReadsStimulus : List ℕ → Result PortRequest RequestRefusal → Type 0
ReadsStimulus line (Ok request) = SpellsWire request (words_of line)
    ⊎ (SpellsNoWire (words_of line) × AsksRequest request (words_of line))
ReadsStimulus line (Err refusal) = SpellsNoWire (words_of line) × ReadsLine line (Err refusal)

-- the line that a device is asked, without its line feed
abbrev pub stimulus_line : List ℕ → PortRequest → List ℕ
stimulus_line line (Got chars) = codes "got" ++ spaced_chars chars
stimulus_line line (Turn count) = line
stimulus_line line TimeOut = line
stimulus_line line (Send packet) = line
stimulus_line line Take = line
stimulus_line line State = line
stimulus_line line Reset = line
stimulus_line line (Clock chars) = line

-- and with it
abbrev pub stimulus_text : List ℕ → PortRequest → List ℕ
stimulus_text line request = stimulus_line line request ++ codes "\n"

-- all of a text was written, unless a write failed
abbrev pub TellsAll : Bool → Option (List ℕ) → Option (List ℕ) → List ℕ → Type 0
TellsAll false written written_after text = Appends written written_after text
TellsAll true written written_after text = Unit {0}
