-- What a line is: its form, and what its words say.
use Rattle.std.specs.Prelude.{ℕ, Bool, true, false, ◌==◌, List, [], ◌∷◌, map}
use Rattle.std.specs.List.{slice_split, join_with_byte}
use Rattle.fabric_script.specs.declared.forms.Form.{Form}
use Rattle.fabric_script.specs.declared.forms.Form.TheVariants as F
use Rattle.fabric_script.specs.declared.lines.Line.{Line}
use Rattle.fabric_script.specs.declared.lines.Line.TheVariants.{Endpoint, Switch, Link, Buffers, Route, Default, Lock, Large, Credits, Send, Read, Write, Send16, Read16, Write16, Pump, Deliver, Alter, Insert, Erase, Timeout, Settle, Move, Collect, Run}
use Rattle.fabric_script.specs.Names.{name_of}
use Rattle.fabric_script.specs.Forms.{keyword_of}
use Rattle.fabric_script.specs.Texts.{Value, Named, NodeValue, PortValue, Counted, Bytes, InDigits, Code, value_text}

abbrev pub form_of : Line → Form
form_of (Endpoint name id) = F.Endpoint
form_of (Switch name ports) = F.Switch
form_of (Link a b) = F.Link
form_of (Buffers port n) = F.Buffers
form_of (Route node id p) = F.Route
form_of (Default node p) = F.Default
form_of (Lock node id) = F.Lock
form_of (Large node id) = F.Large
form_of (Credits port) = F.Credits
form_of (Send node prio ftype dest hex) = F.Send
form_of (Read node prio dest hop tid offset) = F.Read
form_of (Write node prio dest hop tid offset value) = F.Write
form_of (Send16 node prio ftype dest hex) = F.Send16
form_of (Read16 node prio dest hop tid offset) = F.Read16
form_of (Write16 node prio dest hop tid offset value) = F.Write16
form_of (Pump port n) = F.Pump
form_of (Deliver port n) = F.Deliver
form_of (Alter port place ch) = F.Alter
form_of (Insert port place ch) = F.Insert
form_of (Erase port place n) = F.Erase
form_of (Timeout port) = F.Timeout
form_of (Settle port) = F.Settle
form_of (Move node) = F.Move
form_of (Collect node) = F.Collect
form_of (Run n) = F.Run

-- what the words of a line say, where a new node has this name
abbrev pub values_of : List ℕ → Line → List Value
values_of new (Endpoint name id) = Named new ∷ Counted id ∷ []
values_of new (Switch name ports) = Named new ∷ Counted ports ∷ []
values_of new (Link a b) = PortValue a ∷ PortValue b ∷ []
values_of new (Buffers port n) = PortValue port ∷ Counted n ∷ []
values_of new (Route node id p) = NodeValue node ∷ Counted id ∷ Counted p ∷ []
values_of new (Default node p) = NodeValue node ∷ Counted p ∷ []
values_of new (Lock node id) = NodeValue node ∷ Counted id ∷ []
values_of new (Large node id) = NodeValue node ∷ Counted id ∷ []
values_of new (Credits port) = PortValue port ∷ []
values_of new (Send node prio ftype dest hex) =
    NodeValue node ∷ Counted prio ∷ Counted ftype ∷ Counted dest ∷ Bytes hex ∷ []
values_of new (Read node prio dest hop tid offset) =
    NodeValue node ∷ Counted prio ∷ Counted dest ∷ Counted hop ∷ Counted tid ∷ InDigits 6 offset
    ∷ []
values_of new (Write node prio dest hop tid offset value) = NodeValue node ∷ Counted prio
    ∷ Counted dest ∷ Counted hop ∷ Counted tid ∷ InDigits 6 offset ∷ InDigits 8 value ∷ []
values_of new (Send16 node prio ftype dest hex) =
    NodeValue node ∷ Counted prio ∷ Counted ftype ∷ Counted dest ∷ Bytes hex ∷ []
values_of new (Read16 node prio dest hop tid offset) =
    NodeValue node ∷ Counted prio ∷ Counted dest ∷ Counted hop ∷ Counted tid ∷ InDigits 6 offset
    ∷ []
values_of new (Write16 node prio dest hop tid offset value) = NodeValue node ∷ Counted prio
    ∷ Counted dest ∷ Counted hop ∷ Counted tid ∷ InDigits 6 offset ∷ InDigits 8 value ∷ []
values_of new (Pump port n) = PortValue port ∷ Counted n ∷ []
values_of new (Deliver port n) = PortValue port ∷ Counted n ∷ []
values_of new (Alter port place ch) = PortValue port ∷ Counted place ∷ Code ch ∷ []
values_of new (Insert port place ch) = PortValue port ∷ Counted place ∷ Code ch ∷ []
values_of new (Erase port place n) = PortValue port ∷ Counted place ∷ Counted n ∷ []
values_of new (Timeout port) = PortValue port ∷ []
values_of new (Settle port) = PortValue port ∷ []
values_of new (Move node) = NodeValue node ∷ []
values_of new (Collect node) = NodeValue node ∷ []
values_of new (Run n) = Counted n ∷ []

-- the words of a line, where the nodes have these names and a new one this
abbrev pub line_words : List (List ℕ) → List ℕ → Line → List (List ℕ)
line_words names new line = keyword_of (form_of line) ∷ map (value_text names) (values_of new line)

-- the name of the node that a line makes
abbrev pub new_name : List (List ℕ) → Line → List ℕ
new_name names (Endpoint name id) = name_of names name
new_name names (Switch name ports) = name_of names name
new_name names _ = []

-- the text of a line, without its line feed: its words joined by single spaces
abbrev pub line_text : List (List ℕ) → Line → List ℕ
line_text names line = join_with_byte 32 (line_words names (new_name names line) line)

-- the words of a text: what stands between its spaces, empty or not
abbrev pub words_of : List ℕ → List (List ℕ)
words_of text = slice_split (λ byte. byte == 32) text

-- whether a line is an event; the others set the fabric up
abbrev pub is_event : Line → Bool
is_event (Endpoint name id) = false
is_event (Switch name ports) = false
is_event (Link a b) = false
is_event (Buffers port n) = false
is_event (Route node id p) = false
is_event (Default node p) = false
is_event (Lock node id) = false
is_event (Large node id) = false
is_event (Credits port) = false
is_event _ = true
