-- The forms of a line: a keyword, and the kinds of the words behind it.
use Rattle.std.specs.Prelude.{ℕ, ◌≤◌, List, [], ◌∷◌, codes}
pub use Rattle.fabric_script.specs.declared.fields.Field.{Field}
pub use Rattle.fabric_script.specs.declared.fields.Field.TheVariants.{NewName, Node, Port, Number, Hex, Digits, Character}
use Rattle.fabric_script.specs.declared.forms.Form.{Form}
use Rattle.fabric_script.specs.declared.forms.Form.TheVariants.{Endpoint, Switch, Link, Buffers, Route, Default, Lock, Large, Credits, Send, Read, Write, Send16, Read16, Write16, Pump, Deliver, Alter, Insert, Erase, Timeout, Settle, Move, Collect, Run}

-- so many hexadecimal digits are read as a number of 32 bits
abbrev pub IsShort : Field → Type 0
IsShort (Digits count) = count ≤ 8
IsShort _ = Unit {0}

abbrev pub keyword_of : Form → List ℕ
keyword_of Endpoint = codes "endpoint"
keyword_of Switch = codes "switch"
keyword_of Link = codes "link"
keyword_of Buffers = codes "buffers"
keyword_of Route = codes "route"
keyword_of Default = codes "default"
keyword_of Lock = codes "lock"
keyword_of Large = codes "large"
keyword_of Credits = codes "credits"
keyword_of Send = codes "send"
keyword_of Read = codes "read"
keyword_of Write = codes "write"
keyword_of Send16 = codes "send16"
keyword_of Read16 = codes "read16"
keyword_of Write16 = codes "write16"
keyword_of Pump = codes "pump"
keyword_of Deliver = codes "deliver"
keyword_of Alter = codes "alter"
keyword_of Insert = codes "insert"
keyword_of Erase = codes "erase"
keyword_of Timeout = codes "timeout"
keyword_of Settle = codes "settle"
keyword_of Move = codes "move"
keyword_of Collect = codes "collect"
keyword_of Run = codes "run"

abbrev pub fields_of : Form → List Field
fields_of Endpoint = NewName ∷ Number 0 255 ∷ []
fields_of Switch = NewName ∷ Number 2 16 ∷ []
fields_of Link = Port ∷ Port ∷ []
fields_of Buffers = Port ∷ Number 4 30 ∷ []
fields_of Route = Node ∷ Number 0 1023 ∷ Number 0 255 ∷ []
fields_of Default = Node ∷ Number 0 255 ∷ []
fields_of Lock = Node ∷ Number 0 65535 ∷ []
fields_of Large = Node ∷ Number 0 65535 ∷ []
fields_of Credits = Port ∷ []
fields_of Send = Node ∷ Number 0 3 ∷ Number 0 15 ∷ Number 0 255 ∷ Hex ∷ []
fields_of Read = Node ∷ Number 0 3 ∷ Number 0 255 ∷ Number 0 255 ∷ Number 0 255 ∷ Digits 6 ∷ []
fields_of Write = Node ∷ Number 0 3 ∷ Number 0 255 ∷ Number 0 255 ∷ Number 0 255 ∷ Digits 6
    ∷ Digits 8 ∷ []
fields_of Send16 = Node ∷ Number 0 3 ∷ Number 0 15 ∷ Number 0 65535 ∷ Hex ∷ []
fields_of Read16 = Node ∷ Number 0 3 ∷ Number 0 65535 ∷ Number 0 255 ∷ Number 0 255 ∷ Digits 6 ∷ []
fields_of Write16 = Node ∷ Number 0 3 ∷ Number 0 65535 ∷ Number 0 255 ∷ Number 0 255 ∷ Digits 6
    ∷ Digits 8 ∷ []
fields_of Pump = Port ∷ Number 1 100000 ∷ []
fields_of Deliver = Port ∷ Number 1 100000 ∷ []
fields_of Alter = Port ∷ Number 0 100000 ∷ Character ∷ []
fields_of Insert = Port ∷ Number 0 100000 ∷ Character ∷ []
fields_of Erase = Port ∷ Number 0 100000 ∷ Number 1 100000 ∷ []
fields_of Timeout = Port ∷ []
fields_of Settle = Port ∷ []
fields_of Move = Node ∷ []
fields_of Collect = Node ∷ []
fields_of Run = Number 1 100000 ∷ []
