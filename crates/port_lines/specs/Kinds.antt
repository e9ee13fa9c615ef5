-- The kinds of lines: the first word of each, and how the words behind it are spelled.
use Rattle.std.specs.Prelude.{ℕ, Bool, true, false, List, [], ◌∷◌, codes, map}
use Rattle.fabric_script.specs.declared.advice.WordKind.{WordKind}
use Rattle.fabric_script.specs.declared.advice.WordKind.TheVariants.{Number, Bytes, Character}
use Rattle.port_lines.specs.declared.kinds.RequestKind.{RequestKind}
use Rattle.port_lines.specs.declared.kinds.RequestKind.TheVariants.{Got, Turn, TimeOut, Send, Send16, Take, State, Reset, Clock}

-- the first word of a line with a packet, by whether its IDs have 16 bits
abbrev pub send_word : Bool → List ℕ
send_word false = codes "send"
send_word true = codes "send16"

abbrev pub request_keyword : RequestKind → List ℕ
request_keyword Got = codes "got"
request_keyword Turn = codes "turn"
request_keyword TimeOut = codes "timeout"
request_keyword Send = send_word false
request_keyword Send16 = send_word true
request_keyword Take = codes "take"
request_keyword State = codes "state"
request_keyword Reset = codes "reset"
request_keyword Clock = codes "clock"

-- the greatest device ID of 8 bits, and of 16 bits
abbrev pub most_id : Bool → ℕ
most_id false = 0xff
most_id true = 0xffff

-- the four numbers of a packet: priority, format type, source and destination
abbrev pub header_fields : Bool → List WordKind
header_fields large = Number 0 3 ∷ Number 0 15 ∷ Number 0 (most_id large)
    ∷ Number 0 (most_id large) ∷ []

-- and its data
abbrev pub packet_fields : Bool → List WordKind
packet_fields large = Number 0 3 ∷ Number 0 15 ∷ Number 0 (most_id large)
    ∷ Number 0 (most_id large) ∷ Bytes ∷ []

-- how the words are spelled that stand behind the first one: of characters there may be any number
abbrev pub request_fields : RequestKind → List (List ℕ) → List WordKind
request_fields Got behind = map (λ word. Character) behind
request_fields Turn behind = Number 1 100000 ∷ []
request_fields TimeOut behind = []
request_fields Send behind = packet_fields false
request_fields Send16 behind = packet_fields true
request_fields Take behind = []
request_fields State behind = []
request_fields Reset behind = []
request_fields Clock behind = map (λ word. Character) behind
