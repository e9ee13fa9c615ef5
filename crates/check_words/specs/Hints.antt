-- What would have been lawful at a line of a trace, in words.
use Rattle.std.specs.Prelude.{ℕ, List, [], ◌∷◌, ◌++◌, codes, Option, None, Some}
use Rattle.std.specs.Fmt.{decimal}
use Rattle.rio_chars.specs.declared.chars.Char.{Char}
use Rattle.rio_chars.specs.CharText.{spaced_chars}
use Rattle.rio_chars.specs.HexText.{hex_of}
use Rattle.trace_check.specs.declared.expecting.Expected.{Expected}
use Rattle.trace_check.specs.declared.expecting.Expected.TheVariants.{Front, OnWire, OnLink, Came, Freed, Waiting, Needed}
use Rattle.check_words.specs.Needs.{unmet_text}

-- the next characters of a wire
abbrev pub front_text : List Char → List ℕ
front_text [] = codes "; the wire is empty"
front_text (c ∷ chars) = codes "; the wire goes on with" ++ spaced_chars (c ∷ chars)

-- the first packet that came with an ackID
abbrev pub came_text : ℕ → Option (List ℕ) → List ℕ
came_text ack None = codes "; no packet came so with ackID " ++ decimal ack
came_text ack (Some packet) = (codes "; the first packet that came so with ackID "
    ++ (decimal ack ++ codes " is ")) ++ hex_of packet

-- the first packet of a priority that waits
abbrev pub waiting_text : ℕ → Option (List ℕ) → List ℕ
waiting_text prio None = codes "; no packet of priority " ++ (decimal prio ++ codes " waits")
waiting_text prio (Some packet) = (codes "; the first packet of priority "
    ++ (decimal prio ++ codes " that waits is ")) ++ hex_of packet

abbrev pub expected_text : Expected → List ℕ
expected_text (Front chars) = front_text chars.items
expected_text (OnWire n) = codes "; the wire has a length of " ++ decimal n
expected_text (OnLink n) = codes "; a wire of the link has a length of " ++ decimal n
expected_text (Came ack packet) = came_text ack packet
expected_text (Freed n) = codes "; the number acknowledged so far is " ++ decimal n
expected_text (Waiting prio packet) = waiting_text prio packet
expected_text (Needed unmet) = unmet_text unmet

-- what would have been lawful, if that is known
abbrev pub hint_text : Option Expected → List ℕ
hint_text None = []
hint_text (Some expected) = expected_text expected
