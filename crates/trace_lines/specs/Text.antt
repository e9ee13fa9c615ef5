-- The text of a trace. A node is told by its name, a port by its node's name and its number, a
-- packet by its bytes in hexadecimal, and characters by their texts, each behind a space.
use Rattle.std.specs.Prelude.{ℕ, List, [], ◌∷◌, ◌++◌, codes}
use Rattle.std.specs.List.{flat_map}
use Rattle.std.specs.Fmt.{decimal}
use Rattle.rio_chars.specs.HexText.{hex_of}
use Rattle.rio_chars.specs.CharText.{spaced_chars}
use Rattle.link_model.specs.declared.event.Event.{Event}
use Rattle.link_model.specs.declared.event.Event.TheVariants.{Ctl, Pkt, Bad}
use Rattle.fabric_script.specs.Names.{name_of}
use Rattle.fabric_script.specs.Texts.{port_text}
use Rattle.fabric_script.specs.Lines.{line_text}
use Rattle.fabric_model.specs.Steps.{Hold, Free, Take, Leave, Move, Drop, Answer, Step, Linked, AtNode, ByDevice}
use Rattle.trace_lines.specs.Lines.{Lack, Full, Empty, Short, Early, NoStep, Sign, Sent, Got, Fired, TraceLine, Begun, Stepped, Signed, Lacked, Ended, Undetected}

abbrev pub step_text : List (List ℕ) → Step → List ℕ
step_text names (Linked (Hold q packet)) =
    codes "hold " ++ port_text names q ++ codes " " ++ hex_of packet
step_text names (Linked (Free p packet)) =
    codes "free " ++ port_text names p ++ codes " " ++ hex_of packet
step_text names (AtNode (Take n packet)) =
    codes "take " ++ name_of names n ++ codes " " ++ hex_of packet
step_text names (AtNode (Leave n packet)) =
    codes "leave " ++ name_of names n ++ codes " " ++ hex_of packet
step_text names (ByDevice (Move p q packet)) =
    codes "move " ++ port_text names p ++ codes " " ++ port_text names q ++ codes " "
    ++ hex_of packet
step_text names (ByDevice (Drop p packet)) =
    codes "drop " ++ port_text names p ++ codes " " ++ hex_of packet
step_text names (ByDevice (Answer p packet response)) =
    codes "answer " ++ port_text names p ++ codes " " ++ hex_of packet ++ codes " "
    ++ hex_of response

abbrev pub sign_text : List (List ℕ) → Sign → List ℕ
sign_text names (Sent p chars) = codes "sent " ++ port_text names p ++ spaced_chars chars
sign_text names (Got q chars) = codes "got " ++ port_text names q ++ spaced_chars chars
sign_text names (Fired p) = codes "fire " ++ port_text names p

abbrev pub lack_text : Lack → List ℕ
lack_text Full = codes "full"
lack_text Empty = codes "empty"
lack_text Short = codes "short"
lack_text Early = codes "early"
lack_text NoStep = codes "none"

-- A symbol is told by stype0, its two parameters, stype1 and cmd; a packet by its ackID and its
-- bytes. What is neither is never acted on, and has no text.
abbrev pub event_text : Event → List ℕ
event_text (Ctl symbol) =
    codes "symbol " ++ decimal symbol.s0 ++ codes " " ++ decimal symbol.p0 ++ codes " "
    ++ decimal symbol.p1 ++ codes " " ++ decimal symbol.s1 ++ codes " " ++ decimal symbol.cmd
event_text (Pkt ack packet) = codes "packet " ++ decimal ack ++ codes " " ++ hex_of packet
event_text (Bad cause) = []

-- the text of a line, without its line feed
abbrev pub trace_line_text : List (List ℕ) → TraceLine → List ℕ
trace_line_text names (Begun line) = codes "> " ++ line_text names line
trace_line_text names (Stepped step) = step_text names step
trace_line_text names (Signed sign) = sign_text names sign
trace_line_text names (Lacked lack) = lack_text lack
trace_line_text names Ended = codes "end"
trace_line_text names (Undetected number q e) =
    codes "undetected " ++ decimal number ++ codes " " ++ port_text names q ++ codes " "
    ++ event_text e

-- the text of a trace: each line with a line feed
abbrev pub trace_text : List (List ℕ) → List TraceLine → List ℕ
trace_text names lines = flat_map (λ line. trace_line_text names line ++ 10 ∷ []) lines
