-- The keyword of a line of a trace, and the words behind it.
use Rattle.std.specs.Prelude.{◌≡◌, ℕ, List, drop, codes}
use Rattle.fabric_model.specs.Steps.{Hold, Free, Take, Leave, Move, Drop, Answer, Linked, AtNode, ByDevice}
use Rattle.trace_lines.specs.Lines.{Full, Empty, Short, Early, NoStep, Sent, Got, Fired, TraceLine, Begun, Stepped, Signed, Lacked, Ended, Undetected}
use Rattle.fabric_script.specs.Known.{Known}
use Rattle.trace_lines.specs.declared.keywords.Keyword.{Keyword}
use Rattle.trace_lines.specs.declared.keywords.Keyword.TheVariants as K
use Rattle.trace_lines.specs.Words.{trace_words, LineFits}

abbrev pub keyword_text : Keyword → List ℕ
keyword_text K.Begun = codes ">"
keyword_text K.Hold = codes "hold"
keyword_text K.Free = codes "free"
keyword_text K.Take = codes "take"
keyword_text K.Leave = codes "leave"
keyword_text K.Move = codes "move"
keyword_text K.Drop = codes "drop"
keyword_text K.Answer = codes "answer"
keyword_text K.Sent = codes "sent"
keyword_text K.Got = codes "got"
keyword_text K.Fire = codes "fire"
keyword_text K.Full = codes "full"
keyword_text K.Empty = codes "empty"
keyword_text K.Short = codes "short"
keyword_text K.Early = codes "early"
keyword_text K.NoStep = codes "none"
keyword_text K.End = codes "end"
keyword_text K.Undetected = codes "undetected"

abbrev pub trace_keyword_of : TraceLine → Keyword
trace_keyword_of (Begun line) = K.Begun
trace_keyword_of (Stepped (Linked (Hold q packet))) = K.Hold
trace_keyword_of (Stepped (Linked (Free p packet))) = K.Free
trace_keyword_of (Stepped (AtNode (Take n packet))) = K.Take
trace_keyword_of (Stepped (AtNode (Leave n packet))) = K.Leave
trace_keyword_of (Stepped (ByDevice (Move p q packet))) = K.Move
trace_keyword_of (Stepped (ByDevice (Drop p packet))) = K.Drop
trace_keyword_of (Stepped (ByDevice (Answer p packet response))) = K.Answer
trace_keyword_of (Signed (Sent p chars)) = K.Sent
trace_keyword_of (Signed (Got q chars)) = K.Got
trace_keyword_of (Signed (Fired p)) = K.Fire
trace_keyword_of (Lacked Full) = K.Full
trace_keyword_of (Lacked Empty) = K.Empty
trace_keyword_of (Lacked Short) = K.Short
trace_keyword_of (Lacked Early) = K.Early
trace_keyword_of (Lacked NoStep) = K.NoStep
trace_keyword_of Ended = K.End
trace_keyword_of (Undetected number q e) = K.Undetected

-- the words behind the keyword
abbrev pub words_behind : List (List ℕ) → TraceLine → List (List ℕ)
words_behind names line = drop 1 (trace_words names line)

-- the line has this keyword and these words behind it, and it fits
pub record SpellsBehind (known : Known) (keyword : Keyword) (words : List (List ℕ))
    (line : TraceLine) :
    Type 0 where
  pub keyword_is : trace_keyword_of line ≡ keyword
  pub words_are : words ≡ words_behind known.names line
  pub fits : LineFits known line

-- no line does
abbrev pub NoneBehind : Known → Keyword → List (List ℕ) → Type 0
NoneBehind known keyword words = (line : TraceLine) → SpellsBehind known keyword words line → ⊥
