-- What is told of an event, and how much of a trace.
use Rattle.std.specs.Prelude.{◌≡◌, ◌⊎◌, ℕ, Bool, true, false, List, [], ◌∷◌, ◌++◌, if◌then◌else◌}
use Rattle.fabric_script.specs.declared.lines.Line.{Line}
use Rattle.fabric_trace.specs.Blocks.{IsBlock}
use Rattle.trace_lines.specs.Lines.{TraceLine, Begun, Signed, Sent, Got}
use Rattle.trace_lines.specs.Text.{trace_text}
use Rattle.refusal_words.specs.Citing.{refusal_line}
use Rattle.live_fabric.specs.Lines.{Taken, Outcome, Happened, Refused, IsSent, MetUnsent, seen_so_far, taken_with, undetected_at_text}

-- ---- how much of a trace

-- whether a line has characters: a port sent some, or got some
abbrev pub has_chars_line : TraceLine → Bool
has_chars_line (Signed (Sent p chars)) = true
has_chars_line (Signed (Got q chars)) = true
has_chars_line _ = false

-- the lines without those with characters
abbrev pub without_chars : List TraceLine → List TraceLine
without_chars [] = []
without_chars (line ∷ lines) =
    if has_chars_line line then without_chars lines else line ∷ without_chars lines

-- the lines that are told: if it is to be quiet, those with characters are left out
abbrev pub lines_told : Bool → List TraceLine → List TraceLine
lines_told true lines = without_chars lines
lines_told false lines = lines

-- ---- one event

-- what is told of an event of the line of this number, which has this block
abbrev pub block_told : Bool → Taken → ℕ → Line → List TraceLine → List ℕ
block_told quiet taken number event block =
    trace_text taken.known.names (lines_told quiet (Begun event ∷ block))
    ++ undetected_at_text taken.known.names number
    (seen_so_far (taken_with taken number event block)).undetected

-- the text is a front of what is told of the event, or nothing
abbrev pub IsBlockFront : Bool → Taken → ℕ → Line → List ℕ → Type 0
IsBlockFront quiet taken number event text = (text ≡ [])
    ⊎ ((block : List TraceLine) × (rest : List ℕ) × IsBlock (seen_so_far taken) event block
    × (block_told quiet taken number event block ≡ text ++ rest))

-- ---- events, one after another

-- What is told of events of the line of this number, and what was taken behind them. Behind an
-- event that was acted on and not sent none is carried out.
abbrev pub TellsEvents : Bool → Taken → ℕ → List Line → List ℕ → Taken → Type 0
TellsEvents quiet taken number [] text end = (text ≡ []) × (end ≡ taken)
TellsEvents quiet taken number (event ∷ events) text end =
    (MetUnsent taken × (text ≡ []) × (end ≡ taken))
    ⊎ ((block : List TraceLine) × (rest : List ℕ)
    × IsSent taken × IsBlock (seen_so_far taken) event block
    × TellsEvents quiet (taken_with taken number event block) number events rest end
    × (text ≡ block_told quiet taken number event block ++ rest))

-- The text is what is told of the first of these events, and a front of what is told of the next.
abbrev pub IsEventsFront : Bool → Taken → ℕ → List Line → List ℕ → Type 0
IsEventsFront quiet taken number [] text = text ≡ []
IsEventsFront quiet taken number (event ∷ events) text =
    IsBlockFront quiet taken number event text
    ⊎ ((block : List TraceLine) × (rest : List ℕ)
    × IsSent taken × IsBlock (seen_so_far taken) event block
    × IsEventsFront quiet (taken_with taken number event block) number events rest
    × (text ≡ block_told quiet taken number event block ++ rest))

-- ---- other lines

-- the outcome is that of a line that is no event
abbrev pub IsNoEvent : Outcome → Type 0
IsNoEvent (Happened event block) = ⊥
IsNoEvent _ = Unit {0}

-- what is told of such a line, without the last line `ok`
abbrev pub plain_told : Outcome → List ℕ
plain_told (Refused reason why) = refusal_line reason why
plain_told _ = []
