-- What a trace of a script is.
use Rattle.std.specs.Prelude.{◌≡◌, ℕ, List, [], ◌∷◌, ◌++◌, None, MatchBool}
use Rattle.fabric_script.specs.Lines.{is_event}
use Rattle.fabric_script.specs.declared.lines.Line.{Line}
use Rattle.fabric_script.specs.declared.lines.Numbered.{Numbered}
use Rattle.fabric_model.specs.Network.{Network}
pub use Rattle.fabric_model.specs.Network.{bare}
pub use Rattle.fabric_trace.specs.Settings.{set_up, set_up_all}
pub use Rattle.fabric_trace.specs.Rounds.{Follows, NamesNothing}
use Rattle.trace_lines.specs.Lines.{TraceLine, Begun, Ended, Undetected}
use Rattle.fabric_trace.specs.Views.{new_half}
use Rattle.fabric_trace.specs.Known.{UndetectedAt, Seen, new_wire}
use Rattle.fabric_trace.specs.Fold.{seen}
use Rattle.fabric_trace.specs.Blocks.{IsBlock}

-- ---- before the first event

-- nothing was sent in this network
abbrev pub begins : Network → Seen
begins net = record {
  network = net;
  wires = λ p. new_wire;
  halves = λ p. new_half;
  undetected = None;
}

-- what is known before the first event of a script
abbrev pub start : List Numbered → Seen
start script = begins (set_up_all bare script)

-- ---- one event after another

-- what is said of the lines of an event, by what is known before it
abbrev pub OfEvent : Type 1
OfEvent = Seen → Line → List TraceLine → Type 0

-- the line that an event begins with, lines of which this is said, and what comes behind
abbrev pub EventThen : OfEvent → (Seen → List TraceLine → Type 0)
    → (UndetectedAt → List TraceLine → Type 0) → Seen → Line → List TraceLine → Type 0
EventThen Block More Last s line lines = (block : List TraceLine) × (rest : List TraceLine)
    × (lines ≡ (Begun line ∷ block) ++ rest) × Block s line block
    × Follows (seen s (Begun line ∷ block)).undetected (More (seen s (Begun line ∷ block))) Last
    rest

-- the same of its block
abbrev pub BlockThen : (Seen → List TraceLine → Type 0) → (UndetectedAt → List TraceLine → Type 0)
    → Seen
    → Line → List TraceLine → Type 0
BlockThen More Last s line lines = EventThen IsBlock More Last s line lines

-- the line that names an event that was not sent is the last
abbrev pub Names : ℕ → UndetectedAt → List TraceLine → Type 0
Names number found lines = lines ≡ Undetected number found.port found.event ∷ []

-- For each event in turn, the line that it begins with and lines of which this is said; then the
-- last line.
abbrev pub RunsBy : OfEvent → Seen → List Numbered → List TraceLine → Type 0
RunsBy Block s [] lines = lines ≡ Ended ∷ []
RunsBy Block s (line ∷ script) lines = MatchBool (is_event line.line)
    (EventThen Block (λ t rest. RunsBy Block t script rest) (Names line.number) s line.line lines)
    (RunsBy Block s script lines)

-- the same with its block
abbrev pub RunsFrom : Seen → List Numbered → List TraceLine → Type 0
RunsFrom s script lines = RunsBy IsBlock s script lines

-- the lines are a trace of the script
abbrev pub Runs : List Numbered → List TraceLine → Type 0
Runs script lines = RunsFrom (start script) script lines

-- ---- fronts

-- The same with no last line: what a trace begins with.
abbrev pub BlocksBy : OfEvent → Seen → List Numbered → List TraceLine → Type 0
BlocksBy Block s [] lines = lines ≡ []
BlocksBy Block s (line ∷ script) lines = MatchBool (is_event line.line)
    (EventThen Block (λ t rest. BlocksBy Block t script rest) NamesNothing s line.line lines)
    (BlocksBy Block s script lines)

abbrev pub BlocksFrom : Seen → List Numbered → List TraceLine → Type 0
BlocksFrom s script lines = BlocksBy IsBlock s script lines

-- the lines are those of the first events of the script
pub record BeginsBy (Block : OfEvent) (script : List Numbered) (lines : List TraceLine) : Type 0
  where
    pub done : List Numbered
    pub rest : List Numbered
    pub whole : script ≡ done ++ rest
    pub blocks : BlocksBy Block (start script) done lines

-- the lines are the blocks of the first events of the script
abbrev pub Begins : List Numbered → List TraceLine → Type 0
Begins script lines = BeginsBy IsBlock script lines
