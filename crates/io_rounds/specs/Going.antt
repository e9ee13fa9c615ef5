-- How a script of reads and writes goes on: what each task does to the trace, to what is kept of
-- the endpoints, to what is written, and to what has to be done then.
use Rattle.std.specs.Prelude.{◌≡◌, ℕ, List, [], ◌∷◌, ◌++◌, Option, Some, None, codes}
use Rattle.fabric_script.specs.Names.{name_of}
use Rattle.fabric_script.specs.declared.lines.Line.{Line}
use Rattle.fabric_script.specs.declared.lines.Numbered.{Numbered}
use Rattle.fabric_trace.specs.Blocks.{IsBlock}
use Rattle.fabric_trace.specs.Fold.{seen}
use Rattle.trace_lines.specs.Lines.{TraceLine, Begun}
use Rattle.fabric_trace.specs.Runs.{start}
use Rattle.fabric_ports.specs.Events.{happened}
use Rattle.fabric_ports.specs.declared.answers.Happened.{Happened}
use Rattle.fabric_ports.specs.declared.answers.Happened.TheVariants as Answers
use Rattle.io_memory.specs.MetLines.{met_text}
use Rattle.io_script.specs.declared.lines.IoLine.{IoLine}
use Rattle.io_script.specs.IoLines.{io_line_text}
use Rattle.io_rounds.specs.declared.stations.Station.{Station}
use Rattle.io_rounds.specs.RoundLines.{asked_text}
use Rattle.io_rounds.specs.Stations.{kept_of_node, with_kept, counted_on, met_at_node, answer_at_node, stations_met}
use Rattle.io_rounds.specs.Tasks.{IoTask, Carry, Ask, Turn, Reply, Fetch, Finish, endpoints_from, tasks_of, stations_by, task_event, task_behind}

-- The events so far, as lines of a script, and the trace of them; what is written; what is kept of
-- the endpoints; and what has to be done, in order.
pub record IoState : Type 0 where
  pub events : List Numbered
  pub trace : List TraceLine
  pub output : List ℕ
  pub stations : List Station
  pub tasks : List IoTask

-- a line more is written
abbrev pub telling : IoState → List ℕ → IoState
telling s text = record s { output = s.output ++ (text ++ codes "\n") }

-- this is to be done next
abbrev pub doing : IoState → IoTask → IoState
doing s task = record s { tasks = task ∷ s.tasks }

-- the task was the first, and is done
abbrev pub left_to_do : IoState → List IoTask → IoState
left_to_do s rest = record s { tasks = rest }

-- An event was carried out, with its block. No line of the trace speaks of the number of an event.
abbrev pub with_event : IoState → Line → List TraceLine → IoState
with_event s line block = record s {
  events = s.events ++ record { number = 0; line = line } ∷ [];
  trace = s.trace ++ Begun line ∷ block;
}

-- ---- a line, and a turn

abbrev pub begun_line : List (List ℕ) → List ℕ → IoLine → IoState → IoState
begun_line names endpoints line s = record s {
  output = s.output ++ (codes "> " ++ (io_line_text names line ++ codes "\n"));
  stations = stations_by line s.stations;
  tasks = tasks_of endpoints s.stations line ++ s.tasks;
}

-- An endpoint first sends the reply that it keeps, if it keeps one, and then collects.
abbrev pub first_of_turn : ℕ → Option Line → IoTask
first_of_turn node None = Fetch node
first_of_turn node (Some line) = Reply node line

abbrev pub turned_to : ℕ → Option Line → IoState → IoState
turned_to node kept s = record s {
  stations = with_kept s.stations node None;
  tasks = first_of_turn node kept ∷ s.tasks;
}

-- ---- behind an event, by what it answered

abbrev pub behind_ask : List (List ℕ) → ℕ → Option ℕ → Happened → IoState → IoState
behind_ask names node tid Answers.Took s = telling (record s {
  stations = counted_on s.stations node tid;
}) (asked_text (name_of names node) tid)
behind_ask names node tid _ s = telling s (codes "full")

-- A reply without room is kept, and the turn is over.
abbrev pub behind_reply : ℕ → Line → Happened → IoState → IoState
behind_reply node line Answers.Took s = doing s (Fetch node)
behind_reply node line _ s = record s { stations = with_kept s.stations node (Some line) }

-- A packet left at an endpoint: the line says what became of it, and then the reply is sent, if
-- there is one.
abbrev pub served_at : List (List ℕ) → ℕ → List ℕ → IoState → IoState
served_at names node packet s = telling (record s {
  stations = stations_met s.stations node packet;
  tasks = task_behind node packet (answer_at_node s.stations node packet) ∷ s.tasks;
}) (met_text (name_of names node) (met_at_node s.stations node packet))

-- An endpoint collects until nothing is held, or a response of its registers has no room. What its
-- registers answer has no line.
abbrev pub behind_take : List (List ℕ) → ℕ → Happened → IoState → IoState
behind_take names node (Answers.Left packet) s = served_at names node packet s
behind_take names node Answers.Answered s = doing s (Fetch node)
behind_take names node _ s = s

abbrev pub behind_event : List (List ℕ) → IoTask → Happened → IoState → IoState
behind_event names (Ask node tid line) what s = behind_ask names node tid what s
behind_event names (Reply node line) what s = behind_reply node line what s
behind_event names (Fetch node) what s = behind_take names node what s
behind_event names _ what s = s

-- ---- the rules

-- the endpoints of a script, in the order of their lines
abbrev pub endpoints_of : List Numbered → List ℕ
endpoints_of script = endpoints_from 0 (start script).network.registers

-- One task is done. An event has a block that follows the trace, and every event of a link that was
-- acted on in it was sent.
pub data IoGoes (names : List (List ℕ)) (script : List Numbered) (s t : IoState) : Type 0 where
  IoBegins : (line : IoLine) (rest : List IoTask) → s.tasks ≡ Carry line ∷ rest
      → t ≡ begun_line names (endpoints_of script) line (left_to_do s rest)
      → IoGoes names script s t
  IoTurns : (node : ℕ) (rest : List IoTask) → s.tasks ≡ Turn node ∷ rest
      → t ≡ turned_to node (kept_of_node s.stations node) (left_to_do s rest)
      → IoGoes names script s t
  IoActs : (task : IoTask) (rest : List IoTask) (line : Line) (block : List TraceLine)
      → s.tasks ≡ task ∷ rest → task_event task ≡ Some line
      → IsBlock (seen (start script) s.trace) line block
      → (seen (start script) (s.trace ++ Begun line ∷ block)).undetected ≡ None
      → t ≡ behind_event names task (happened line block)
      (with_event (left_to_do s rest) line block)
      → IoGoes names script s t
  IoEnds : (rest : List IoTask) → s.tasks ≡ Finish ∷ rest
      → t ≡ telling (left_to_do s rest) (codes "end") → IoGoes names script s t

-- from one state to another, by so many tasks
pub data IoComes (names : List (List ℕ)) (script : List Numbered) (first : IoState) :
    IoState → Type 0 where
  Here : {s : IoState} → s ≡ first → IoComes names script first s
  Further : {s : IoState} (before : IoState) → IoComes names script first before
      → IoGoes names script before s → IoComes names script first s
