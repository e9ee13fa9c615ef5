-- What a run of a script of reads and writes tells, line by line, and the memory that this leaves.
use Rattle.std.specs.Prelude.{ℕ, eqb, List, [], ◌∷◌, ◌++◌, replicate, Option, Some, None, codes, if◌then◌else◌}
use Rattle.fabric_script.specs.Names.{name_of}
use Rattle.fabric_script.specs.declared.lines.Numbered.{Numbered}
use Rattle.fabric_ports.specs.Events.{happened}
use Rattle.fabric_ports.specs.declared.answers.Happened.{Happened}
use Rattle.fabric_ports.specs.declared.answers.Happened.TheVariants as Answers
use Rattle.io_memory.specs.declared.meeting.Met.{Met}
use Rattle.io_memory.specs.Meeting.{memory_held}
use Rattle.io_memory.specs.MetLines.{met_text}
use Rattle.io_script.specs.declared.lines.IoLine.{IoLine}
use Rattle.io_script.specs.declared.lines.IoLine.TheVariants.{Memory}
use Rattle.io_script.specs.IoLines.{io_line_text}
use Rattle.io_rounds.specs.RoundLines.{asked_text}
use Rattle.io_rounds.specs.Stations.{met_at_node}
use Rattle.io_rounds.specs.Tasks.{IoTask, Ask, Fetch}
use Rattle.io_rounds.specs.Going.{IoState, IoGoes, IoBegins, IoTurns, IoActs, IoEnds, IoComes, Here, Further}

-- A line of the script was begun. A node asked, with this transaction number or none. There was no
-- room for a request. This became of a packet that came to a node. All is over.
pub data IoTold : Type 0 where
  ToldBegun : IoLine → IoTold
  ToldAsked : ℕ → Option ℕ → IoTold
  ToldFull : IoTold
  ToldCame : ℕ → Met → IoTold
  ToldOver : IoTold

-- ---- what a run tells

-- behind the event of a task, by what it answered
abbrev pub told_behind : IoState → IoTask → Happened → Option IoTold
told_behind s (Ask node tid line) Answers.Took = Some (ToldAsked node tid)
told_behind s (Ask node tid line) _ = Some ToldFull
told_behind s (Fetch node) (Answers.Left packet) =
    Some (ToldCame node (met_at_node s.stations node packet))
told_behind s _ _ = None

-- in one task
abbrev pub told_by : {names : List (List ℕ)} {script : List Numbered} {s t : IoState}
    → IoGoes names script s t → Option IoTold
told_by (IoBegins line rest is to) = Some (ToldBegun line)
told_by (IoTurns node rest is to) = None
told_by {names} {script} {s} (IoActs task rest line block is event block_is sent to) =
    told_behind s task (happened line block)
told_by (IoEnds rest is to) = Some ToldOver

-- one line more, if there is one
abbrev pub and_told : List IoTold → Option IoTold → List IoTold
and_told lines None = lines
and_told lines (Some line) = lines ++ line ∷ []

-- in all tasks, in order
abbrev pub io_told : {names : List (List ℕ)} {script : List Numbered} {first s : IoState}
    → IoComes names script first s → List IoTold
io_told (Here is) = []
io_told (Further before comes goes) = and_told (io_told comes) (told_by goes)

-- ---- its text

abbrev pub told_text : List (List ℕ) → IoTold → List ℕ
told_text names (ToldBegun line) = codes "> " ++ (io_line_text names line ++ codes "\n")
told_text names (ToldAsked node tid) = asked_text (name_of names node) tid ++ codes "\n"
told_text names ToldFull = codes "full" ++ codes "\n"
told_text names (ToldCame node met) = met_text (name_of names node) met ++ codes "\n"
told_text names ToldOver = codes "end" ++ codes "\n"

abbrev pub text_told : List (List ℕ) → List IoTold → List ℕ
text_told names [] = []
text_told names (line ∷ lines) = told_text names line ++ text_told names lines

-- ---- the memory that it leaves

-- a packet leaves a memory in which what it wrote stands
abbrev pub memory_behind : Option (List ℕ) → Met → Option (List ℕ)
memory_behind None met = None
memory_behind (Some memory) met = Some (memory_held memory (met ∷ []))

-- A `memory` line of the node gives it a new memory, of zeros. A packet that came to it has left
-- what it wrote. Nothing else changes its memory.
abbrev pub memory_by : ℕ → Option (List ℕ) → IoTold → Option (List ℕ)
memory_by node memory (ToldBegun (Memory at bytes)) =
    if eqb at node then Some (replicate bytes 0) else memory
memory_by node memory (ToldCame at met) = if eqb at node then memory_behind memory met else memory
memory_by node memory _ = memory

abbrev pub memory_on : ℕ → Option (List ℕ) → List IoTold → Option (List ℕ)
memory_on node memory [] = memory
memory_on node memory (line ∷ lines) = memory_on node (memory_by node memory line) lines

-- the memory that these lines leave at a node, which has none at first
abbrev pub memory_left : ℕ → List IoTold → Option (List ℕ)
memory_left node lines = memory_on node None lines
