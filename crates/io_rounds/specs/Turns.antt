-- What an endpoint does in its turn, between two states of a script.
use Rattle.std.specs.Prelude.{◌≡◌, ◌<◌, ◌≤◌, ℕ, true, Bool, List, ◌∷◌, length}
use Rattle.rio_chars.specs.Written.{Outgoing}
use Rattle.fabric_script.specs.declared.lines.Line.{Line}
use Rattle.fabric_script.specs.declared.lines.Line.TheVariants.{Collect}
use Rattle.fabric_script.specs.declared.lines.Numbered.{Numbered}
use Rattle.fabric_model.specs.Network.{IsEndpoint}
use Rattle.trace_lines.specs.Lines.{TraceLine}
use Rattle.fabric_trace.specs.Runs.{start}
use Rattle.fabric_ports.specs.declared.answers.Happened.{Happened}
use Rattle.io_script.specs.declared.lines.IoLine.{IoLine}
use Rattle.io_rounds.specs.declared.course.Course.{Course}
use Rattle.io_rounds.specs.declared.stations.Station.{Station}
use Rattle.io_rounds.specs.Tasks.{IoTask, Fetch}
use Rattle.io_rounds.specs.Going.{IoState, IoComes}
use Rattle.io_rounds.specs.Course.{CourseHolds, CanSend, EventActed, IoAt, held_behind, tasks_on}
use Rattle.io_rounds.specs.Drives.{MayCarry}

-- so much holds, for some script and trace
pub record Underway (names : List (List ℕ)) (course : Course) : Type 0 where
  pub script : List Numbered
  pub events : List Numbered
  pub trace : List TraceLine
  pub stations : List Station
  pub holds : CourseHolds names script events trace stations course

-- and this node is an endpoint
pub record MayTurn (names : List (List ℕ)) (course : Course) (node : ℕ) : Type 0 where
  pub way : Underway names course
  pub named : node < length names
  pub endpoint : IsEndpoint (start way.script).network node

-- and this packet may be sent
pub record MaySend (names : List (List ℕ)) (course : Course) (line : Line) : Type 0 where
  pub way : Underway names course
  pub can : CanSend names (start way.script).network line

-- and this line may be carried out
pub record MayBegin (names : List (List ℕ)) (course : Course) (line : IoLine) : Type 0 where
  pub way : Underway names course
  pub may : MayCarry names (start way.script).network line

-- Some tasks were done in which nothing was written, and these are left. The node holds no more
-- than before.
pub record TaskSent (names : List (List ℕ)) (script : List Numbered) (s : IoState) (node : ℕ)
    (tasks : List IoTask) (course : Course) : Type 0 where
  pub state : IoState
  pub comes : IoComes names script s state
  pub left : state.tasks ≡ tasks
  pub output : state.output ≡ s.output
  pub holds : CourseHolds names script state.events state.trace state.stations course
  pub held : held_behind script state.trace node ≤ held_behind script s.trace node

-- A node that was to collect did, with this answer, from a state that was reached.
pub record HasTaken (begun out : Outgoing) (names : List (List ℕ)) (script : List Numbered)
    (first s : IoState) (node : ℕ) (rest : List IoTask) (what : Happened) (course : Course) :
    Type 0 where
  pub before : Course
  pub at : IoAt begun out names script first s before
  pub next : s.tasks ≡ Fetch node ∷ rest
  pub acted : EventActed names script s.events s.trace s.stations (Collect node) what course

-- The node collects on, and holds fewer packets than so many; or its turn is over.
pub record CollectsOn (begun out : Outgoing) (names : List (List ℕ)) (script : List Numbered)
    (first : IoState) (node : ℕ) (more : Bool) (rest : List IoTask) (before : ℕ) (course : Course) :
    Type 0 where
  pub state : IoState
  pub at : IoAt begun out names script first state course
  pub left : state.tasks ≡ tasks_on node more rest
  pub fewer : more ≡ true → held_behind script state.trace node < before
