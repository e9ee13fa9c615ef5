-- How far a script of reads and writes has come.
use Rattle.std.specs.Prelude.{◌≡◌, ℕ, true, false, Bool, List, [], ◌∷◌, ◌++◌, All, length, map, IfSome}
use Rattle.rio_chars.specs.Written.{Outgoing, Writes}
use Rattle.fabric_script.specs.Lines.{is_event}
use Rattle.fabric_script.specs.Scripts.{ScriptPasses}
use Rattle.fabric_script.specs.declared.lines.Line.{Line}
use Rattle.fabric_script.specs.declared.lines.Line.TheVariants.{Endpoint, Switch, Send, Run, Collect}
use Rattle.fabric_script.specs.declared.lines.Numbered.{Numbered}
use Rattle.maint_registers.specs.Devices.{is_switch}
use Rattle.fabric_model.specs.Network.{Network, held, port_of}
use Rattle.fabric_trace.specs.Blocks.{IsBlock}
use Rattle.fabric_trace.specs.Events.{MayHappen}
use Rattle.fabric_trace.specs.Fold.{seen}
use Rattle.trace_lines.specs.Lines.{TraceLine, Begun}
use Rattle.fabric_trace.specs.Runs.{start, BlocksFrom}
use Rattle.fabric_ports.specs.Events.{happened}
use Rattle.fabric_ports.specs.Standing.{Stands}
use Rattle.fabric_ports.specs.declared.answers.Happened.{Happened}
use Rattle.io_rounds.specs.declared.course.Course.{Course}
use Rattle.io_rounds.specs.declared.stations.Station.{Station}
use Rattle.io_rounds.specs.Calm.{LinksAreCalm}
use Rattle.io_rounds.specs.Tasks.{IoTask, Turn, Fetch}
use Rattle.io_rounds.specs.Going.{IoState, IoComes}

-- a packet is sent or collected, or the links settle and the switches step
abbrev pub IsIoEvent : Line → Type 0
IsIoEvent (Send node prio ftype dest hex) = Unit {0}
IsIoEvent (Collect node) = Unit {0}
IsIoEvent (Run n) = Unit {0}
IsIoEvent _ = ⊥

-- a packet is sent
abbrev pub SendsPacket : Line → Type 0
SendsPacket (Send node prio ftype dest hex) = Unit {0}
SendsPacket _ = ⊥

-- a packet that may be sent
abbrev pub CanSend : List (List ℕ) → Network → Line → Type 0
CanSend names net line = SendsPacket line × MayHappen names net line

-- a reply that is kept may be sent
abbrev pub KeepsFit : List (List ℕ) → Network → Station → Type 0
KeepsFit names net station = IfSome station.kept (CanSend names net)

-- The fabric stands for the trace of these events behind the set-up lines of a script, and for each
-- node so much is kept.
pub record CourseHolds (names : List (List ℕ)) (script events : List Numbered)
    (trace : List TraceLine)
    (stations : List Station) (course : Course) : Type 0 where
  pub passes : ScriptPasses names script
  pub sets_up : All (λ line. is_event line.line ≡ false) script
  pub are_events : All (λ line. is_event line.line ≡ true) events
  pub stands : Stands (start script) trace course.fabric
  pub calm : LinksAreCalm (seen (start script) trace)
  pub blocks : BlocksFrom (start script) (script ++ events) trace
  pub same_stations : course.stations.items ≡ stations
  pub count : length stations ≡ length names
  pub kept : All (KeepsFit names (start script).network) stations
  pub switches : course.switches.items ≡ map is_switch (start script).network.registers

-- ---- one event

-- the event may follow what was done
pub record MayAct (names : List (List ℕ)) (course : Course) (line : Line) : Type 0 where
  pub script : List Numbered
  pub events : List Numbered
  pub trace : List TraceLine
  pub stations : List Station
  pub holds : CourseHolds names script events trace stations course
  pub kind : IsIoEvent line
  pub happens : MayHappen names (start script).network line

-- the event was carried out, with this answer
pub record EventActed (names : List (List ℕ)) (script events : List Numbered)
    (trace : List TraceLine)
    (stations : List Station) (line : Line) (what : Happened) (course : Course) : Type 0 where
  pub block : List TraceLine
  pub is : IsBlock (seen (start script) trace) line block
  pub answered : what ≡ happened line block
  pub holds : CourseHolds names script (events ++ record { number = 0; line = line } ∷ [])
      (trace ++ Begun line ∷ block) stations course

-- ---- many

-- A state was reached from the first one, what it writes was told, and so much holds.
pub record IoAt (begun out : Outgoing) (names : List (List ℕ)) (script : List Numbered)
    (first s : IoState) (course : Course) : Type 0 where
  pub came : IoComes names script first s
  pub told : Writes begun out s.output
  pub holds : CourseHolds names script s.events s.trace s.stations course

-- So was one in which these tasks are left.
pub record IoArrived (begun out : Outgoing) (names : List (List ℕ)) (script : List Numbered)
    (first : IoState) (tasks : List IoTask) (course : Course) : Type 0 where
  pub state : IoState
  pub at : IoAt begun out names script first state course
  pub left : state.tasks ≡ tasks

-- A state was reached, and what it writes was told.
pub record IoStopped (begun out : Outgoing) (names : List (List ℕ)) (script : List Numbered)
    (first : IoState) : Type 0 where
  pub state : IoState
  pub came : IoComes names script first state
  pub told : Writes begun out state.output

-- A call does these tasks, whatever state was reached in which they come first; or it stops among
-- them.
abbrev pub IoDoes : List (List ℕ) → List Numbered → Outgoing → Course → List IoTask → Outgoing
    → Course → Type 0
IoDoes names script old before tasks new after =
    (begun : Outgoing) (first s : IoState) (rest : List IoTask)
    → IoAt begun old names script first s before → s.tasks ≡ tasks ++ rest
    → IoArrived begun new names script first rest after

abbrev pub IoStops : List (List ℕ) → List Numbered → Outgoing → Course → List IoTask → Outgoing
    → Type 0
IoStops names script old before tasks new =
    (begun : Outgoing) (first s : IoState) (rest : List IoTask)
    → IoAt begun old names script first s before → s.tasks ≡ tasks ++ rest
    → IoStopped begun new names script first

-- how many packets a node has received and still holds, behind a trace
abbrev pub held_behind : List Numbered → List TraceLine → ℕ → ℕ
held_behind script trace node = held (seen (start script) trace).network (port_of node)

-- The node collects on, or its turn is over.
abbrev pub tasks_on : ℕ → Bool → List IoTask → List IoTask
tasks_on node true rest = Fetch node ∷ rest
tasks_on node false rest = rest

-- the turn of a node, if it is no switch
abbrev pub node_turn : Bool → ℕ → List IoTask
node_turn true node = []
node_turn false node = Turn node ∷ []

-- whether each node is a switch that a line makes
abbrev pub kinds_of : Line → List Bool
kinds_of (Endpoint name id) = false ∷ []
kinds_of (Switch name ports) = true ∷ []
kinds_of _ = []
