-- States of a script, one after another.
use Rattle.std.proofs.Common.{◌≡◌, ◌<◌, ℕ, List, [], ◌∷◌, ◌++◌, All, length, Option, Some, None, IfSome, Result, Ok, Err, IfOk, OnOk, OnErr, codes, refl, sym, ap, ◌∙◌, subst, arith}
use Rattle.std.proofs.lemmas.List.Elements.{All-set}
use Rattle.std.proofs.lemmas.List.{length-set}
use Rattle.rio_chars.specs.Written.{Outgoing, Writes}
use Rattle.rio_chars.proofs.WrittenLaws.{Writes-then}
use Rattle.fabric_script.specs.declared.lines.Line.{Line}
use Rattle.fabric_script.specs.declared.lines.Numbered.{Numbered}
use Rattle.fabric_model.specs.Network.{Network}
use Rattle.trace_lines.specs.Lines.{TraceLine}
use Rattle.fabric_trace.specs.Runs.{start}
use Rattle.fabric_ports.specs.Standing.{Stands}
use Rattle.fabric_ports.specs.declared.answers.Happened.{Happened}
use Rattle.io_script.specs.declared.lines.IoLine.{IoLine}
use Rattle.io_script.specs.IoLines.{io_line_text}
use Rattle.io_rounds.specs.declared.course.Course.{Course}
use Rattle.io_rounds.specs.declared.stations.Station.{Station}
use Rattle.io_rounds.specs.Stations.{new_station, memory_of, stations_after, kept_of_node, with_kept, stations_met}
use Rattle.io_rounds.specs.Tasks.{IoTask, task_event, Carry, Finish, stations_by}
use Rattle.io_rounds.specs.Going.{IoState, left_to_do, with_event, telling, begun_line, behind_event, endpoints_of, IoGoes, IoBegins, IoActs, IoEnds, IoComes, Here, Further}
use Rattle.io_rounds.specs.Course.{KeepsFit, CanSend, CourseHolds, EventActed, IoAt, IoArrived, IoStopped}
use Rattle.io_rounds.specs.Turns.{TaskSent}

-- ---- what is kept

-- what holds where other things are kept of the nodes
pub holds_with : {names : List (List ℕ)} {script events : List Numbered} {trace : List TraceLine}
    {stations : List Station} {old : Course} (more : List Station) (new : Course)
    → CourseHolds names script events trace stations old → new.fabric ≡ old.fabric
    → new.stations.items ≡ more → new.switches ≡ old.switches → length more ≡ length stations
    → All (KeepsFit names (start script).network) more
    → CourseHolds names script events trace more new
holds_with {names} {script} {events} {trace} more new h fabric stations switches count
    kept = record {
      passes = h.passes;
      sets_up = h.sets_up;
      are_events = h.are_events;
      stands = subst (λ f. Stands (start script) trace f) (sym fabric) h.stands;
      calm = h.calm;
      blocks = h.blocks;
      same_stations = stations;
      count = count ∙ h.count;
      kept = kept;
      switches = ap (λ v. v.items) switches ∙ h.switches;
    }

-- what is kept of the nodes after a packet: as many, and the same replies
pub met_length : (stations : List Station) (node : ℕ) (packet : List ℕ)
    → length (stations_met stations node packet) ≡ length stations
met_length stations node packet = by_memory (memory_of stations node)
  where
    by_memory : (memory : Option (List ℕ))
        → length (stations_after stations node packet memory) ≡ length stations
    by_memory None = refl
    by_memory (Some memory) = length-set stations node _

pub met_keeps : (names : List (List ℕ)) (net : Network) (stations : List Station) (node : ℕ)
    (packet : List ℕ) → node < length stations → All (KeepsFit names net) stations
    → All (KeepsFit names net) (stations_met stations node packet)
met_keeps names net stations node packet within all = by_memory (memory_of stations node)
  where
    by_memory : (memory : Option (List ℕ))
        → All (KeepsFit names net) (stations_after stations node packet memory)
    by_memory None = all
    by_memory (Some memory) = All-set (KeepsFit names net) stations node _
        (all node new_station within) all

-- a reply that may be sent is kept, and one is taken
pub keeps_one : (names : List (List ℕ)) (net : Network) (stations : List Station) (node : ℕ)
    (line : Line) → CanSend names net line → All (KeepsFit names net) stations
    → All (KeepsFit names net) (with_kept stations node (Some line))
keeps_one names net stations node line can all =
    All-set (KeepsFit names net) stations node _ can all

pub keeps_none : (names : List (List ℕ)) (net : Network) (stations : List Station) (node : ℕ)
    → All (KeepsFit names net) stations → All (KeepsFit names net) (with_kept stations node None)
keeps_none names net stations node all = All-set (KeepsFit names net) stations node _ tt all

pub kept_fits : (names : List (List ℕ)) (net : Network) (stations : List Station) (node : ℕ)
    (line : Line) → node < length stations → All (KeepsFit names net) stations
    → kept_of_node stations node ≡ Some line → CanSend names net line
kept_fits names net stations node line within all is =
    subst (λ o. IfSome o (CanSend names net)) is (all node new_station within)

-- ---- from state to state

pub comes_on : {names : List (List ℕ)} {script : List Numbered} {s t u : IoState}
    → IoComes names script s t → IoComes names script t u → IoComes names script s u
comes_on {names} {script} {s} first (Here is) = subst (λ x. IoComes names script s x) (sym is) first
comes_on first (Further before more goes) = Further before (comes_on first more) goes

module _ {begun : Outgoing} {names : List (List ℕ)} {script : List Numbered}
    {first : IoState} where
  -- one task more, in which this was told
  pub at_then : {old new : Outgoing} {s : IoState} {course : Course} (t : IoState) (more : List ℕ)
      (next : Course) → IoAt begun old names script first s course
      → IoGoes names script s t → Writes old new more
      → t.output ≡ s.output ++ more → CourseHolds names script t.events t.trace t.stations next
      → IoAt begun new names script first t next
  at_then {old} {new} {s} t more next at goes told is holds = record {
    came = Further s at.came goes;
    told = subst (Writes begun new) (sym is) (Writes-then s.output more at.told told);
    holds = holds;
  }

  -- one in which nothing was told
  pub at_silent : {out : Outgoing} {s : IoState} {course : Course} (t : IoState) (next : Course)
      → IoAt begun out names script first s course → IoGoes names script s t
      → t.output ≡ s.output → CourseHolds names script t.events t.trace t.stations next
      → IoAt begun out names script first t next
  at_silent {out} {s} t next at goes is holds = record {
    came = Further s at.came goes;
    told = subst (Writes begun out) (sym is) at.told;
    holds = holds;
  }

  -- some, in which nothing was told
  pub at_sent : {out : Outgoing} {s : IoState} {course next : Course} {node : ℕ}
      {tasks : List IoTask} → IoAt begun out names script first s course
      → (sent : TaskSent names script s node tasks next)
      → IoAt begun out names script first sent.state next
  at_sent {out} at sent = record {
    came = comes_on at.came sent.comes;
    told = subst (Writes begun out) (sym sent.output) at.told;
    holds = sent.holds;
  }

  pub stopped : {out : Outgoing} {s : IoState} {course : Course}
      → IoAt begun out names script first s course → IoStopped begun out names script first
  stopped {out} {s} at = record { state = s; came = at.came; told = at.told }

  -- a line is begun
  pub begins_line : {old new : Outgoing} {s : IoState} {course : Course} (line : IoLine)
      (rest : List IoTask) (next : Course)
      → IoAt begun old names script first s course → s.tasks ≡ Carry line ∷ rest
      → Writes old new (codes "> " ++ (io_line_text names line ++ codes "\n"))
      → CourseHolds names script s.events s.trace (stations_by line s.stations) next
      → IoAt begun new names script first
      (begun_line names (endpoints_of script) line (left_to_do s rest)) next
  begins_line {old} {new} {s} line rest next at is told holds =
      at_then (begun_line names (endpoints_of script) line (left_to_do s rest))
      (codes "> " ++ (io_line_text names line ++ codes "\n")) next at (IoBegins line rest is refl)
      told
      refl holds

  -- the last line is written
  pub finishes : {old new : Outgoing} {s : IoState} {course : Course}
      → IoAt begun old names script first s course → s.tasks ≡ Finish ∷ []
      → Writes old new (codes "end" ++ codes "\n")
      → IoArrived begun new names script first [] course
  finishes {old} {new} {s} {course} at is told = record {
    state = telling (left_to_do s []) (codes "end");
    at = at_then (telling (left_to_do s []) (codes "end")) (codes "end" ++ codes "\n") course at
        (IoEnds [] is refl) told refl at.holds;
    left = refl;
  }

-- ---- an event

-- the state behind the event of a task that had this answer
pub goes_by : {names : List (List ℕ)} {script : List Numbered} {s : IoState} {course : Course}
    (task : IoTask) (rest : List IoTask) (line : Line) (what : Happened)
    → s.tasks ≡ task ∷ rest → task_event task ≡ Some line
    → (acted : EventActed names script s.events s.trace s.stations line what course)
    → IoGoes names script s
    (behind_event names task what (with_event (left_to_do s rest) line acted.block))
goes_by {names} {script} {s} task rest line what is event acted =
    IoActs task rest line acted.block is event acted.is acted.holds.stands.sent
    (ap (λ w. behind_event names task w (with_event (left_to_do s rest) line acted.block))
    acted.answered)

-- ---- answers

-- what is said of an answer, by what is said of it
pub on_if : {T E : Type 0} {P Q : T → Type 0} (r : Result T E) → ((x : T) → P x → Q x) → IfOk r P
    → IfOk r Q
on_if (Ok x) f p = f x p
on_if (Err e) f p = tt

pub on_then : {T E : Type 0} {P Q : Type 0} (r : Result T E) → (P → Q) → OnOk r P → OnOk r Q
on_then (Ok x) f p = f p
on_then (Err e) f p = tt

pub on_else : {T E : Type 0} {P Q : Type 0} (r : Result T E) → (P → Q) → OnErr r P → OnErr r Q
on_else (Ok x) f p = tt
on_else (Err e) f p = f p

pub always_else : {T E : Type 0} {P : Type 0} (r : Result T E) → P → OnErr r P
always_else (Ok x) p = tt
always_else (Err e) p = p

-- a node that has a name has something kept
pub within_stations : {names : List (List ℕ)} {script events : List Numbered}
    {trace : List TraceLine} {stations : List Station} {course : Course} (node : ℕ)
    → CourseHolds names script events trace stations course → node < length names
    → node < length course.stations.items
within_stations node h named =
    let same = ap length h.same_stations in
    let count = h.count in
    omega (arith, same, count, named)
