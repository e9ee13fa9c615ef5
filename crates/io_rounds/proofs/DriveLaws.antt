-- A script of reads and writes, line by line, and what is written in the end.
use Rattle.std.proofs.Common.{◌≡◌, ◌≤◌, ◌+◌, ◌<◌, ℕ, true, false, List, [], ◌∷◌, ◌++◌, All, length, map, drop, replicate, get_or, Option, refl, sym, ap, ◌∙◌, subst, append-nil}
use Rattle.std.proofs.lemmas.List.{drop_more, drop_all}
use Rattle.std.proofs.lemmas.List.Elements.{All-head, All-tail}
use Rattle.std.specs.Io.KnownBytes.{Appends}
use Rattle.rio_chars.specs.Written.{Outgoing, Writes}
use Rattle.rio_chars.proofs.WrittenLaws.{Writes-nil, Writes-then, Writes-whole, Writes-front}
use Rattle.fabric_script.specs.Lines.{is_event}
use Rattle.fabric_script.specs.declared.lines.Line.{Line}
use Rattle.fabric_script.specs.declared.lines.Line.TheVariants.{Endpoint, Switch, Link, Buffers, Route, Default, Lock, Large}
use Rattle.fabric_script.specs.declared.lines.Numbered.{Numbered}
use Rattle.fabric_model.specs.Network.{Network}
use Rattle.trace_lines.specs.Lines.{Ended}
use Rattle.fabric_trace.specs.Runs.{bare, set_up, set_up_all, begins, start, RunsFrom, Runs}
use Rattle.fabric_trace.specs.SetUps.{MaySetUp, MaySetUpAll}
use Rattle.fabric_trace.proofs.SetUps.Happening.{may_set_up}
use Rattle.fabric_trace.proofs.SetUps.SettingUp.{set_up-event}
use Rattle.fabric_trace.proofs.Shown.Shows.{runs_shown}
use Rattle.fabric_replay.proofs.Joining.{runs-append}
use Rattle.std.proofs.lemmas.Bool.{false≢true}
use Rattle.io_script.specs.declared.lines.NumberedIo.{NumberedIo}
use Rattle.io_rounds.specs.declared.course.Course.{Course}
use Rattle.io_rounds.specs.Stations.{new_station}
use Rattle.io_rounds.specs.Tasks.{IoTask, Carry, Finish}
use Rattle.io_rounds.specs.Going.{IoState, Here}
use Rattle.io_rounds.specs.Course.{CourseHolds, IoArrived, IoStopped}
use Rattle.io_rounds.specs.Drives.{first_state, Drives, DrivenWhole, DrivenFront, IsIoFit, MayCarry}
use Rattle.io_rounds.specs.Turns.{MayBegin}
use Rattle.io_rounds.proofs.BeginLaws.{underway}
use Rattle.io_rounds.proofs.OnlyLaws.{comes_front, comes_last, comes_end}

-- ---- line by line

-- what has to be done when the first lines were carried out
abbrev pub lines_from : List NumberedIo → ℕ → List IoTask
lines_from io i = map (λ (l : NumberedIo). Carry l.io) (drop i io) ++ Finish ∷ []

abbrev pub LinesDone : Outgoing → List (List ℕ) → List Numbered → List NumberedIo → ℕ → Outgoing
    → Course → Type 0
LinesDone begun names script io i out course =
    IoArrived begun out names script (first_state names io) (lines_from io i) course

module _ (begun : Outgoing) (names : List (List ℕ)) (script : List Numbered)
    (io : List NumberedIo) where
  pub lines_begin : (course : Course)
      → CourseHolds names script [] [] (replicate (length names) new_station) course
      → LinesDone begun names script io 0 begun course
  lines_begin course holds = record {
    state = first_state names io;
    at = record { came = Here refl; told = Writes-nil begun; holds = holds };
    left = refl;
  }

  -- the next line is to be carried out
  pub line_next : (i : ℕ) (item : NumberedIo) (out : Outgoing) (course : Course) → i < length io
      → item ≡ get_or io i item
      → (done : LinesDone begun names script io i out course)
      → done.state.tasks ≡ Carry item.io ∷ lines_from io (i + 1)
  line_next i item out course within is done =
      done.left
      ∙ ap (λ (l : List NumberedIo). map (λ (l : NumberedIo). Carry l.io) l ++ Finish ∷ [])
      (drop_more io i item within)
      ∙ ap (λ (x : NumberedIo). Carry x.io ∷ lines_from io (i + 1)) (sym is)

  pub line_may : (i : ℕ) (item : NumberedIo) (out : Outgoing) (course : Course) → i < length io
      → item ≡ get_or io i item → IsIoFit names script io
      → LinesDone begun names script io i out course
      → MayBegin names course item.io
  line_may i item out course within is fit done = record {
    way = underway done.at.holds;
    may = subst (λ (x : NumberedIo). MayCarry names (start script).network x.io) (sym is)
        (fit.may i item within);
  }

  -- all lines were carried out
  pub lines_end : (i : ℕ) (out : Outgoing) (course : Course) → length io ≤ i
      → (done : LinesDone begun names script io i out course)
      → done.state.tasks ≡ Finish ∷ []
  lines_end i out course whole done =
      done.left
      ∙ ap (λ (l : List NumberedIo). map (λ (l : NumberedIo). Carry l.io) l ++ Finish ∷ [])
      (drop_all i io whole)

-- ---- events set nothing up

events_set_nothing : (net : Network) (events : List Numbered)
    → All (λ line. is_event line.line ≡ true) events → set_up_all net events ≡ net
events_set_nothing net [] are = refl
events_set_nothing net (line ∷ events) are =
    let IsOne = λ (l : Numbered). is_event l.line ≡ true in
    ap (λ n. set_up_all n events) (set_up-event net line.line (All-head IsOne line events are))
    ∙ events_set_nothing net events (All-tail IsOne line events are)

set_up_front : (net : Network) (script events : List Numbered)
    → All (λ line. is_event line.line ≡ true) events
    → set_up_all net (script ++ events) ≡ set_up_all net script
set_up_front net [] events are = events_set_nothing net events are
set_up_front net (line ∷ script) events are = set_up_front (set_up net line.line) script events are

event_may : (net : Network) (line : Line) → is_event line ≡ true → MaySetUp net line
event_may net (Endpoint name id) event = absurd (false≢true event)
event_may net (Switch name ports) event = absurd (false≢true event)
event_may net (Link a b) event = absurd (false≢true event)
event_may net (Buffers port n) event = absurd (false≢true event)
event_may net (Route node id p) event = absurd (false≢true event)
event_may net (Default node p) event = absurd (false≢true event)
event_may net (Lock node id) event = absurd (false≢true event)
event_may net (Large node id) event = absurd (false≢true event)
event_may net _ event = tt

events_may : (net : Network) (events : List Numbered)
    → All (λ line. is_event line.line ≡ true) events → MaySetUpAll net events
events_may net [] are = tt
events_may net (line ∷ events) are =
    let IsOne = λ (l : Numbered). is_event l.line ≡ true in (
      event_may net line.line (All-head IsOne line events are),
      events_may (set_up net line.line) events (All-tail IsOne line events are),
    )

may_front : (net : Network) (script events : List Numbered)
    → All (λ line. is_event line.line ≡ true) events → MaySetUpAll net script
    → MaySetUpAll net (script ++ events)
may_front net [] events are may = events_may net events are
may_front net (line ∷ script) events are may =
    (may.0, may_front (set_up net line.line) script events are may.1)

-- ---- in the end

module _ {begun out : Outgoing} {names : List (List ℕ)} {script : List Numbered}
    {io : List NumberedIo} where
  drives : {course : Course}
      → (done : IoArrived begun out names script (first_state names io) [] course)
      → Drives names script io done.state.events (done.state.trace ++ Ended ∷ []) done.state.output
  drives {course} done =
      let s = done.state in
      let holds = done.at.holds in
      let all = script ++ s.events in
      let trace = s.trace ++ Ended ∷ [] in
      let same : start all ≡ start script =
      ap begins (set_up_front bare script s.events holds.are_events) in
      let runs : Runs all trace =
      subst (λ x. RunsFrom x all trace) (sym same)
      (subst (λ l. RunsFrom (start script) l trace) (append-nil all)
      (runs-append all [] (start script) s.trace (Ended ∷ []) holds.blocks holds.stands.sent refl))
      in
      record {
        end = s;
        comes = done.at.came;
        over = done.left;
        same_events = refl;
        same_trace = refl;
        same_output = refl;
        runs = runs;
        shown = runs_shown all trace
            (may_front bare script s.events holds.are_events (may_set_up names script holds.passes))
            runs;
      }

  pub driven_whole : {course : Course} → begun.waiting ≡ [] → out.failed ≡ false → out.waiting ≡ []
      → IoArrived begun out names script (first_state names io) [] course
      → DrivenWhole names script io begun.written out.written
  driven_whole {course} empty fine none done = record {
    events = done.state.events;
    trace = done.state.trace ++ Ended ∷ [];
    output = done.state.output;
    drives = drives done;
    told = Writes-whole begun out done.state.output empty done.at.told fine none;
    only = λ others lines text other. other.same_output
        ∙ ap (λ (x : IoState). x.output)
        (comes_end other.over done.left other.comes done.at.came);
  }

  pub driven_front : begun.waiting ≡ [] → IoStopped begun out names script (first_state names io)
      → DrivenFront names script io begun.written out.written
  driven_front empty stop = record {
    state = stop.state;
    comes = stop.came;
    told = Writes-front begun out stop.state.output empty stop.told;
    front = λ events trace output other.
        let front = comes_front (comes_last other.over stop.came other.comes) in
        (front.0, other.same_output ∙ front.1);
  }

module _ {begun out : Outgoing} {names : List (List ℕ)} {script : List Numbered} where
  -- nothing more was told
  pub flushed : {first : IoState} {tasks : List IoTask} {course : Course} {end : Outgoing}
      → IoArrived begun out names script first tasks course → Writes out end []
      → IoArrived begun end names script first tasks course
  flushed {first} {tasks} {course} {end} done more = record {
    state = done.state;
    at = record {
      came = done.at.came;
      told = subst (Writes begun end) (append-nil done.state.output)
          (Writes-then done.state.output [] done.at.told more);
      holds = done.at.holds;
    };
    left = done.left;
  }

  pub stop_flushed : {first : IoState} {end : Outgoing}
      → IoStopped begun out names script first → Writes out end []
      → IoStopped begun end names script first
  stop_flushed {first} {end} stop more = record {
    state = stop.state;
    came = stop.came;
    told = subst (Writes begun end) (append-nil stop.state.output)
        (Writes-then stop.state.output [] stop.told more);
  }

  pub arrived_stopped : {first : IoState} {tasks : List IoTask} {course : Course}
      → IoArrived begun out names script first tasks course
      → IoStopped begun out names script first
  arrived_stopped done = record { state = done.state; came = done.at.came; told = done.at.told }

-- nothing was told
pub driven_nothing : (names : List (List ℕ)) (script : List Numbered) (io : List NumberedIo)
    (written written_after : Option (List ℕ)) → Appends written written_after []
    → DrivenFront names script io written written_after
driven_nothing names script io written written_after told = record {
  state = first_state names io;
  comes = Here refl;
  told = record { front = []; rest = []; whole = refl; told = told };
  front = λ events trace output other. (output, refl);
}

-- the items of a list that was read
pub item_here : (io read : List NumberedIo) (i : ℕ) (item : NumberedIo) → read ≡ io
    → item ≡ get_or read i item → item ≡ get_or io i item
item_here io read i item same is = subst (λ xs. item ≡ get_or xs i item) same is

pub item_within : (io read : List NumberedIo) (i : ℕ) → read ≡ io → i < length read → i < length io
item_within io read i same within = subst (λ xs. i < length xs) same within
