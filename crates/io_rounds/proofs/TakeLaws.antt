-- Requests, and what an endpoint collects and serves.
use Rattle.std.proofs.Common.{◌≡◌, ◌≢◌, ◌<◌, ℕ, Bool, true, false, List, ◌∷◌, ◌++◌, All, length, Option, Some, None, codes, refl, sym, ap, ◌∙◌, subst, arith}
use Rattle.std.proofs.lemmas.List.Elements.{All-set}
use Rattle.std.proofs.lemmas.List.{length-set}
use Rattle.rio_chars.specs.Written.{Outgoing, Writes}
use Rattle.rio_chars.proofs.WrittenLaws.{Writes-then}
use Rattle.fabric_script.specs.Names.{name_of}
use Rattle.fabric_script.specs.declared.lines.Line.{Line}
use Rattle.fabric_script.specs.declared.lines.Line.TheVariants.{Collect, Run}
use Rattle.fabric_script.specs.declared.lines.Numbered.{Numbered}
use Rattle.fabric_model.specs.Network.{Network, IsEndpoint}
use Rattle.trace_lines.specs.Lines.{TraceLine}
use Rattle.fabric_trace.specs.Runs.{start}
use Rattle.fabric_ports.specs.declared.answers.Happened.{Happened}
use Rattle.fabric_ports.specs.declared.answers.Happened.TheVariants as Answers
use Rattle.fabric_ports.proofs.GatherLaws.{held_at}
use Rattle.io_packets.specs.declared.io.Io.{Io}
use Rattle.io_memory.specs.declared.meeting.Met.{Met}
use Rattle.io_memory.specs.MetLines.{met_text}
use Rattle.io_rounds.specs.declared.course.Course.{Course}
use Rattle.io_rounds.specs.declared.stations.Station.{Station}
use Rattle.io_rounds.specs.Stations.{new_station, counted_on, met_at_node, answer_at_node, stations_met}
use Rattle.io_rounds.specs.RoundLines.{asked_text}
use Rattle.io_rounds.specs.Tasks.{IoTask, reply_line, Ask, Settle, Reply, Fetch, task_behind}
use Rattle.io_rounds.specs.Going.{IoState, left_to_do, with_event, doing, telling, behind_ask, behind_take, served_at, IoGoes, Further}
use Rattle.io_rounds.specs.Course.{KeepsFit, CourseHolds, EventActed, IoAt, IoArrived, held_behind, tasks_on}
use Rattle.io_rounds.specs.Turns.{MayTurn, TaskSent, HasTaken, CollectsOn}
use Rattle.io_rounds.proofs.BeginLaws.{underway}
use Rattle.io_rounds.proofs.EventLaws.{goes_on, took_fewer, held_is}
use Rattle.io_rounds.proofs.StateLaws.{met_keeps, at_sent, at_silent, at_then, goes_by, holds_with, met_length}

-- ---- requests

was_full : (names : List (List ℕ)) (node : ℕ) (tid : Option ℕ) (what : Happened) (s : IoState)
    → what ≢ Answers.Took → behind_ask names node tid what s ≡ telling s (codes "full")
was_full names node tid Answers.Took s other = absurd (other refl)
was_full names node tid _ s other = refl

counted_length : (stations : List Station) (node : ℕ) (tid : Option ℕ)
    → length (counted_on stations node tid) ≡ length stations
counted_length stations node None = refl
counted_length stations node (Some tid) = length-set stations node _

counted_keeps : (names : List (List ℕ)) (net : Network) (stations : List Station) (node : ℕ)
    (tid : Option ℕ) → node < length stations → All (KeepsFit names net) stations
    → All (KeepsFit names net) (counted_on stations node tid)
counted_keeps names net stations node None within all = all
counted_keeps names net stations node (Some tid) within all =
    All-set (KeepsFit names net) stations node _ (all node new_station within) all

-- ---- a node collects

took_nothing : (names : List (List ℕ)) (node : ℕ) (what : Happened) (s : IoState)
    → goes_on what ≡ false → behind_take names node what s ≡ s
unfolding goes_on
took_nothing names node (Answers.Left packet) s none = absurd cc
took_nothing names node Answers.Answered s none = absurd cc
took_nothing names node _ s none = refl

module _ {begun : Outgoing} {names : List (List ℕ)} {script : List Numbered}
    {first : IoState} where
  -- nothing was held, or a response of the registers has no room
  pub takes_none : {out : Outgoing} {s : IoState} {old new : Course} (node : ℕ)
      (rest : List IoTask) (what : Happened)
      → IoAt begun out names script first s old → s.tasks ≡ Fetch node ∷ rest
      → EventActed names script s.events s.trace s.stations (Collect node) what new
      → goes_on what ≡ false
      → CollectsOn begun out names script first node false rest
      (held_behind script s.trace node) new
  takes_none {out} {s} {old} {new} node rest what at is acted none =
      let u = with_event (left_to_do s rest) (Collect node) acted.block in
      record {
        state = u;
        at = at_silent u new at (subst (IoGoes names script s) (took_nothing names node what u none)
            (goes_by (Fetch node) rest (Collect node) what is refl acted)) refl acted.holds;
        left = refl;
        fewer = λ more. absurd cc;
      }

  -- the registers answered
  pub takes_answered : {out : Outgoing} {s : IoState} {old new : Course} (node : ℕ)
      (rest : List IoTask)
      → IoAt begun out names script first s old → s.tasks ≡ Fetch node ∷ rest
      → EventActed names script s.events s.trace s.stations (Collect node) Answers.Answered new
      → CollectsOn begun out names script first node true rest
      (held_behind script s.trace node) new
  unfolding goes_on
  takes_answered {out} {s} {old} {new} node rest at is acted =
      let t = doing (with_event (left_to_do s rest) (Collect node) acted.block) (Fetch node) in
      record {
        state = t;
        at = at_silent t new at
            (goes_by (Fetch node) rest (Collect node) Answers.Answered is refl acted) refl
            acted.holds;
        left = refl;
        fewer = λ more. took_fewer names script s.events s.trace s.stations node Answers.Answered
            old
            new at.holds acted refl;
      }

  -- a packet left, and what became of it was told
  pub serves : {old new : Outgoing} {s : IoState} {mid next : Course} (node : ℕ)
      (packet : List ℕ) (rest : List IoTask) (met : Met) → node < length names
      → (taken : HasTaken begun old names script first s node rest
      (Answers.Left packet) mid)
      → met ≡ met_at_node s.stations node packet
      → Writes old new (met_text (name_of names node) met ++ codes "\n")
      → next.fabric ≡ mid.fabric → next.switches ≡ mid.switches
      → next.stations.items ≡ stations_met mid.stations.items node packet
      → IoAt begun new names script first
      (served_at names node packet
      (with_event (left_to_do s rest) (Collect node) taken.acted.block)) next
  serves {old} {new} {s} {mid} {next} node packet rest met within taken is told fabric switches
      stations =
      let acted = taken.acted in
      let t = served_at names node packet
      (with_event (left_to_do s rest) (Collect node) acted.block) in
      record {
        came = Further s taken.at.came
            (goes_by (Fetch node) rest (Collect node) (Answers.Left packet) taken.next refl acted);
        told = Writes-then s.output
            (met_text (name_of names node) (met_at_node s.stations node packet)
            ++ codes "\n") taken.at.told
            (subst (λ m. Writes old new
            (met_text (name_of names node) m ++ codes "\n"))
            is told);
        holds = holds_with t.stations next acted.holds fabric
            (stations ∙ ap (λ l. stations_met l node packet) acted.holds.same_stations) switches
            (met_length s.stations node packet)
            (met_keeps names (start script).network s.stations node packet
            (subst (λ n. node < n) (sym acted.holds.count) within) acted.holds.kept);
      }

  -- it was not answered
  pub serves_on : {new : Outgoing} {s : IoState} {mid next : Course} (node : ℕ)
      (packet : List ℕ) (rest : List IoTask) {old : Outgoing}
      (taken : HasTaken begun old names script first s node rest
      (Answers.Left packet) mid)
      → None ≡ answer_at_node s.stations node packet
      → IoAt begun new names script first
      (served_at names node packet
      (with_event (left_to_do s rest) (Collect node) taken.acted.block)) next
      → CollectsOn begun new names script first node true rest
      (held_behind script s.trace node) next
  unfolding goes_on
  serves_on {new} {s} {mid} {next} node packet rest taken none at = record {
    state = served_at names node packet
        (with_event (left_to_do s rest) (Collect node) taken.acted.block);
    at = at;
    left = ap (λ a. task_behind node packet a ∷ rest) (sym none);
    fewer = λ more. took_fewer names script s.events s.trace s.stations node (Answers.Left packet)
        taken.before mid taken.at.holds taken.acted refl;
  }

  -- it was answered, and the reply was sent or kept
  pub serves_replied : {new : Outgoing} {s : IoState} {mid next end : Course} (node : ℕ)
      (packet : List ℕ) (rest : List IoTask) (io : Io) (line : Line) (more : Bool)
      {old : Outgoing} (taken : HasTaken begun old names script first s node rest
      (Answers.Left packet) mid)
      → Some io ≡ answer_at_node s.stations node packet → line ≡ reply_line node packet io
      → IoAt begun new names script first
      (served_at names node packet
      (with_event (left_to_do s rest) (Collect node) taken.acted.block)) next
      → ((t : IoState) → CourseHolds names script t.events t.trace t.stations next
      → t.tasks ≡ Reply node line ∷ rest
      → TaskSent names script t node (tasks_on node more rest) end)
      → CollectsOn begun new names script first node more rest
      (held_behind script s.trace node) end
  unfolding goes_on
  serves_replied {new} {s} {mid} {next} {end} node packet rest io line more taken some is at
      replies =
      let t = served_at names node packet
      (with_event (left_to_do s rest) (Collect node) taken.acted.block) in
      let next_task : t.tasks ≡ Reply node line ∷ rest =
      ap (λ a. task_behind node packet a ∷ rest) (sym some)
      ∙ ap (λ l. Reply node l ∷ rest) (sym is) in
      let sent = replies t at.holds next_task in
      let few = sent.held in
      let fewer = took_fewer names script s.events s.trace s.stations node (Answers.Left packet)
      taken.before mid taken.at.holds taken.acted refl in
      record {
        state = sent.state;
        at = at_sent at sent;
        left = sent.left;
        fewer = λ more. omega (arith, few, fewer);
      }

  -- ---- requests

  -- there was room
  pub asks_took : {old new : Outgoing} {s : IoState} {before mid : Course} (node : ℕ)
      (tid : Option ℕ) (line : Line) (rest : List IoTask) (next : Course)
      → IoAt begun old names script first s before
      → s.tasks ≡ Ask node tid line ∷ rest → node < length names
      → EventActed names script s.events s.trace s.stations line Answers.Took mid
      → Writes old new (asked_text (name_of names node) tid ++ codes "\n")
      → next.fabric ≡ mid.fabric → next.switches ≡ mid.switches
      → next.stations.items ≡ counted_on mid.stations.items node tid
      → IoArrived begun new names script first rest next
  asks_took {old} {new} {s} {before} {mid} node tid line rest next at is within acted told fabric
      switches stations =
      let u = with_event (left_to_do s rest) line acted.block in
      let t = telling (record u { stations = counted_on s.stations node tid })
      (asked_text (name_of names node) tid) in
      record {
        state = t;
        at = at_then t (asked_text (name_of names node) tid ++ codes "\n") next at
            (goes_by (Ask node tid line) rest line Answers.Took is refl acted) told refl
            (holds_with (counted_on s.stations node tid) next acted.holds fabric
            (stations ∙ ap (λ l. counted_on l node tid) acted.holds.same_stations) switches
            (counted_length s.stations node tid)
            (counted_keeps names (start script).network s.stations node tid
            (subst (λ n. node < n) (sym acted.holds.count) within) acted.holds.kept));
        left = refl;
      }

  -- there was none
  pub asks_full : {old new : Outgoing} {s : IoState} {before next : Course} (node : ℕ)
      (tid : Option ℕ) (line : Line) (rest : List IoTask) (what : Happened)
      → IoAt begun old names script first s before
      → s.tasks ≡ Ask node tid line ∷ rest → what ≢ Answers.Took
      → EventActed names script s.events s.trace s.stations line what next
      → Writes old new (codes "full" ++ codes "\n")
      → IoArrived begun new names script first rest next
  asks_full {old} {new} {s} {before} {next} node tid line rest what at is other acted told =
      let u = with_event (left_to_do s rest) line acted.block in
      record {
        state = telling u (codes "full");
        at = at_then (telling u (codes "full")) (codes "full" ++ codes "\n") next at
            (subst (IoGoes names script s) (was_full names node tid what u other)
            (goes_by (Ask node tid line) rest line what is refl acted)) told refl acted.holds;
        left = refl;
      }

  -- ---- a round

  -- the links settle and the switches step
  pub settles : {out : Outgoing} {s : IoState} {old new : Course} (rest : List IoTask)
      (what : Happened) → IoAt begun out names script first s old
      → s.tasks ≡ Settle ∷ rest
      → EventActed names script s.events s.trace s.stations (Run 1) what new
      → IoArrived begun out names script first rest new
  settles {out} {s} {old} {new} rest what at is acted =
      let u = with_event (left_to_do s rest) (Run 1) acted.block in
      record {
        state = u;
        at = at_silent u new at (goes_by Settle rest (Run 1) what is refl acted) refl acted.holds;
        left = refl;
      }

-- ---- one packet after another

-- neither a packet left nor registers answered
pub goes_not : (what : Happened) → ((packet : List ℕ) → what ≢ Answers.Left packet)
    → what ≢ Answers.Answered → goes_on what ≡ false
unfolding goes_on
goes_not (Answers.Left packet) left answered = absurd (left packet refl)
goes_not Answers.Answered left answered = absurd (answered refl)
goes_not _ left answered = refl

-- behind an event it may still be the turn of the node
pub turns_on : {names : List (List ℕ)} {old : Course} (node : ℕ) (line : Line) (what : Happened)
    (new : Course) (may : MayTurn names old node)
    → ((script events : List Numbered) (trace : List TraceLine) (stations : List Station)
    → CourseHolds names script events trace stations old
    → EventActed names script events trace stations line what new) → MayTurn names new node
turns_on node line what new may acts =
    let way = may.way in
    record {
      way = underway (acts way.script way.events way.trace way.stations way.holds).holds;
      named = may.named;
      endpoint = may.endpoint;
    }

module _ {begun out : Outgoing} {names : List (List ℕ)} {script : List Numbered} {first : IoState}
    {node : ℕ} {more : Bool} {rest : List IoTask} {before : ℕ} {course : Course} where
  pub taken_on : more ≡ true
      → CollectsOn begun out names script first node more rest before course
      → IoArrived begun out names script first (Fetch node ∷ rest) course
  taken_on on taken = record {
    state = taken.state;
    at = taken.at;
    left = taken.left ∙ ap (λ b. tasks_on node b rest) on;
  }

  pub taken_over : more ≡ false
      → CollectsOn begun out names script first node more rest before course
      → IoArrived begun out names script first rest course
  taken_over over taken = record {
    state = taken.state;
    at = taken.at;
    left = taken.left ∙ ap (λ b. tasks_on node b rest) over;
  }

-- the fabric has fewer packets at the node than before
pub taken_smaller : {begun out end : Outgoing} {names : List (List ℕ)} {script : List Numbered}
    {first : IoState} {node : ℕ} {more : Bool} {tasks rest : List IoTask} {old new : Course}
    → IsEndpoint (start script).network node → more ≡ true
    → (arrived : IoArrived begun out names script first tasks old)
    → CollectsOn begun end names script first node more rest
    (held_behind script arrived.state.trace node) new
    → held_at new.fabric node < held_at old.fabric node
taken_smaller {begun} {out} {end} {names} {script} {first} {node} {more}
    {tasks} {rest} {old} {new} endpoint on arrived taken =
    let s = arrived.state in
    let t = taken.state in
    let one = held_is names script s.events s.trace s.stations old node arrived.at.holds endpoint in
    let other = held_is names script t.events t.trace t.stations new node taken.at.holds endpoint in
    let fewer = taken.fewer on in
    omega (arith, one, other, fewer)
