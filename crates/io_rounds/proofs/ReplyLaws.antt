-- Replies, and the turn of an endpoint.
use Rattle.std.proofs.Common.{◌≡◌, ◌≢◌, ◌<◌, ℕ, Bool, List, ◌∷◌, length, Option, Some, None, IfSome, refl, sym, ap, ◌∙◌, subst, arith}
use Rattle.std.proofs.lemmas.List.{length-set}
use Rattle.std.proofs.lemmas.Option.{slice_get-map}
use Rattle.std.specs.List.{slice_get}
use Rattle.maint_registers.specs.Devices.{is_switch}
use Rattle.fabric_script.specs.declared.lines.Line.{Line}
use Rattle.fabric_script.specs.declared.lines.Line.TheVariants.{Send}
use Rattle.fabric_script.specs.declared.lines.Numbered.{Numbered}
use Rattle.trace_lines.specs.Lines.{TraceLine}
use Rattle.fabric_trace.specs.Runs.{start}
use Rattle.fabric_ports.specs.declared.answers.Happened.{Happened}
use Rattle.fabric_ports.specs.declared.answers.Happened.TheVariants as Answers
use Rattle.io_packets.specs.declared.io.Io.{Io}
use Rattle.io_rounds.specs.declared.course.Course.{Course}
use Rattle.io_rounds.specs.declared.stations.Station.{Station}
use Rattle.io_rounds.specs.Stations.{kept_of_node, with_kept, stations_met}
use Rattle.io_rounds.specs.Tasks.{IoTask, reply_line, Turn, Reply, Fetch}
use Rattle.io_rounds.specs.Going.{IoState, left_to_do, with_event, doing, turned_to, behind_reply, first_of_turn, IoGoes, IoTurns, Here, Further}
use Rattle.io_rounds.specs.Course.{CanSend, SendsPacket, CourseHolds, EventActed, tasks_on}
use Rattle.io_packets.specs.Forms.{IsGood}
use Rattle.io_rounds.specs.Turns.{Underway, MayTurn, MaySend, TaskSent}
use Rattle.io_rounds.proofs.BeginLaws.{may_reply}
use Rattle.io_rounds.proofs.EventLaws.{sent_held}
use Rattle.io_rounds.proofs.StateLaws.{met_keeps, comes_on, goes_by, holds_with, keeps_none, keeps_one, kept_fits, met_length}

-- ---- a reply

pub reply_took : {names : List (List ℕ)} {script : List Numbered} {s : IoState} {new : Course}
    (node : ℕ) (line : Line) (rest : List IoTask)
    → s.tasks ≡ Reply node line ∷ rest → SendsPacket line
    → EventActed names script s.events s.trace s.stations line Answers.Took new
    → TaskSent names script s node (Fetch node ∷ rest) new
reply_took {names} {script} {s} node line rest is sending acted =
    let t = doing (with_event (left_to_do s rest) line acted.block) (Fetch node) in
    let held = sent_held script s.trace acted.block line node sending acted.is in
    record {
      state = t;
      comes =
          Further s (Here refl) (goes_by (Reply node line) rest line Answers.Took is refl acted);
      left = refl;
      output = refl;
      holds = acted.holds;
      held = omega (arith, held);
    }

is_kept : (node : ℕ) (line : Line) (what : Happened) (s : IoState) → what ≢ Answers.Took
    → behind_reply node line what s ≡ record s { stations = with_kept s.stations node (Some line) }
is_kept node line Answers.Took s other = absurd (other refl)
is_kept node line _ s other = refl

pub reply_kept : {names : List (List ℕ)} {script : List Numbered} {s : IoState} {mid : Course}
    (node : ℕ) (line : Line) (rest : List IoTask) (what : Happened) (new : Course)
    → s.tasks ≡ Reply node line ∷ rest → CanSend names (start script).network line
    → what ≢ Answers.Took → EventActed names script s.events s.trace s.stations line what mid
    → new.fabric ≡ mid.fabric → new.switches ≡ mid.switches
    → new.stations.items ≡ with_kept mid.stations.items node (Some line)
    → TaskSent names script s node rest new
reply_kept {names} {script} {s} {mid} node line rest what new is can other acted fabric switches
    stations =
    let u = with_event (left_to_do s rest) line acted.block in
    let t = record u { stations = with_kept s.stations node (Some line) } in
    let held = sent_held script s.trace acted.block line node can.0 acted.is in
    record {
      state = t;
      comes = Further s (Here refl) (subst (IoGoes names script s) (is_kept node line what u other)
          (goes_by (Reply node line) rest line what is refl acted));
      left = refl;
      output = refl;
      holds = holds_with (with_kept s.stations node (Some line)) new acted.holds fabric
          (stations ∙ ap (λ l. with_kept l node (Some line)) acted.holds.same_stations) switches
          (length-set s.stations node _)
          (keeps_one names (start script).network s.stations node line can acted.holds.kept);
      held = omega (arith, held);
    }

-- ---- a turn

-- a turn begins
turn_begins : {names : List (List ℕ)} {script : List Numbered} {s : IoState}
    {old new : Course} (node : ℕ) (kept : Option Line) (rest : List IoTask)
    → s.tasks ≡ Turn node ∷ rest → CourseHolds names script s.events s.trace s.stations old
    → kept ≡ kept_of_node old.stations.items node → new.fabric ≡ old.fabric
    → new.switches ≡ old.switches → new.stations.items ≡ with_kept old.stations.items node None
    → TaskSent names script s node (first_of_turn node kept ∷ rest) new
turn_begins {names} {script} {s} {old} {new} node kept rest is holds keeps fabric switches
    stations =
    let same = holds.same_stations in
    let t = turned_to node kept (left_to_do s rest) in
    record {
      state = t;
      comes = Further s (Here refl) (IoTurns node rest is
          (ap (λ k. turned_to node k (left_to_do s rest))
          (keeps ∙ ap (λ l. kept_of_node l node) same)));
      left = refl;
      output = refl;
      holds = holds_with (with_kept s.stations node None) new holds fabric
          (stations ∙ ap (λ l. with_kept l node None) same) switches (length-set s.stations node _)
          (keeps_none names (start script).network s.stations node holds.kept);
      held = omega arith;
    }

-- nothing is kept
pub turn_takes : {names : List (List ℕ)} {script : List Numbered} {s : IoState} {old new : Course}
    (node : ℕ) (rest : List IoTask) → s.tasks ≡ Turn node ∷ rest
    → CourseHolds names script s.events s.trace s.stations old
    → None ≡ kept_of_node old.stations.items node → new.fabric ≡ old.fabric
    → new.switches ≡ old.switches → new.stations.items ≡ with_kept old.stations.items node None
    → TaskSent names script s node (Fetch node ∷ rest) new
turn_takes node rest is holds keeps fabric switches stations =
    turn_begins node None rest is holds keeps fabric switches stations

-- a reply is kept, and is sent if it can be
pub turn_replies : {names : List (List ℕ)} {script : List Numbered} {s : IoState}
    {old mid new : Course} (node : ℕ) (line : Line) (more : Bool) (rest : List IoTask)
    → s.tasks ≡ Turn node ∷ rest → CourseHolds names script s.events s.trace s.stations old
    → Some line ≡ kept_of_node old.stations.items node → mid.fabric ≡ old.fabric
    → mid.switches ≡ old.switches → mid.stations.items ≡ with_kept old.stations.items node None
    → ((t : IoState) → CourseHolds names script t.events t.trace t.stations mid
    → t.tasks ≡ Reply node line ∷ rest → TaskSent names script t node (tasks_on node more rest) new)
    → TaskSent names script s node (tasks_on node more rest) new
turn_replies node line more rest is holds keeps fabric switches stations replies =
    let begins = turn_begins node (Some line) rest is holds keeps fabric switches stations in
    let sent = replies begins.state begins.holds begins.left in
    let first = begins.held in
    let later = sent.held in
    record {
      state = sent.state;
      comes = comes_on begins.comes sent.comes;
      left = sent.left;
      output = sent.output ∙ begins.output;
      holds = sent.holds;
      held = omega (arith, first, later);
    }

-- ---- what may be sent

-- a reply that was kept may be sent
pub holds_kept : {names : List (List ℕ)} {old : Course} (node : ℕ) (line : Line) (new : Course)
    (way : Underway names old) → node < length names
    → Some line ≡ kept_of_node old.stations.items node → new.fabric ≡ old.fabric
    → new.switches ≡ old.switches → new.stations.items ≡ with_kept old.stations.items node None
    → MaySend names new line
holds_kept {names} {old} node line new way named kept fabric switches stations =
    let h = way.holds in
    let same = h.same_stations in
    record {
      way = record {
        script = way.script;
        events = way.events;
        trace = way.trace;
        stations = with_kept way.stations node None;
        holds = holds_with (with_kept way.stations node None) new h fabric
            (stations ∙ ap (λ l. with_kept l node None) same) switches
            (length-set way.stations node _)
            (keeps_none names (start way.script).network way.stations node h.kept);
      };
      can = kept_fits names (start way.script).network way.stations node line
          (subst (λ n. node < n) (sym h.count) named) h.kept
          (ap (λ l. kept_of_node l node) (sym same) ∙ sym kept);
    }

-- a packet may be sent by whatever set-up lines the same nodes are endpoints
pub can_same : {names : List (List ℕ)} {script script2 events events2 : List Numbered}
    {trace trace2 : List TraceLine} {stations stations2 : List Station} {course : Course}
    (line : Line) → CourseHolds names script events trace stations course
    → CourseHolds names script2 events2 trace2 stations2 course
    → CanSend names (start script).network line → CanSend names (start script2).network line
can_same {names} {script} {script2} (Send node prio ftype dest hex) one other can = (
  tt,
  record {
    named = can.1.named;
    range = can.1.range;
    there =
        sym (slice_get-map is_switch (start script2).network.registers node)
        ∙ ap (λ l. slice_get l node) (sym other.switches ∙ one.switches)
        ∙ slice_get-map is_switch (start script).network.registers node ∙ can.1.there;
  },
)
can_same _ one other can = absurd can.0

-- the reply to a packet that was served may be sent
pub serve_holds : {names : List (List ℕ)} {old : Course} (node : ℕ) (packet : List ℕ) (io : Io)
    (line : Line) (new : Course) (may : MayTurn names old node) {answer : Option Io}
    → IfSome answer IsGood → answer ≡ Some io → line ≡ reply_line node packet io
    → new.fabric ≡ old.fabric → new.switches ≡ old.switches
    → new.stations.items ≡ stations_met old.stations.items node packet → MaySend names new line
serve_holds {names} {old} node packet io line new may good some is fabric switches stations =
    let way = may.way in
    let h = way.holds in
    record {
      way = record {
        script = way.script;
        events = way.events;
        trace = way.trace;
        stations = stations_met way.stations node packet;
        holds = holds_with (stations_met way.stations node packet) new h fabric
            (stations ∙ ap (λ l. stations_met l node packet) h.same_stations) switches
            (met_length way.stations node packet)
            (met_keeps names (start way.script).network way.stations node packet
            (subst (λ n. node < n) (sym h.count) may.named) h.kept);
      };
      can = subst (CanSend names (start way.script).network) (sym is)
          (may_reply names (start way.script).network node packet io may.named may.endpoint
          (subst (λ o. IfSome o IsGood) some good));
    }
