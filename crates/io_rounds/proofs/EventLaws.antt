-- One event, behind what was done.
use Rattle.std.proofs.Common.{◌≡◌, ◌⊎◌, inl, inr, ◌<◌, ℕ, Bool, true, false, List, [], ◌∷◌, ◌++◌, Option, Some, None, Ok, Err, refl, sym, ap, ◌∙◌, subst, arith, append_assoc, if◌then◌else◌}
use Rattle.std.proofs.lemmas.List.Elements.{All-push}
use Rattle.rio_packets.specs.Fields.{prio_of}
use Rattle.link_model.specs.declared.event.Event.{Event}
use Rattle.switch_core.specs.EndpointSteps.{collected}
use Rattle.switch_core.specs.declared.endpoint.Collected.{Collected}
use Rattle.switch_core.specs.declared.endpoint.Collected.TheVariants as Collects
use Rattle.fabric_script.specs.Lines.{is_event}
use Rattle.fabric_script.specs.declared.lines.Line.{Line}
use Rattle.fabric_script.specs.declared.lines.Line.TheVariants.{Send, Run, Collect}
use Rattle.fabric_script.specs.declared.lines.Numbered.{Numbered}
use Rattle.fabric_script.specs.declared.ports.PortRef.{PortRef}
use Rattle.fabric_model.specs.Network.{IsEndpoint, held, port_of, room_out}
use Rattle.fabric_model.specs.Steps.{Step, Take, Leave, Answer, AtNode, ByDevice}
use Rattle.fabric_trace.specs.Blocks.{IsBlock}
use Rattle.fabric_trace.specs.Fold.{seen, seen_line}
use Rattle.fabric_trace.specs.Known.{Seen, UndetectedAt}
use Rattle.trace_lines.specs.Lines.{Full as NoRoom, TraceLine, Begun, Stepped, Lacked}
use Rattle.fabric_trace.specs.Runs.{bare, set_up_all, start, BlocksFrom}
use Rattle.fabric_trace.specs.Served.{face_in, collect_lines, IsCollect}
use Rattle.fabric_trace.proofs.Network.Boards.{happens_still}
use Rattle.fabric_trace.proofs.Parts.Folding.{seen-append}
use Rattle.fabric_ask.proofs.Gathering.{stays_endpoint, collected_fewer}
use Rattle.fabric_ports.specs.Events.{MayFollow, IsOwnBlock, IsAnsweredBlock, Evented, answer_collected}
use Rattle.fabric_ports.specs.declared.answers.FabricEnd.{FabricEnd}
use Rattle.fabric_ports.specs.declared.answers.FabricEnd.TheVariants as Ends
use Rattle.fabric_ports.specs.declared.answers.Happened.{Happened}
use Rattle.fabric_ports.specs.declared.answers.Happened.TheVariants as Answers
use Rattle.fabric_ports.proofs.GatherLaws.{held_at}
use Rattle.fabric_ports.proofs.NodeLaws.{endpoint_port}
use Rattle.fabric_ports.proofs.ServeLaws.{held_in, held_lanes}
use Rattle.fabric_ports.proofs.SettlingLaws.{good_behind}
use Rattle.fabric_replay.proofs.Joining.{blocks-append, one_block}
use Rattle.fabric_replay.proofs.Naming.{names_suffice, names_few}
use Rattle.io_rounds.specs.declared.course.Course.{Course}
use Rattle.io_rounds.specs.declared.stations.Station.{Station}
use Rattle.io_rounds.specs.Calm.{LinksAreCalm}
use Rattle.io_rounds.specs.Course.{CourseHolds, IsIoEvent, SendsPacket, MayAct, EventActed, held_behind}
use Rattle.io_rounds.proofs.CalmLaws.{StayCalm, event_calm}
use Rattle.trace_lines.specs.declared.writer.TraceWriter.{TraceWriter}

is_an_event : (line : Line) → IsIoEvent line → is_event line ≡ true
is_an_event (Send node prio ftype dest hex) event = refl
is_an_event (Collect node) event = refl
is_an_event (Run n) event = refl
is_an_event _ event = absurd event

pub sending_event : (line : Line) → SendsPacket line → IsIoEvent line
sending_event (Send node prio ftype dest hex) event = tt
sending_event _ event = absurd event

-- ---- one event

pub follows : (names : List (List ℕ)) (course : Course) (line : Line) → MayAct names course line
    → MayFollow course.fabric names line
follows names course line may = record {
  from = start may.script;
  lines = may.trace;
  stands = may.holds.stands;
  happens = happens_still names (start may.script) may.trace line may.happens;
  event = is_an_event line may.kind;
  names_suffice = names_suffice names may.script may.trace course.fabric may.holds.passes
      may.holds.stands;
  few_names = names_few names may.script may.holds.passes;
}

-- behind what was done an event leaves the links calm
stays_calm : (names : List (List ℕ)) (script events : List Numbered) (trace block : List TraceLine)
    (stations : List Station) (course : Course) (line : Line)
    → CourseHolds names script events trace stations course → IsIoEvent line
    → IsBlock (seen (start script) trace) line block
    → StayCalm (seen (start script) trace) (Begun line ∷ block)
stays_calm names script events trace block stations course line holds kind is =
    event_calm (seen (start script) trace) line block kind
    (good_behind holds.stands.ready holds.stands.made) holds.stands.sent holds.calm is

nothing_undetected : {K : Type 0} {old new : TraceWriter K} (names : List (List ℕ))
    (course : Course)
    (line : Line) (port : PortRef) (event : Event) (may : MayAct names course line)
    → Evented line (IsOwnBlock line) old new (start may.script) may.trace
    (Err (Ends.Undetected port event)) → ⊥
nothing_undetected names course line port event may exposed =
    let s = start may.script in
    let own = Begun line ∷ exposed.block in
    let stays = stays_calm names may.script may.events may.trace exposed.block may.stations course
    line may.holds may.kind exposed.is.0 in
    let there : seen s (may.trace ++ own) ≡ seen (seen s may.trace) own =
    seen-append s may.trace own
    in
    let found : (seen (seen s may.trace) own).undetected
    ≡ Some (record { port = port; event = event })
    = ap (λ (x : Seen). x.undetected) (sym there) ∙ exposed.ends.1 in
    none_some (seen (seen s may.trace) own).undetected (record { port = port; event = event })
    stays.still found
  where
    none_some : (o : Option UndetectedAt) (x : UndetectedAt) → o ≡ None → o ≡ Some x → ⊥
    none_some None x none some = absurd cc
    none_some (Some y) x none some = absurd cc

-- so memory can be wanting, or a write fail
pub only_wanting : {K : Type 0} {old new : TraceWriter K} (names : List (List ℕ)) (course : Course)
    (line : Line) (end : FabricEnd) (may : MayAct names course line)
    → Evented line (IsOwnBlock line) old new (start may.script) may.trace (Err end)
    → (end ≡ Ends.Failed) ⊎ (end ≡ Ends.NoMemory)
only_wanting names course line (Ends.Undetected port event) may ends =
    absurd (nothing_undetected names course line port event may ends)
only_wanting names course line Ends.Failed may ends = inl refl
only_wanting names course line Ends.NoMemory may ends = inr refl

pub acted : {K : Type 0} {before after : TraceWriter K} (names : List (List ℕ))
    (script events : List Numbered) (trace : List TraceLine) (stations : List Station) (line : Line)
    (old new : Course) (what : Happened) → CourseHolds names script events trace stations old
    → IsIoEvent line
    → Evented line (IsAnsweredBlock line what) before after (start script) trace (Ok new.fabric)
    → new.stations.items ≡ old.stations.items → new.switches.items ≡ old.switches.items
    → EventActed names script events trace stations line what new
acted names script events trace stations line old new what holds kind done same switches =
    let s = start script in
    let own = Begun line ∷ done.block in
    let next : Numbered = record { number = 0; line = line } in
    let there : seen s (trace ++ own) ≡ seen (seen s trace) own = seen-append s trace own in
    let stays = stays_calm names script events trace done.block stations old line holds kind
    done.is.0 in
    record {
      block = done.block;
      is = done.is.0;
      answered = done.is.2;
      holds = record {
        passes = holds.passes;
        sets_up = holds.sets_up;
        are_events = All-push (λ (l : Numbered). is_event l.line ≡ true) events next
            holds.are_events (is_an_event line kind);
        stands = done.ends.1;
        calm = λ a b peer. subst (λ (x : Seen). LinksAreCalm x) (sym there) stays.calm a b peer;
        blocks = subst (λ l. BlocksFrom s l (trace ++ own)) (append_assoc script events (next ∷ []))
            (blocks-append (script ++ events) (next ∷ []) s trace own holds.blocks holds.stands.sent
            (one_block (seen s trace) next done.block (is_an_event line kind) done.is.0));
        same_stations = same ∙ holds.same_stations;
        count = holds.count;
        kept = holds.kept;
        switches = switches ∙ holds.switches;
      };
    }

-- ---- how many packets a node holds

-- a packet that is sent is received nowhere
send_held : (s : Seen) (line : Line) (block : List TraceLine) (p : PortRef) → SendsPacket line
    → IsBlock s line block → held (seen s (Begun line ∷ block)).network p ≡ held s.network p
send_held s (Send node prio ftype dest hex) block p sending is =
    subst (λ b. held (seen s b).network p ≡ held s.network p) (sym is.lines)
    (by_room (room_out s.network (port_of node) (prio_of is.packet)))
  where
    by_room : (room : Bool)
        → held (seen s (if room then Stepped (AtNode (Take node is.packet)) ∷ []
        else Lacked NoRoom ∷ [])).network p ≡ held s.network p
    by_room true = refl
    by_room false = refl
send_held s _ block p sending is = absurd sending

pub sent_held : (script : List Numbered) (trace block : List TraceLine) (line : Line) (node : ℕ)
    → SendsPacket line → IsBlock (seen (start script) trace) line block
    → held_behind script (trace ++ Begun line ∷ block) node ≡ held_behind script trace node
sent_held script trace block line node sending is =
    ap (λ (x : Seen). held x.network (port_of node))
    (seen-append (start script) trace (Begun line ∷ block))
    ∙ send_held (seen (start script) trace) line block (port_of node) sending is

-- the node may collect on
unfoldable pub goes_on : Happened → Bool
goes_on (Answers.Left packet) = true
goes_on Answers.Answered = true
goes_on _ = false

one_step : (node : ℕ) (made : Collected) (block : List TraceLine) → block ≡ collect_lines node made
    → goes_on (answer_collected block) ≡ true → (step : Step) × (block ≡ Stepped step ∷ [])
unfolding goes_on
one_step node (Collects.Left packet) block is more = (AtNode (Leave node packet), is)
one_step node (Collects.Answered request response) block is more =
    (ByDevice (Answer (port_of node) request response), is)
one_step node Collects.Empty block is more =
    absurd (cc (ap (λ b. goes_on (answer_collected b)) is, more))
one_step node Collects.Full block is more =
    absurd (cc (ap (λ b. goes_on (answer_collected b)) is, more))

pub took_fewer : (names : List (List ℕ)) (script events : List Numbered) (trace : List TraceLine)
    (stations : List Station) (node : ℕ) (what : Happened) (old new : Course)
    → CourseHolds names script events trace stations old
    → (acted : EventActed names script events trace stations (Collect node) what new)
    → goes_on what ≡ true
    → held_behind script (trace ++ Begun (Collect node) ∷ acted.block) node
    < held_behind script trace node
took_fewer names script events trace stations node what old new holds acted more =
    let s = seen (start script) trace in
    let is = acted.is in
    let one = one_step node (collected is.device (face_in s.network (port_of node))) acted.block
    is.lines (ap goes_on (sym acted.answered) ∙ more) in
    let fewer = collected_fewer s node one.0 (good_behind holds.stands.ready holds.stands.made)
    (subst (IsCollect s.network node) one.1 is) in
    let there : held_behind script (trace ++ Begun (Collect node) ∷ acted.block) node
    ≡ held (seen_line s (Stepped one.0)).network (port_of node) =
    ap (λ (x : Seen). held x.network (port_of node))
    (seen-append (start script) trace (Begun (Collect node) ∷ acted.block)
    ∙ ap (λ b. seen s (Begun (Collect node) ∷ b)) one.1) in
    omega (arith, fewer, there)

-- how many packets a fabric has at the port of an endpoint
pub held_is : (names : List (List ℕ)) (script events : List Numbered) (trace : List TraceLine)
    (stations : List Station) (course : Course) (node : ℕ)
    → CourseHolds names script events trace stations course → IsEndpoint (start script).network node
    → held_at course.fabric node ≡ held_behind script trace node
held_is names script events trace stations course node holds endpoint =
    let shows = holds.stands.shows in
    let at = shows.endpoints node (stays_endpoint (start script) node trace endpoint) in
    ap held_in (shows.ports (port_of node) (endpoint_port course.fabric.devices.items node at))
    ∙ held_lanes ((seen (start script) trace).network.received (port_of node))
