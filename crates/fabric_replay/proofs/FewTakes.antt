-- A trace takes no more packets than its script has work: at most 100,000.
use Rattle.std.proofs.Common.{◌≡◌, ◌≢◌, ℕ, ◌+◌, ◌≤◌, zero, suc, Bool, true, false, MatchBool, List, [], ◌∷◌, ◌++◌, Option, Some, None, refl, sym, ap, ◌∙◌, subst, arith, if◌then◌else◌}
use Rattle.link_watch.specs.declared.note.Note.{Note}
use Rattle.link_watch.specs.declared.note.Note.TheVariants as Notes
use Rattle.link_machine.specs.Calls.{has_chars, pump_notes, delivery_notes, is_silent, time_out_notes}
use Rattle.link_machine.specs.Acts.{At, acts_notes}
use Rattle.link_wires.specs.Wires.{fits}
use Rattle.rio_chars.specs.declared.edit.Edit.{Edit}
use Rattle.link_watch.specs.declared.side.Side.TheVariants.{A}
use Rattle.switch_core.specs.declared.endpoint.Collected.{Collected}
use Rattle.switch_core.specs.declared.endpoint.Collected.TheVariants as Collects
use Rattle.switch_core.specs.declared.switch.Step as switch
use Rattle.switch_core.specs.declared.switch.Step.TheVariants.{Moved, Dropped, Answered, Nothing}
use Rattle.maint_registers.specs.Devices.{Registers, is_switch}
use Rattle.fabric_script.specs.Known.{Known, one_event, nothing, known_after, cost_of}
use Rattle.fabric_script.specs.Lines.{is_event, new_name}
use Rattle.fabric_script.specs.Scripts.{PassesFrom, ScriptPasses}
use Rattle.fabric_script.specs.declared.lines.Line.{Line}
use Rattle.fabric_script.specs.declared.lines.Line.TheVariants as Lines
use Rattle.fabric_script.specs.declared.lines.Numbered.{Numbered}
use Rattle.fabric_script.specs.declared.ports.PortRef.{PortRef}
use Rattle.fabric_script.proofs.KnownLaws.{within_cost}
use Rattle.fabric_model.specs.Laws.Stock.{takes_by, steps_in}
use Rattle.fabric_model.specs.Network.{room_out, port_of, link_in}
use Rattle.fabric_model.specs.Steps.{Take, Step, AtNode}
use Rattle.rio_packets.specs.Fields.{prio_of}
use Rattle.trace_lines.specs.Notes.{lines_of}
use Rattle.fabric_trace.specs.Blocks.{SendsBody, IsSettle, WithPeer, WithLink, edits, IsBlock}
use Rattle.fabric_trace.specs.Fold.{edit_of, seen}
use Rattle.fabric_trace.specs.Known.{UndetectedAt, Seen, peer_of, link_at}
use Rattle.trace_lines.specs.Lines.{Full, Short, TraceLine, Begun, Stepped, Lacked, steps_of}
use Rattle.fabric_trace.specs.Rounds.{Follows, NamesNothing, Joined, SettleAll, ServesAll, ServeRests, ServeGoes, ServeNodes, Round, Rounds}
use Rattle.fabric_trace.specs.Runs.{start, EventThen, Names, RunsFrom, Runs}
use Rattle.fabric_trace.specs.Served.{step_lines, collect_lines}
use Rattle.fabric_trace.proofs.Parts.Keeping.{steps_of-append}

-- how many packets the lines take
abbrev taken : List TraceLine → ℕ
taken lines = steps_in takes_by (steps_of lines)

in_both : (a b : List Step) → steps_in takes_by (a ++ b) ≡ steps_in takes_by a + steps_in takes_by b
in_both [] b = omega arith
in_both (step ∷ a) b = omega (arith, in_both a b)

both : (a b : List TraceLine) → taken (a ++ b) ≡ taken a + taken b
both a b = ap (steps_in takes_by) (steps_of-append a b) ∙ in_both (steps_of a) (steps_of b)

none_of : (lines other : List TraceLine) → lines ≡ other → taken other ≡ 0 → taken lines ≡ 0
none_of lines other is none = ap taken is ∙ none

-- ---- blocks that take none

noted : (a b : PortRef) (notes : List Note) → taken (lines_of a b notes) ≡ 0
noted a b [] = refl
noted a b (Notes.Sent side chars ∷ notes) = noted a b notes
noted a b (Notes.Got side chars ∷ notes) = noted a b notes
noted a b (Notes.Hold side packet ∷ notes) = omega (arith, noted a b notes)
noted a b (Notes.Free side packet ∷ notes) = omega (arith, noted a b notes)
noted a b (Notes.Fire side ∷ notes) = noted a b notes

stepped : (node : ℕ) (step : switch.Step) → taken (step_lines node step) ≡ 0
stepped node (Moved from to packet) = refl
stepped node (Dropped from packet) = refl
stepped node (Answered port request response) = refl
stepped node Nothing = refl

collects : (node : ℕ) (what : Collected) → taken (collect_lines node what) ≡ 0
collects node (Collects.Left packet) = refl
collects node (Collects.Answered request response) = refl
collects node Collects.Empty = refl
collects node Collects.Full = refl

either : (b : Bool) (one other : List TraceLine) → taken one ≡ 0 → taken other ≡ 0
    → taken (if b then one else other) ≡ 0
either true one other is_one is_other = is_one
either false one other is_one is_other = is_other

edited : (s : Seen) (edit : Option (PortRef × Edit)) → taken (edits s edit) ≡ 0
edited s None = refl
edited s (Some edit) = either (fits edit.1 (s.wires edit.0).chars) [] (Lacked Short ∷ []) refl refl

at_peer : (peer : Option PortRef) (lines : PortRef → List TraceLine) (block : List TraceLine)
    → ((q : PortRef) → taken (lines q) ≡ 0) → WithPeer peer lines block → taken block ≡ 0
at_peer None lines block none is = absurd is
at_peer (Some q) lines block none is = none_of block (lines q) is (none q)

settled : (s : Seen) (a b : PortRef) (block : List TraceLine) → IsSettle s a b block
    → taken block ≡ 0
settled s a b block is = none_of block _ is.lines (noted a b (acts_notes (At (link_at s a b))
    is.acts))

at_link : (s : Seen) (link : Option (PortRef × PortRef)) (block : List TraceLine)
    → WithLink link (IsSettle s) block → taken block ≡ 0
at_link s None block is = absurd is
at_link s (Some link) block is = settled s link.0 link.1 block is

-- ---- rounds

follows : (found : Option UndetectedAt) (More : List TraceLine → Type 0) (rest : List TraceLine)
    → ((lines : List TraceLine) → More lines → taken lines ≡ 0)
    → Follows found More NamesNothing rest → taken rest ≡ 0
follows None More rest none is = none rest is
follows (Some found) More rest none is = none_of rest [] is refl

joined : (First : List TraceLine → Type 0) (More : Seen → List TraceLine
    → Type 0) (s : Seen) (lines : List TraceLine) → ((first : List TraceLine) → First first
    → taken first ≡ 0) → ((t : Seen) (rest : List TraceLine) → More t rest → taken rest ≡ 0)
    → Joined First More s lines → taken lines ≡ 0
joined First More s lines first more is =
    let t = seen s is.0 in
    let one = first is.0 is.3 in
    let other = follows t.undetected (More t) is.1 (more t) is.4 in
    ap taken is.2 ∙ both is.0 is.1 ∙ omega (arith, one, other)

all_settle : (links : List (PortRef × PortRef)) (s : Seen) (lines : List TraceLine)
    → SettleAll IsSettle links s lines → taken lines ≡ 0
all_settle [] s lines is = none_of lines [] is refl
all_settle (link ∷ links) s lines is = joined (IsSettle s link.0 link.1) (SettleAll IsSettle links)
    s lines (λ first. settled s link.0 link.1 first) (all_settle links) is

serves : {s : Seen} {node : ℕ} {lines : List TraceLine} → ServesAll s node lines → taken lines ≡ 0
serves {s} {node} {lines} (ServeRests move is) = none_of lines [] is refl
serves {s} {node} {lines} (ServeGoes step rest move is more) = let none = serves more in ap taken is
    ∙ omega (arith, none)

served : (switch : Bool) (First : List TraceLine → Type 0) (More : Seen → List TraceLine
    → Type 0) (s : Seen) (lines : List TraceLine) → ((first : List TraceLine) → First first
    → taken first ≡ 0) → ((t : Seen) (rest : List TraceLine) → More t rest → taken rest ≡ 0)
    → MatchBool switch (Joined First More s lines) (More s lines) → taken lines ≡ 0
served true First More s lines first more is = joined First More s lines first more is
served false First More s lines first more is = more s lines is

nodes_serve : (node : ℕ) (devices : List Registers) (s : Seen) (lines : List TraceLine)
    → ServeNodes node devices s lines → taken lines ≡ 0
nodes_serve node [] s lines is = none_of lines [] is refl
nodes_serve node (device ∷ devices) s lines is = served (is_switch device) (ServesAll s node)
    (ServeNodes (suc node) devices) s lines (λ first own. serves own) (nodes_serve (suc node)
    devices) is

round : (s : Seen) (lines : List TraceLine) → Round IsSettle s lines → taken lines ≡ 0
round s lines is = joined (SettleAll IsSettle s.network.links s) (λ t rest. ServeNodes 0
    t.network.registers t rest) s lines (all_settle s.network.links s) (λ t. nodes_serve 0
    t.network.registers t) is

rounds : (n : ℕ) (s : Seen) (lines : List TraceLine) → Rounds IsSettle n s lines → taken lines ≡ 0
rounds zero s lines is = none_of lines [] is refl
rounds (suc n) s lines is = joined (Round IsSettle s) (Rounds IsSettle n) s lines (round s)
    (rounds n) is

-- ---- every block takes no more than its event costs

one_at_most : (s : Seen) (node : ℕ) (body : List ℕ) (block : List TraceLine)
    → SendsBody s node body block → taken block ≤ 1
one_at_most s node body block sends = subst (λ n. n ≤ 1) (sym (ap taken sends.lines))
    (by (room_out s.network (port_of node) (prio_of sends.packet)))
  where
    by : (b : Bool) → taken (if b then Stepped (AtNode (Take node sends.packet)) ∷ [] else Lacked
        Full ∷ []) ≤ 1
    by true = omega arith
    by false = omega arith

none_at_all : (n cost : ℕ) → n ≡ 0 → n ≤ cost
none_at_all n cost is = omega arith

costs : (s : Seen) (links : List (PortRef × PortRef)) (line : Line) (block : List TraceLine)
    → IsBlock s line block → taken block ≤ cost_of links line
costs s links (Lines.Send node prio ftype dest hex) block is = one_at_most s node _ block is
costs s links (Lines.Read node prio dest hop tid offset) block is = one_at_most s node _ block is
costs s links (Lines.Write node prio dest hop tid offset value) block is = one_at_most s node _
    block is
costs s links (Lines.Send16 node prio ftype dest hex) block is = one_at_most s node _ block is
costs s links (Lines.Read16 node prio dest hop tid offset) block is = one_at_most s node _ block
    is
costs s links (Lines.Write16 node prio dest hop tid offset value) block is = one_at_most s node _
    block is
costs s links (Lines.Move node) block is = none_at_all _ _ (none_of block _ is.lines (stepped node
    _))
costs s links (Lines.Collect node) block is = none_at_all _ _ (none_of block _ is.lines
    (collects node _))
costs s links (Lines.Pump port n) block is = none_at_all _ _ (at_peer (peer_of s port) _ block
    (λ q. noted port q (pump_notes A n (link_at s port q))) is)
costs s links (Lines.Deliver port n) block is = none_at_all _ _ (at_peer (peer_of s port) _ block
    (λ q. either (has_chars A n (link_at s port q)) _ _ (noted port q (delivery_notes A n
    (link_at s port q))) refl) is)
costs s links (Lines.Alter port place ch) block is = none_at_all _ _ (none_of block _ is
    (edited s (edit_of (Lines.Alter port place ch))))
costs s links (Lines.Erase port place n) block is = none_at_all _ _ (none_of block _ is
    (edited s (edit_of (Lines.Erase port place n))))
costs s links (Lines.Insert port place ch) block is = none_at_all _ _ (none_of block _ is
    (edited s (edit_of (Lines.Insert port place ch))))
costs s links (Lines.Timeout port) block is = none_at_all _ _ (at_peer (peer_of s port) _ block
    (λ q. either (is_silent (link_at s port q)) _ _ (noted port q (time_out_notes A (link_at s port
    q))) refl) is)
costs s links (Lines.Settle port) block is = none_at_all _ _ (at_link s (link_in s.network.links
    port) block is)
costs s links (Lines.Run n) block is = none_at_all _ _ (rounds n s block is)
costs s links _ block is = absurd is

-- ---- every trace

goes_on : (number cost : ℕ) (found : Option UndetectedAt) (More : List TraceLine
    → Type 0) (rest : List TraceLine) → cost ≤ 100000 → ((lines : List TraceLine) → More lines
    → cost + taken lines ≤ 100000) → Follows found More (Names number) rest
    → cost + taken rest ≤ 100000
goes_on number cost None More rest few more is = more rest is
goes_on number cost (Some found) More rest few more is = let none = none_of rest _ is refl in omega
    arith

few_with : (event : Bool) (known : Known) (line : Numbered) (s : Seen) (More : Seen → List TraceLine
    → Type 0) (lines : List TraceLine) → known.cost + cost_of known.links line.line ≤ 100000
    → ((t : Seen) (rest : List TraceLine) → More t rest
    → (known.cost + cost_of known.links line.line) + taken rest ≤ 100000)
    → MatchBool event (EventThen IsBlock More (Names line.number) s line.line lines)
    (More s lines) → known.cost + taken lines ≤ 100000
few_with true known line s More lines cost more run =
    let t = seen s (Begun line.line ∷ run.0) in
    let own = costs s known.links line.line run.0 run.3 in
    let rest = goes_on line.number (known.cost + cost_of known.links line.line) t.undetected
    (More t) run.1 cost (more t) run.4 in
    let whole = ap taken run.2 ∙ both (Begun line.line ∷ run.0) run.1 in
    omega (arith, own, rest, whole)
few_with false known line s More lines cost more run = let rest = more s lines run in omega
    (arith, rest)

few_from : (known : Known) (names : List (List ℕ)) (script : List Numbered) (s : Seen) (lines : List
    TraceLine) → known.mode ≢ one_event → known.cost ≤ 100000 → PassesFrom known names script
    → RunsFrom s script lines → known.cost + taken lines ≤ 100000
few_from known names [] s lines apart few passes runs = let none = none_of lines _ runs refl in
    omega arith
few_from known names (line ∷ script) s lines apart few passes runs =
    let cost = within_cost known line.line apart passes.1 in
    few_with (is_event line.line) known line s (λ t rest. RunsFrom t script rest) lines cost
    (λ t rest more. few_from (known_after known (new_name names line.line) line.line) names
    script t rest apart cost passes.2 more) runs

pub few_takes : (names : List (List ℕ)) (script : List Numbered) (lines : List TraceLine)
    → ScriptPasses names script → Runs script lines → steps_in takes_by (steps_of lines) ≤ 100000
few_takes names script lines passes runs = let few = few_from nothing names script (start script)
    lines (λ is. absurd cc) (omega arith) passes runs in omega arith
