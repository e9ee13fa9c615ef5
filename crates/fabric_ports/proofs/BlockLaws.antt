-- What is done on a link is the block of the event that asks for it.
use Rattle.std.proofs.Common.{◌≡◌, ℕ, Bool, true, false, List, [], ◌∷◌, ◌++◌, take, Option, Some, refl, sym, ap, ◌∙◌, subst, append-nil, if◌then◌else◌}
use Rattle.link_model.specs.declared.event.Event.{Event}
use Rattle.link_watch.specs.Sides.{other_side}
use Rattle.link_watch.specs.declared.note.Note.{Note}
use Rattle.link_watch.specs.declared.note.Note.TheVariants as Notes
use Rattle.link_watch.specs.declared.side.Side.{Side}
use Rattle.link_watch.specs.declared.side.Side.TheVariants.{A, B}
use Rattle.link_wires.specs.Wires.{bursts}
use Rattle.link_wires.specs.Deliveries.{told_of}
use Rattle.link_machine.specs.Calls.{pump_notes, has_chars, told_notes, delivery_from, delivered_from, delivery_notes, is_silent, time_out_notes}
use Rattle.link_machine.specs.States.{LinkState}
use Rattle.link_machine.specs.Acts as acts
use Rattle.link_machine.specs.Acts.{Act, At, FoundAt, reached_by, after_act, act_notes, acts_notes, goes}
use Rattle.link_machine.proofs.Settling.Lines.{goes_one}
use Rattle.fabric_script.specs.declared.ports.PortRef.{PortRef}
use Rattle.fabric_model.specs.Network.{peer_in, link_in}
use Rattle.fabric_model.proofs.Peers.{ArePeers}
use Rattle.trace_lines.specs.Lines as traced
use Rattle.trace_lines.specs.Lines.{TraceLine, Lacked}
use Rattle.fabric_trace.specs.Known.{Seen, peer_of, port_seen, link_at}
use Rattle.fabric_trace.specs.Fold.{edit_of, edited_by, seen}
use Rattle.trace_lines.specs.Notes.{port_at_side, lines_of}
use Rattle.fabric_trace.specs.Blocks.{pumps, delivers, time_out_lines, IsSettle, WithPeer, WithLink, IsBlock}
use Rattle.fabric_trace.proofs.Parts.Folding.{seen-append}
use Rattle.fabric_trace.proofs.Parts.Making.{sent_round, delivery_round}
use Rattle.fabric_trace.proofs.Rounds.Running.{fired_round, silent_round}
use Rattle.fabric_script.specs.Operations.{line_for}
use Rattle.fabric_ports.specs.Acting.{part_of, answer_of, lack_lines}
use Rattle.fabric_ports.specs.declared.actions.Acted.{Acted}
use Rattle.fabric_ports.specs.declared.actions.Acted.TheVariants.{Done, Short, Early}
use Rattle.fabric_script.specs.declared.operations.Action.{Action}
use Rattle.fabric_script.specs.declared.operations.Action.TheVariants.{Pump, Deliver, TimeOut, Settle}

-- the block: the lines of what is noted, and of what is not there
abbrev pub block_of : PortRef → PortRef → LinkState → List Act → Acted → List TraceLine
block_of a b l acts answer = lines_of a b (acts_notes (At l) acts) ++ lack_lines answer

pub lack_seen : (s : Seen) (lines : List TraceLine) (answer : Acted)
    → seen s (lines ++ lack_lines answer) ≡ seen s lines
lack_seen s lines Done = ap (seen s) (append-nil lines)
lack_seen s lines Short = seen-append s lines (Lacked traced.Short ∷ [])
lack_seen s lines Early = seen-append s lines (Lacked traced.Early ∷ [])

-- no action of a link edits a wire
pub begun_same : (s : Seen) (port : PortRef) (action : Action)
    → edited_by s (edit_of (line_for port action)) ≡ s
begun_same s port (Pump turns) = refl
begun_same s port (Deliver count) = refl
begun_same s port TimeOut = refl
begun_same s port Settle = refl

one_noted : (l : LinkState) (act : Act) → acts_notes (At l) (act ∷ []) ≡ act_notes act l
unfolding acts_notes
one_noted l act = append-nil (act_notes act l)

-- ---- by the end at which it is done

-- the peer of a port at this end of a link
pub peer_at : (links : List (PortRef × PortRef)) (a b : PortRef) (side : Side) → ArePeers links a b
    → peer_in links (port_at_side a b side) ≡ Some (port_at_side a b (other_side side))
peer_at links a b A peers = peers.there
peer_at links a b B peers = peers.back

pumps_at : (s : Seen) (a b : PortRef) (side : Side) (n : ℕ)
    → lines_of a b (pump_notes side n (link_at s a b)) ≡ pumps s (port_at_side a b side) n
    (port_at_side a b (other_side side))
pumps_at s a b A n = refl
pumps_at s a b B n = sent_round a b (bursts n (port_seen s b)).chars

delivers_first : (s : Seen) (a b : PortRef) (n : ℕ)
    → lines_of a b (delivery_notes A n (link_at s a b)) ++ lack_lines
    (answer_of A (Deliver n) (link_at s a b)) ≡ delivers s a n b
delivers_first s a b n =
    let notes = told_notes B (take n (s.wires a).chars)
    (told_of (delivery_from A n (link_at s a b))) in
    elim (has_chars A n (link_at s a b)) as
    (λ x. lines_of a b (if x then notes else []) ++ lack_lines (if x then Done else Short)
    ≡ (if x then lines_of a b (if x then notes else []) else Lacked traced.Short ∷ [])) [
      | true ↦ append-nil (lines_of a b notes)
      | false ↦ refl
    ]

delivers_at : (s : Seen) (a b : PortRef) (side : Side) (n : ℕ)
    → lines_of a b (delivery_notes side n (link_at s a b)) ++ lack_lines
    (answer_of side (Deliver n) (link_at s a b))
    ≡ delivers s (port_at_side a b side) n (port_at_side a b (other_side side))
delivers_at s a b A n = delivers_first s a b n
delivers_at s a b B n =
    ap (λ (lines : List TraceLine). lines ++ lack_lines (answer_of B (Deliver n) (link_at s a b)))
    (delivery_round a b n (link_at s a b))
    ∙ delivers_first s b a n

times_first : (s : Seen) (a b : PortRef)
    → lines_of a b (time_out_notes A (link_at s a b)) ++ lack_lines
    (answer_of A TimeOut (link_at s a b)) ≡ time_out_lines s a b
times_first s a b =
    elim (is_silent (link_at s a b)) as
    (λ x. lines_of a b (if x then Notes.Fire A ∷ [] else []) ++ lack_lines
    (if x then Done else Early)
    ≡ (if x then lines_of a b (if x then Notes.Fire A ∷ [] else [])
    else Lacked traced.Early ∷ [])) [
      | true ↦ refl
      | false ↦ refl
    ]

times_at : (s : Seen) (a b : PortRef) (side : Side)
    → lines_of a b (time_out_notes side (link_at s a b)) ++ lack_lines
    (answer_of side TimeOut (link_at s a b))
    ≡ time_out_lines s (port_at_side a b side) (port_at_side a b (other_side side))
times_at s a b A = times_first s a b
times_at s a b B =
    (λ i. fired_round a b (link_at s a b) i ++ lack_lines
    (if silent_round (link_at s a b) i then Done else Early))
    ∙ times_first s b a

-- ---- the block

with_peer : (peer : Option PortRef) (q : PortRef) (lines : PortRef → List TraceLine)
    (block : List TraceLine) → peer ≡ Some q → block ≡ lines q → WithPeer peer lines block
with_peer peer q lines block is same =
    subst (λ (o : Option PortRef). WithPeer o lines block) (sym is) same

with_link : (link : Option (PortRef × PortRef)) (a b : PortRef) (Block : PortRef → PortRef
    → List TraceLine → Type 0) (block : List TraceLine) → link ≡ Some (a, b) → Block a b block
    → WithLink link Block block
with_link link a b Block block is own =
    subst (λ (o : Option (PortRef × PortRef)). WithLink o Block block) (sym is) own

-- by an act that is done alone
abbrev AloneAt : Seen → PortRef → PortRef → Act → Acted → List Act → List TraceLine → Type 0
AloneAt s a b act answer acts lines = acts ≡ act ∷ []
    → block_of a b (link_at s a b) acts answer ≡ lines

alone : (s : Seen) (a b : PortRef) (act : Act) (answer : Acted) (acts : List Act)
    (lines : List TraceLine)
    → lines_of a b (act_notes act (link_at s a b)) ++ lack_lines answer ≡ lines
    → AloneAt s a b act answer acts lines
alone s a b act answer acts lines is same =
    ap (λ (l : List Act). block_of a b (link_at s a b) l answer) same
    ∙ ap (λ (notes : List Note). lines_of a b notes ++ lack_lines answer)
    (one_noted (link_at s a b) act) ∙ is

pub block_is : (s : Seen) (a b : PortRef) (side : Side) (action : Action) (acts : List Act)
    → ArePeers s.network.links a b → link_in s.network.links (port_at_side a b side) ≡ Some (a, b)
    → part_of side action (At (link_at s a b)) acts
    → IsBlock s (line_for (port_at_side a b side) action)
    (block_of a b (link_at s a b) acts (answer_of side action (link_at s a b)))
block_is s a b side (Pump n) all peers found part =
    with_peer (peer_of s (port_at_side a b side)) (port_at_side a b (other_side side))
    (pumps s (port_at_side a b side) n) _ (peer_at s.network.links a b side peers)
    (alone s a b (acts.Pump side n) Done all _
    (append-nil (lines_of a b (pump_notes side n (link_at s a b))) ∙ pumps_at s a b side n)
    part)
block_is s a b side (Deliver n) all peers found part =
    with_peer (peer_of s (port_at_side a b side)) (port_at_side a b (other_side side))
    (delivers s (port_at_side a b side) n) _ (peer_at s.network.links a b side peers)
    (alone s a b (acts.Deliver side n) (answer_of side (Deliver n) (link_at s a b)) all _
    (delivers_at s a b side n) part)
block_is s a b side TimeOut all peers found part =
    with_peer (peer_of s (port_at_side a b side)) (port_at_side a b (other_side side))
    (time_out_lines s (port_at_side a b side)) _ (peer_at s.network.links a b side peers)
    (alone s a b (acts.Fire side) (answer_of side TimeOut (link_at s a b)) all _
    (times_at s a b side) part)
block_is s a b side Settle all peers found part =
    with_link (link_in s.network.links (port_at_side a b side)) a b (IsSettle s) _ found
    (record {
      acts = all;
      settles = part;
      lines =
          append-nil (lines_of a b (acts_notes (At (link_at s a b)) all));
    })

-- ---- an event that was not sent

found_full : (side : Side) (n : ℕ) (l : LinkState) (to : Side) (e : Event)
    → after_act (acts.Deliver side n) l ≡ FoundAt to e → answer_of side (Deliver n) l ≡ Done
found_full side n l to e is = by_chars (has_chars side n l) refl
  where
    by_chars : (has : Bool) → has_chars side n l ≡ has → answer_of side (Deliver n) l ≡ Done
    by_chars true has = ap (λ x. if x then Done else Short) has
    by_chars false has =
        let stays : after_act (acts.Deliver side n) l ≡ At l =
        ap (λ x. if x then reached_by (other_side side) (delivered_from side n l)
        (delivery_from side n l) else At l) has in
        absurd (cc (stays, is))

-- it is found where something was done
pub found_done : (side : Side) (action : Action) (l : LinkState) (acts : List Act) (to : Side)
    (e : Event) → part_of side action (At l) acts → goes (At l) acts ≡ FoundAt to e
    → answer_of side action l ≡ Done
found_done side (Pump n) l all to e part is = refl
found_done side (Deliver n) l all to e part is =
    found_full side n l to e (sym (goes_one l (acts.Deliver side n)) ∙ ap (goes (At l)) (sym part)
    ∙ is)
found_done side TimeOut l all to e part is =
    let stays = goes_one l (acts.Fire side) in
    let same = ap (goes (At l)) part in
    absurd (cc (stays, same, is))
found_done side Settle l all to e part is = refl
