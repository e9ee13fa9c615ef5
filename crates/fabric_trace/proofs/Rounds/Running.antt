-- Blocks and runs are made of parts; what a script sets up is good.
use Rattle.fabric_trace.proofs.Prelude.{◌≡◌, ℕ, Bool, true, false, List, [], ◌∷◌, Option, Some, None, refl, ap, if◌then◌else◌, prio_of, Passes, Passes-from_form, A, fits, Edit, has_chars, delivery_notes, is_silent, time_out_notes, is_event, Moved, Dropped, Answered, Nothing, Collected, step_of, collected, PortRef, Line, Numbered, IsEndpoint, link_in, port_of, room_out, Take, Leave, MoveOn, Drop, Answer, AtNode, ArePeers, link_peers, few_prio, TraceLine, Begun, Stepped, Lacked, Full, Empty, Short, Early, NoStep, Seen, UndetectedAt, peer_of, link_at, edit_of, edited_by, seen, face_in, faces_in, step_lines, ResponseHasForm, IsMove, collect_lines, HasResponseForm, IsCollect, lines_of, take_lines, SendsBody, pumps, delivers, time_out_lines, edits, IsSettle, WithPeer, WithLink, IsBlock, Follows, Rounds, BlockThen, Names, RunsFrom, PartBegins, PartLacks, PartEnds, PartNames, PartSteps, PartServes, PartTurns, PartDelivers, PartFires, Made, Done, Then}
use Rattle.switch_core.specs.declared.switch.Step as switch
use Rattle.switch_core.specs.declared.endpoint.Collected.TheVariants as Collects
use Rattle.fabric_script.specs.declared.lines.Line.TheVariants.{Send, Read, Write, Pump, Deliver, Alter, Insert, Erase, Timeout, Settle, Move, Collect, Run, Send16, Read16, Write16}
use Rattle.fabric_trace.proofs.Network.Faces.{StepNeeds, step_needs, CollectNeeds, collect_needs}
use Rattle.fabric_trace.proofs.Parts.Keeping.{IsGood, good_by_priority, made_keeps}
use Rattle.fabric_trace.proofs.Parts.Making.{one_part, made-append, made_by}
use Rattle.fabric_trace.proofs.Rounds.Blocks.{by_test, rounds_come}
pub use Rattle.fabric_trace.proofs.Links.EitherEnd.{acts_reach, fired_round, silent_round}

-- ---- blocks

takes_made : (s : Seen) (node : ℕ) (packet : List ℕ) → IsEndpoint s.network node → Passes packet
    → Made s (take_lines s node packet)
takes_made s node packet endpoint passes =
    by_room (room_out s.network (port_of node) (prio_of packet)) refl
  where
    by_room : (x : Bool) → room_out s.network (port_of node) (prio_of packet) ≡ x
        → Made s (if x then Stepped (AtNode (Take node packet)) ∷ [] else Lacked Full ∷ [])
    by_room true is =
        one_part (PartSteps (Take node packet) (endpoint, passes, is) (few_prio packet passes) refl)
    by_room false is = one_part (PartLacks Full refl)

sends_made : (s : Seen) (node : ℕ) (body : List ℕ) (block : List TraceLine)
    → SendsBody s node body block → Made s block
sends_made s node body block is =
    made_by is.lines (takes_made s node is.packet is.endpoint
    (Passes-from_form body is.packet is.form))

-- a switch makes a step, or none of its packets can go
step_made : (s : Seen) (node : ℕ) (step : switch.Step) → ResponseHasForm step
    → StepNeeds s.network node step → Made s (step_lines node step)
step_made s node (Moved from to packet) form needs =
    one_part (PartServes (MoveOn (record {
      node = node;
      port = from;
    }) (record { node = node; port = to }) packet) needs refl)
step_made s node (Dropped from packet) form needs =
    one_part (PartServes (Drop (record { node = node; port = from }) packet) needs refl)
step_made s node (Answered port request response) form needs =
    one_part (PartServes (Answer (record {
      node = node;
      port = port;
    }) request response) (needs form) refl)
step_made s node Nothing form needs = one_part (PartLacks NoStep refl)

pub move_made : (s : Seen) (node : ℕ) (block : List TraceLine) → IsGood s
    → IsMove s.network node block → Made s block
move_made s node block good is =
    let net = s.network in
    made_by is.lines (step_made s node (step_of is.device (faces_in net node is.device)) is.form
    (step_needs net node is.device (good_by_priority good) is.stands is.switch))

-- an endpoint collects a packet, or there is none, or no room for its answer
collected_made : (s : Seen) (node : ℕ) (what : Collected) → HasResponseForm what
    → CollectNeeds s.network node what → Made s (collect_lines node what)
collected_made s node (Collects.Left packet) form needs =
    one_part (PartSteps (Leave node packet) needs.1 needs.0 refl)
collected_made s node (Collects.Answered request response) form needs =
    one_part (PartServes (Answer (port_of node) request response) (needs form) refl)
collected_made s node Collects.Empty form needs = one_part (PartLacks Empty refl)
collected_made s node Collects.Full form needs = one_part (PartLacks Full refl)

collect_made : (s : Seen) (node : ℕ) (block : List TraceLine) → IsGood s
    → IsCollect s.network node block → Made s block
collect_made s node block good is =
    let net = s.network in
    made_by is.lines (collected_made s node (collected is.device (face_in net (port_of node)))
    is.form
    (collect_needs net node is.device (good_by_priority good) is.stands is.endpoint))

peer_made : (s : Seen) (p : PortRef) (peer : Option PortRef) (lines : PortRef → List TraceLine)
    (block : List TraceLine) → peer_of s p ≡ peer → WithPeer peer lines block
    → ((q : PortRef) → peer_of s p ≡ Some q → Made s (lines q)) → Made s block
peer_made s p None lines block is with made = absurd with
peer_made s p (Some q) lines block is with made = made_by with (made q is)

delivers_made : (s : Seen) (p : PortRef) (n : ℕ) (q : PortRef) → s.undetected ≡ None
    → peer_of s p ≡ Some q → Made s (delivers s p n q)
delivers_made s p n q none peer = by_chars (has_chars A n (link_at s p q)) refl
  where
    by_chars : (x : Bool) → has_chars A n (link_at s p q) ≡ x → Made s (delivers s p n q)
    by_chars true is =
        one_part (PartDelivers p q n peer none is
        (ap (λ x. if x then lines_of p q (delivery_notes A n (link_at s p q)) else Lacked Short
        ∷ []) is))
    by_chars false is =
        one_part (PartLacks Short (ap
        (λ x. if x then lines_of p q (delivery_notes A n (link_at s p q)) else Lacked Short ∷ [])
        is))

times_out_made : (s : Seen) (p q : PortRef) → s.undetected ≡ None → peer_of s p ≡ Some q
    → Made s (time_out_lines s p q)
times_out_made s p q none peer = by_silence (is_silent (link_at s p q)) refl
  where
    by_silence : (x : Bool) → is_silent (link_at s p q) ≡ x → Made s (time_out_lines s p q)
    by_silence true is =
        one_part (PartFires p q peer none is
        (ap (λ x. if x then lines_of p q (time_out_notes A (link_at s p q)) else Lacked Early ∷ [])
        is))
    by_silence false is =
        one_part (PartLacks Early (ap
        (λ x. if x then lines_of p q (time_out_notes A (link_at s p q)) else Lacked Early ∷ []) is))

edits_made : (s t : Seen) (edit : Option (PortRef × Edit)) → Made t (edits s edit)
edits_made s t None = Done refl
edits_made s t (Some edit) =
    elim (fits edit.1 (s.wires edit.0).chars) as (λ x. Made t
    (if x then [] else Lacked Short ∷ [])) [
      | true ↦ Done refl
      | false ↦
          one_part (PartLacks Short refl)
    ]

pub link_made : (s : Seen) (a b : PortRef) (block : List TraceLine) → IsGood s → s.undetected ≡ None
    → ArePeers s.network.links a b → IsSettle s a b block → Made s block
link_made s a b block good none peers settles =
    made_by settles.lines (acts_reach settles.acts s a b good none peers).made

settle_made : (s : Seen) (port : PortRef) (link : Option (PortRef × PortRef))
    (block : List TraceLine) → IsGood s → s.undetected ≡ None → link_in s.network.links port ≡ link
    → WithLink link (IsSettle s) block → Made s block
settle_made s port None block good none is settles = absurd settles
settle_made s port (Some link) block good none is settles =
    link_made s link.0 link.1 block good none (link_peers s.network.links port link good.proper is)
    settles

rounds_made : (s : Seen) (n : ℕ) (block : List TraceLine) → IsGood s → s.undetected ≡ None
    → Rounds IsSettle n s block → Made s block
rounds_made s n block good none rounds =
    (rounds_come IsSettle IsSettle
    (λ s a b lines good none peers
    settles. (link_made s a b lines good none peers settles, settles)) move_made n s block good none
    rounds).0

pub block_made : (line : Line) (s : Seen) (block : List TraceLine) → IsGood s → s.undetected ≡ None
    → IsBlock s line block → Made (edited_by s (edit_of line)) block
block_made (Send node prio ftype dest hex) s block good none is = sends_made s node _ block is
block_made (Read node prio dest hop tid offset) s block good none is = sends_made s node _ block is
block_made (Write node prio dest hop tid offset value) s block good none is =
    sends_made s node _ block is
block_made (Send16 node prio ftype dest hex) s block good none is = sends_made s node _ block is
block_made (Read16 node prio dest hop tid offset) s block good none is =
    sends_made s node _ block is
block_made (Write16 node prio dest hop tid offset value) s block good none is =
    sends_made s node _ block is
block_made (Pump port n) s block good none is =
    peer_made s port (peer_of s port) (pumps s port n) block refl is
    (λ q peer. one_part (PartTurns port q n peer none refl))
block_made (Deliver port n) s block good none is =
    peer_made s port (peer_of s port) (delivers s port n) block refl is
    (λ q peer. delivers_made s port n q none peer)
block_made (Alter port place ch) s block good none is =
    made_by is (edits_made s _ (edit_of (Alter port place ch)))
block_made (Insert port place ch) s block good none is =
    made_by is (edits_made s _ (edit_of (Insert port place ch)))
block_made (Erase port place n) s block good none is =
    made_by is (edits_made s _ (edit_of (Erase port place n)))
block_made (Timeout port) s block good none is =
    peer_made s port (peer_of s port) (time_out_lines s port) block refl is
    (λ q peer. times_out_made s port q none peer)
block_made (Settle port) s block good none is =
    settle_made s port (link_in s.network.links port) block good none refl is
block_made (Move node) s block good none is = move_made s node block good is
block_made (Collect node) s block good none is = collect_made s node block good is
block_made (Run n) s block good none is = rounds_made s n block good none is
block_made _ s block good none is = absurd is

-- ---- runs

follows_made : (t : Seen) (found : Option UndetectedAt) (More : List TraceLine → Type 0)
    (number : ℕ)
    (rest : List TraceLine) → t.undetected ≡ found
    → (t.undetected ≡ None → More rest → Made t rest) → Follows found More (Names number) rest
    → Made t rest
follows_made t None More number rest is more follows = more is follows
follows_made t (Some found) More number rest is more follows =
    one_part (PartNames number found.port found.event is follows)

event_made : (s : Seen) (line : Line) (number : ℕ) (More : Seen → List TraceLine → Type 0)
    (lines : List TraceLine) → IsGood s → s.undetected ≡ None
    → ((t : Seen) (rest : List TraceLine) → IsGood t → t.undetected ≡ None → More t rest
    → Made t rest) → BlockThen More (Names number) s line lines → Made s lines
event_made s line number More lines good none more run =
    let block = run.0 in
    let t = seen s (Begun line ∷ block) in
    let begun : Made s (Begun line ∷ block) =
    Then (Begun line ∷ []) block refl (PartBegins line refl)
    (block_made line s block good none run.3) in
    let kept = made_keeps good begun in
    made_by run.2 (made-append begun
    (follows_made t t.undetected (More t) number run.1 refl
    (λ still follows. more t run.1 kept.good still follows) run.4))

pub runs_made : (script : List Numbered) (s : Seen) (lines : List TraceLine) → IsGood s
    → s.undetected ≡ None → RunsFrom s script lines → Made s lines
runs_made [] s lines good none run = one_part (PartEnds run)
runs_made (line ∷ script) s lines good none run =
    by_test (is_event line.line)
    (event_made s line.line line.number (λ t rest. RunsFrom t script rest) lines good none
    (λ t rest g still more. runs_made script t rest g still more))
    (λ more. runs_made script s lines good none more) run
