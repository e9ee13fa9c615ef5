-- A port gets some characters wherever a block of an event says that it got any.
use Rattle.lawful_traces.proofs.Prelude.{◌≡◌, ℕ, zero, suc, ◌≤◌, Bool, true, false, List, [], ◌∷◌, Option, Some, None, if◌then◌else◌, sym, subst, prio_of, Registers, is_switch, A, fits, bursts, Edit, At, acts_notes, pump_notes, delivery_notes, has_chars, is_silent, time_out_notes, Known, MayBe, Line, Send, Read, Write, Pumps, Delivers, Alter, Insert, Erase, Timeout, Settle, MoveOn, Collect, Run, Send16, Read16, Write16, PortRef, link_in, room_out, port_of, Take, AtNode, all-append, Full, Short, Early, TraceLine, Stepped, Lacked, lines_of, take_lines, pumps, delivers, time_out_lines, edits, IsSettle, WithPeer, WithLink, IsBlock, edit_of, seen, UndetectedAt, Seen, peer_of, link_at, Follows, NamesNothing, Joined, SettleAll, ServesAll, ServeRests, ServeGoes, ServeNodes, Round, Rounds, by_test}
use Rattle.switch_core.specs.EndpointSteps.{collected}
use Rattle.switch_core.specs.SwitchSteps.{step_of}
use Rattle.switch_core.specs.declared.endpoint.Collected.{Collected}
use Rattle.switch_core.specs.declared.endpoint.Collected.TheVariants as Collects
use Rattle.switch_core.specs.declared.switch.Step as switch
use Rattle.switch_core.specs.declared.switch.Step.TheVariants.{Moved, Dropped, Answered, Nothing}
use Rattle.fabric_trace.specs.Served.{face_in, faces_in, step_lines, collect_lines}
use Rattle.lawful_traces.proofs.Gots.{GotsSome, AllGotSome, lines_some, sent_some, fired_some, delivery_some, acts_some, settles_some}

-- ---- blocks

pub some_by : {lines other : List TraceLine} → lines ≡ other → AllGotSome other → AllGotSome lines
some_by is some = subst AllGotSome (sym is) some

pub takes_some : (s : Seen) (node : ℕ) (packet : List ℕ) → AllGotSome (take_lines s node packet)
takes_some s node packet = by (room_out s.network (port_of node) (prio_of packet))
  where
    by : (room : Bool) → AllGotSome
        (if room then Stepped (AtNode (Take node packet)) ∷ [] else Lacked Full ∷ [])
    by true = (tt, tt)
    by false = (tt, tt)

step_some : (node : ℕ) (step : switch.Step) → AllGotSome (step_lines node step)
step_some node (Moved from to packet) = (tt, tt)
step_some node (Dropped from packet) = (tt, tt)
step_some node (Answered port request response) = (tt, tt)
step_some node Nothing = (tt, tt)

pub collected_some : (node : ℕ) (what : Collected) → AllGotSome (collect_lines node what)
collected_some node (Collects.Left packet) = (tt, tt)
collected_some node _ = (tt, tt)

delivers_some : (s : Seen) (p : PortRef) (n : ℕ) (q : PortRef) → 1 ≤ n
    → AllGotSome (delivers s p n q)
delivers_some s p n q least = by (has_chars A n (link_at s p q))
  where
    by : (b : Bool) → AllGotSome
        (if b then lines_of p q (delivery_notes A n (link_at s p q)) else Lacked Short ∷ [])
    by true = lines_some p q (delivery_notes A n (link_at s p q))
        (delivery_some A n (link_at s p q) least)
    by false = (tt, tt)

times_out_some : (s : Seen) (p q : PortRef) → AllGotSome (time_out_lines s p q)
times_out_some s p q = by (is_silent (link_at s p q))
  where
    by : (b : Bool) → AllGotSome
        (if b then lines_of p q (time_out_notes A (link_at s p q)) else Lacked Early ∷ [])
    by true = lines_some p q (time_out_notes A (link_at s p q))
        (fired_some A (is_silent (link_at s p q)))
    by false = (tt, tt)

edits_some : (s : Seen) (edit : Option (PortRef × Edit)) → AllGotSome (edits s edit)
edits_some s None = tt
edits_some s (Some edit) = by (fits edit.1 (s.wires edit.0).chars)
  where
    by : (b : Bool) → AllGotSome (if b then [] else Lacked Short ∷ [])
    by true = tt
    by false = (tt, tt)

peer_some : (peer : Option PortRef) (lines : PortRef → List TraceLine) (block : List TraceLine)
    → ((q : PortRef) → AllGotSome (lines q)) → WithPeer peer lines block → AllGotSome block
peer_some None lines block some is = absurd is
peer_some (Some q) lines block some is = some_by is (some q)

pub link_some : (s : Seen) (a b : PortRef) (block : List TraceLine) → IsSettle s a b block
    → AllGotSome block
link_some s a b block is =
    some_by is.lines (lines_some a b (acts_notes (At (link_at s a b)) is.acts)
    (acts_some is.acts (At (link_at s a b))
    (settles_some (At (link_at s a b)) is.acts is.settles)))

with_link_some : (s : Seen) (link : Option (PortRef × PortRef)) (block : List TraceLine)
    → WithLink link (IsSettle s) block → AllGotSome block
with_link_some s None block is = absurd is
with_link_some s (Some link) block is = link_some s link.0 link.1 block is

follows_some : (found : Option UndetectedAt) (More : List TraceLine → Type 0)
    (rest : List TraceLine) → (More rest → AllGotSome rest) → Follows found More NamesNothing rest
    → AllGotSome rest
follows_some None More rest more follows = more follows
follows_some (Some e) More rest more follows = some_by follows tt

pub joined_some : (s : Seen) (First : List TraceLine → Type 0)
    (More : Seen → List TraceLine → Type 0) (block : List TraceLine)
    → ((first : List TraceLine) → First first → AllGotSome first)
    → ((t : Seen) (rest : List TraceLine) → More t rest → AllGotSome rest)
    → Joined First More s block → AllGotSome block
joined_some s First More block one more joined =
    let t = seen s joined.0 in
    some_by joined.2 (all-append GotsSome joined.0 joined.1 (one joined.0 joined.3)
    (follows_some t.undetected (More t) joined.1 (more t joined.1) joined.4))

settle_all_some : (links : List (PortRef × PortRef)) (s : Seen) (block : List TraceLine)
    → SettleAll IsSettle links s block → AllGotSome block
settle_all_some [] s block is = some_by is tt
settle_all_some (link ∷ links) s block is =
    joined_some s (IsSettle s link.0 link.1) (SettleAll IsSettle links) block
    (link_some s link.0 link.1) (settle_all_some links) is

serves_some : {s : Seen} {node : ℕ} {block : List TraceLine} → ServesAll s node block
    → AllGotSome block
serves_some (ServeRests move is) = some_by is tt
serves_some (ServeGoes step rest move is more) = some_by is (tt, serves_some more)

pub nodes_some : (devices : List Registers) (node : ℕ) (s : Seen) (block : List TraceLine)
    → ServeNodes node devices s block → AllGotSome block
nodes_some [] node s block is = some_by is tt
nodes_some (device ∷ devices) node s block is =
    by_test (is_switch device)
    (joined_some s (ServesAll s node) (ServeNodes (suc node) devices) block
    (λ first own. serves_some own) (nodes_some devices (suc node)))
    (nodes_some devices (suc node) s block) is

round_some : (s : Seen) (block : List TraceLine) → Round IsSettle s block → AllGotSome block
round_some s block is =
    joined_some s (SettleAll IsSettle s.network.links s)
    (λ t rest. ServeNodes 0 t.network.registers t rest) block
    (settle_all_some s.network.links s) (λ t. nodes_some t.network.registers 0 t) is

rounds_some : (n : ℕ) (s : Seen) (block : List TraceLine) → Rounds IsSettle n s block
    → AllGotSome block
rounds_some zero s block is = some_by is tt
rounds_some (suc n) s block is =
    joined_some s (Round IsSettle s) (Rounds IsSettle n) block (round_some s) (rounds_some n) is

pub block_some : (known : Known) (new : List ℕ) (s : Seen) (line : Line) (block : List TraceLine)
    → MayBe known new line → IsBlock s line block → AllGotSome block
block_some known new s (Send node prio ftype dest hex) block may is =
    some_by is.lines (takes_some s node is.packet)
block_some known new s (Read node prio dest hop tid offset) block may is =
    some_by is.lines (takes_some s node is.packet)
block_some known new s (Write node prio dest hop tid offset value) block may is =
    some_by is.lines (takes_some s node is.packet)
block_some known new s (Send16 node prio ftype dest hex) block may is =
    some_by is.lines (takes_some s node is.packet)
block_some known new s (Read16 node prio dest hop tid offset) block may is =
    some_by is.lines (takes_some s node is.packet)
block_some known new s (Write16 node prio dest hop tid offset value) block may is =
    some_by is.lines (takes_some s node is.packet)
block_some known new s (Pumps port n) block may is =
    peer_some (peer_of s port) (pumps s port n) block
    (λ q. lines_some port q (pump_notes A n (link_at s port q))
    (sent_some A (bursts n (link_at s port q).a).chars)) is
block_some known new s (Delivers port n) block may is =
    peer_some (peer_of s port) (delivers s port n) block
    (λ q. delivers_some s port n q may.fit.1.0.0) is
block_some known new s (Alter port place ch) block may is =
    some_by is (edits_some s (edit_of (Alter port place ch)))
block_some known new s (Insert port place ch) block may is =
    some_by is (edits_some s (edit_of (Insert port place ch)))
block_some known new s (Erase port place n) block may is =
    some_by is (edits_some s (edit_of (Erase port place n)))
block_some known new s (Timeout port) block may is =
    peer_some (peer_of s port) (time_out_lines s port) block (times_out_some s port) is
block_some known new s (Settle port) block may is =
    with_link_some s (link_in s.network.links port) block is
block_some known new s (MoveOn node) block may is =
    some_by is.lines (step_some node (step_of is.device (faces_in s.network node is.device)))
block_some known new s (Collect node) block may is =
    some_by is.lines (collected_some node
    (collected is.device (face_in s.network (port_of node))))
block_some known new s (Run n) block may is = rounds_some n s block is
block_some known new s _ block may is = absurd is
