-- A script has at most one trace: each part of a run determines its lines.
use Rattle.fabric_trace.proofs.Prelude.{◌≡◌, ℕ, zero, suc, Bool, true, false, List, [], ◌∷◌, ◌++◌, Option, Some, None, MatchBool, slice_get, sym, ap, ◌∙◌, subst, append_assoc, LinkForm-one, At, acts_notes, Registers, is_switch, step_of, collected, is_event, PortRef, Line, Numbered, Network, link_in, port_of, ByDevice, NoStep, TraceLine, Begun, Stepped, Lacked, UndetectedAt, Seen, peer_of, link_at, seen_line, seen, face_in, faces_in, step_lines, IsMove, collect_lines, IsCollect, lines_of, take_lines, SendsBody, pumps, delivers, time_out_lines, IsSettle, WithPeer, WithLink, IsBlock, Follows, NamesNothing, Joined, SettleAll, ServesAll, ServeRests, ServeGoes, ServeNodes, Round, Rounds, start, BlockThen, Names, RunsFrom, Runs, BlocksFrom, Begins}
use Rattle.link_machine.proofs.Settling.OneWay.{AtMostOne, match_one, settles_one}
use Rattle.fabric_script.specs.declared.lines.Line.TheVariants.{Send, Read, Write, Pump, Deliver, Alter, Insert, Erase, Timeout, Settle, Move, Collect, Run, Send16, Read16, Write16}
use Rattle.fabric_model.specs.Laws.Freeing.{IsFront}

-- ---- blocks

send_one : (s : Seen) (node : ℕ) (body : List ℕ) → AtMostOne (SendsBody s node body)
send_one s node body x y p q =
    p.lines ∙ (ap (take_lines s node) (LinkForm-one body p.packet q.packet p.form q.form)
    ∙ sym q.lines)

-- a node has one device
device_one : (found : Option Registers) (a b : Registers) → found ≡ Some a → found ≡ Some b → a ≡ b
device_one found a b is other = let same : Some a ≡ Some b = sym is ∙ other in cc

move_one : (net : Network) (node : ℕ) → AtMostOne (IsMove net node)
move_one net node x y p q =
    p.lines ∙ (ap (λ device. step_lines node (step_of device (faces_in net node device)))
    (device_one (slice_get net.registers node) p.device q.device p.stands q.stands) ∙ sym q.lines)

collect_one : (net : Network) (node : ℕ) → AtMostOne (IsCollect net node)
collect_one net node x y p q =
    p.lines ∙ (ap (λ device. collect_lines node (collected device (face_in net (port_of node))))
    (device_one (slice_get net.registers node) p.device q.device p.stands q.stands) ∙ sym q.lines)

settle_one : (s : Seen) (a b : PortRef) → AtMostOne (IsSettle s a b)
settle_one s a b x y p q =
    p.lines ∙ (ap (λ acts. lines_of a b (acts_notes (At (link_at s a b)) acts))
    (settles_one (At (link_at s a b)) p.acts q.acts p.settles q.settles) ∙ sym q.lines)

peer_one : (peer : Option PortRef) (lines : PortRef → List TraceLine)
    → AtMostOne (WithPeer peer lines)
peer_one None lines x y f g = absurd f
peer_one (Some q) lines x y f g = f ∙ sym g

link_one : (link : Option (PortRef × PortRef)) (Block : PortRef → PortRef → List TraceLine → Type 0)
    → ((a b : PortRef) → AtMostOne (Block a b)) → AtMostOne (WithLink link Block)
link_one None Block one x y f g = absurd f
link_one (Some link) Block one x y f g = one link.0 link.1 x y f g

-- ---- rounds

follows_one : (found : Option UndetectedAt) (More : List TraceLine → Type 0)
    (Last : UndetectedAt → List TraceLine → Type 0)
    → AtMostOne More → ((e : UndetectedAt) → AtMostOne (Last e))
    → AtMostOne (Follows found More Last)
follows_one None More Last one two = one
follows_one (Some e) More Last one two = two e

joined_one : (s : Seen) (First : List TraceLine → Type 0) (More : Seen → List TraceLine → Type 0)
    → AtMostOne First → ((t : Seen) → AtMostOne (More t)) → AtMostOne (Joined First More s)
joined_one s First More one more x y p q =
    let first = one p.0 q.0 p.3 q.3 in
    let t = seen s q.0 in
    let rest =
    follows_one t.undetected (More t) NamesNothing (more t) (λ e a b f g. f ∙ sym g) p.1 q.1
    (subst (λ l. Follows (seen s l).undetected (More (seen s l)) NamesNothing p.1) first p.4) q.4 in
    cc

settle_all_one : (links : List (PortRef × PortRef)) (s : Seen)
    → AtMostOne (SettleAll IsSettle links s)
settle_all_one [] s x y f g = f ∙ sym g
settle_all_one (link ∷ links) s x y f g =
    joined_one s (IsSettle s link.0 link.1) (SettleAll IsSettle links) (settle_one s link.0 link.1)
    (settle_all_one links) x y f g

serves_one : {s : Seen} {node : ℕ} {x y : List TraceLine} → ServesAll s node x → ServesAll s node y
    → x ≡ y
serves_one (ServeRests move e) (ServeRests other f) = e ∙ sym f
serves_one {s} {node} (ServeRests move e) (ServeGoes step rest other f more) =
    let same =
    move_one s.network node (Lacked NoStep ∷ []) (Stepped (ByDevice step) ∷ []) move other in
    absurd (cc)
serves_one {s} {node} (ServeGoes step rest move e more) (ServeRests other f) =
    let same =
    move_one s.network node (Lacked NoStep ∷ []) (Stepped (ByDevice step) ∷ []) other move in
    absurd (cc)
serves_one {s} {node} (ServeGoes step rest move e more) (ServeGoes step2 rest2 other f more2) =
    let same =
    move_one s.network node (Stepped (ByDevice step2) ∷ []) (Stepped (ByDevice step) ∷ []) other
    move in
    let is : step2 ≡ step = cc in
    let after =
    serves_one more (subst (λ x. ServesAll (seen_line s (Stepped (ByDevice x))) node rest2) is
    more2) in
    cc

nodes_one : (devices : List Registers) (node : ℕ) (s : Seen) → AtMostOne (ServeNodes node devices s)
nodes_one [] node s x y f g = f ∙ sym g
nodes_one (device ∷ devices) node s x y f g =
    match_one (is_switch device) (Joined (ServesAll s node) (ServeNodes (suc node) devices) s)
    (ServeNodes (suc node) devices s)
    (joined_one s (ServesAll s node) (ServeNodes (suc node) devices) (λ a b h k. serves_one h k)
    (nodes_one devices (suc node)))
    (nodes_one devices (suc node) s) x y f g

round_one : (s : Seen) → AtMostOne (Round IsSettle s)
round_one s x y f g =
    joined_one s (SettleAll IsSettle s.network.links s)
    (λ t rest. ServeNodes 0 t.network.registers t rest)
    (settle_all_one s.network.links s) (λ t. nodes_one t.network.registers 0 t) x y f g

rounds_one : (n : ℕ) (s : Seen) → AtMostOne (Rounds IsSettle n s)
rounds_one zero s x y f g = f ∙ sym g
rounds_one (suc n) s x y f g =
    joined_one s (Round IsSettle s) (Rounds IsSettle n) (round_one s) (rounds_one n) x y f g

pub block_one : (line : Line) (s : Seen) → AtMostOne (IsBlock s line)
block_one (Send node prio ftype dest hex) s x y f g = send_one s node _ x y f g
block_one (Read node prio dest hop tid offset) s x y f g = send_one s node _ x y f g
block_one (Write node prio dest hop tid offset value) s x y f g = send_one s node _ x y f g
block_one (Send16 node prio ftype dest hex) s x y f g = send_one s node _ x y f g
block_one (Read16 node prio dest hop tid offset) s x y f g = send_one s node _ x y f g
block_one (Write16 node prio dest hop tid offset value) s x y f g = send_one s node _ x y f g
block_one (Pump port n) s x y f g = peer_one (peer_of s port) (pumps s port n) x y f g
block_one (Deliver port n) s x y f g = peer_one (peer_of s port) (delivers s port n) x y f g
block_one (Alter port place ch) s x y f g = f ∙ sym g
block_one (Insert port place ch) s x y f g = f ∙ sym g
block_one (Erase port place n) s x y f g = f ∙ sym g
block_one (Timeout port) s x y f g = peer_one (peer_of s port) (time_out_lines s port) x y f g
block_one (Settle port) s x y f g =
    link_one (link_in s.network.links port) (IsSettle s) (settle_one s) x y f g
block_one (Move node) s x y f g = move_one s.network node x y f g
block_one (Collect node) s x y f g = collect_one s.network node x y f g
block_one (Run n) s x y f g = rounds_one n s x y f g
block_one _ s x y f g = absurd f

-- ---- runs

event_one : (s : Seen) (line : Line) (More : Seen → List TraceLine → Type 0)
    (Last : UndetectedAt → List TraceLine → Type 0)
    → ((t : Seen) → AtMostOne (More t)) → ((e : UndetectedAt) → AtMostOne (Last e))
    → AtMostOne (BlockThen More Last s line)
event_one s line More Last one two x y p q =
    let block = block_one line s p.0 q.0 p.3 q.3 in
    let t = seen s (Begun line ∷ q.0) in
    let rest = follows_one t.undetected (More t) Last (one t) two p.1 q.1
    (subst (λ l. Follows (seen s (Begun line ∷ l)).undetected (More (seen s (Begun line ∷ l))) Last
    p.1) block p.4) q.4 in
    cc

pub runs_from_one : (script : List Numbered) (s : Seen) → AtMostOne (RunsFrom s script)
runs_from_one [] s x y f g = f ∙ sym g
runs_from_one (line ∷ script) s x y f g =
    match_one (is_event line.line)
    (BlockThen (λ t rest. RunsFrom t script rest) (Names line.number) s line.line)
    (RunsFrom s script)
    (event_one s line.line (λ t rest. RunsFrom t script rest) (Names line.number)
    (runs_from_one script) (λ e a b h k. h ∙ sym k))
    (runs_from_one script s) x y f g

pub runs_one : (script : List Numbered) → AtMostOne (Runs script)
runs_one script = runs_from_one script (start script)

-- by a test, of two facts of the same kind
by_test : {P Q P' Q' C : Type 0} (test : Bool) → (P → P' → C) → (Q → Q' → C) → MatchBool test P Q
    → MatchBool test P' Q' → C
by_test true f g x y = f x y
by_test false f g x y = g x y

nothing_is_front : {L : Type 0} (x y : List L) → x ≡ [] → IsFront x y
nothing_is_front x y none = (y, ap (λ l. l ++ y) (sym none))

follows_front : (found : Option UndetectedAt) (Near Far : List TraceLine → Type 0) (number : ℕ)
    (x y : List TraceLine)
    → ((a b : List TraceLine) → Near a → Far b → IsFront a b) → Follows found Near NamesNothing x
    → Follows found Far (Names number) y → IsFront x y
follows_front None Near Far number x y front p q = front x y p q
follows_front (Some e) Near Far number x y front p q = nothing_is_front x y p

-- where the blocks behind an event are a front, they and the event's own are
event_front : (s : Seen) (line : Line) (number : ℕ) (Near Far : Seen → List TraceLine → Type 0)
    (x y : List TraceLine)
    → ((t : Seen) (a b : List TraceLine) → Near t a → Far t b → IsFront a b)
    → BlockThen Near NamesNothing s line x → BlockThen Far (Names number) s line y → IsFront x y
event_front s line number Near Far x y front p q =
    let block = block_one line s p.0 q.0 p.3 q.3 in
    let t = seen s (Begun line ∷ q.0) in
    let behind = follows_front t.undetected (Near t) (Far t) number p.1 q.1 (front t)
    (subst (λ l. Follows (seen s (Begun line ∷ l)).undetected (Near (seen s (Begun line ∷ l)))
    NamesNothing p.1) block p.4) q.4 in
    (behind.0, cc (append_assoc (Begun line ∷ p.0) p.1 behind.0))

blocks_front : (done rest : List Numbered) (s : Seen) (x y : List TraceLine) → BlocksFrom s done x
    → RunsFrom s (done ++ rest) y → IsFront x y
blocks_front [] rest s x y p q = nothing_is_front x y p
blocks_front (line ∷ done) rest s x y p q =
    by_test (is_event line.line)
    (event_front s line.line line.number (λ t a. BlocksFrom t done a)
    (λ t b. RunsFrom t (done ++ rest) b) x y (blocks_front done rest))
    (blocks_front done rest s x y) p q

pub first_blocks_front : (script : List Numbered) (lines all : List TraceLine) → Begins script lines
    → Runs script all → IsFront lines all
first_blocks_front script lines all begins runs =
    blocks_front begins.done begins.rest (start script) lines all begins.blocks
    (subst (λ x. RunsFrom (start script) x all) begins.whole runs)
