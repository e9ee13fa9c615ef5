-- Each script that passes has a trace: each of its events has a block in the state that the blocks
-- before it lead to.
use Rattle.fabric_trace.proofs.Prelude.{◌≡◌, ℕ, Bool, true, false, List, [], ◌∷◌, ◌++◌, Option, Some, None, MatchBool, option_map, is_some, slice_get, arith, refl, ap, ◌∙◌, if◌then◌else◌, ⊤, AllByRecursion, recursion_from_All, prio_of, Passes, Registers, is_switch, IsWithin, Request, request_of, response_bytes, request_answered, responses_pass, head_of, has_room, first_held, collected_of, collected_head, collected, greatest_first-is, PortRef, Line, Numbered, is_event, new_name, Known, nothing, known_after, MayBe, PassesFrom, ScriptPasses, Network, same_port, port_of, peer_in, link_in, id_of, switch_at, IsEndpoint, IsFormed, link_peers, pumps, delivers, time_out_lines, edits, IsSettle, WithPeer, WithLink, IsBlock, FitsPacket, IsInRange, IsThere, MayHappen, edit_of, seen, UndetectedAt, Seen, peer_of, TraceLine, Begun, Ended, Undetected, steps_of, PartBegins, Made, Then, IsReady, Follows, bare, set_up_all, begins, BlockThen, Names, RunsFrom, Runs, face_in, step_lines, collect_lines, HasResponseForm, IsCollect}
use Rattle.switch_core.specs.declared.endpoint.Collected.TheVariants as Collects
use Rattle.fabric_script.specs.declared.lines.Line.TheVariants.{Send, Read, Write, Pump, Deliver, Alter, Insert, Erase, Timeout, Settle, Move, Collect, Run, Send16, Read16, Write16}
use Rattle.fabric_model.proofs.Forms.{device_at}
use Rattle.fabric_trace.proofs.Traces.Existing.{good_of, ready_begun, ready_on, settle_exists, switches_along, rounds_exist}
use Rattle.fabric_trace.proofs.Network.Faces.{head_held}
use Rattle.fabric_trace.proofs.Traces.Forming.{StandsAt, move_exists}
use Rattle.fabric_trace.proofs.SetUps.Happening.{may_set_up, may_happen}
use Rattle.fabric_trace.proofs.Parts.Keeping.{IsGood, good_by_priority, passes_first, made_keeps, legal_links}
use Rattle.fabric_trace.proofs.Rounds.Running.{block_made}
use Rattle.fabric_trace.proofs.SetUps.Starting.{set_up_bare}
use Rattle.fabric_trace.proofs.Traces.Unique.{runs_one}
use Rattle.fabric_trace.proofs.Traces.Giving.{send_body, read_body, half_body, id_low, sends_exist}

-- ---- links

peers_block : (peer : Option PortRef) (lines : PortRef → List TraceLine) → is_some peer ≡ true
    → (block : List TraceLine) × WithPeer peer lines block
peers_block None lines has = absurd cc
peers_block (Some q) lines has = (lines q, refl)

-- a port that has a peer has a link
link_there : (links : List (PortRef × PortRef)) (p : PortRef) → is_some (peer_in links p) ≡ true
    → is_some (link_in links p) ≡ true
link_there [] p has = has
link_there (link ∷ links) p has =
    by_tests (same_port link.0 p) (same_port link.1 p) (link_there links p) has
  where
    by_tests : (a b : Bool) → (is_some (peer_in links p) ≡ true → is_some (link_in links p) ≡ true)
        → is_some
        (if a then Some link.1 else (if b then Some link.0 else peer_in links p)) ≡ true → is_some
        (if a then Some link else (if b then Some link else link_in links p)) ≡ true
    by_tests true b later has = refl
    by_tests false true later has = refl
    by_tests false false later has = later has

settle_block : (s : Seen) (port : PortRef) (link : Option (PortRef × PortRef)) → IsGood s
    → s.undetected ≡ None → link_in s.network.links port ≡ link → is_some link ≡ true
    → (block : List TraceLine) × WithLink link (IsSettle s) block
settle_block s port None good none is has = absurd cc
settle_block s port (Some link) good none is has =
    let own =
    settle_exists s link.0 link.1 good none (link_peers s.network.links port link good.proper is) in
    (own.lines, own.is)

-- ---- endpoints

endpoint_stands : (net : Network) (node : ℕ) → IsEndpoint net node → StandsAt net node
endpoint_stands net node endpoint = by_found (slice_get net.registers node) refl endpoint
  where
    by_found : (found : Option Registers) → slice_get net.registers node ≡ found
        → option_map is_switch found ≡ Some false → StandsAt net node
    by_found None at is = absurd cc
    by_found (Some device) at is = record { device = device; stands = at }

module _ (s : Seen) (node : ℕ) (device : Registers) (good : IsGood s) (formed : IsFormed s.network)
    (stands : slice_get s.network.registers node ≡ Some device) where
  room_form : (packet : List ℕ) (request : Request) (room : Bool) → Passes packet
      → request_of packet ≡ Some request
      → HasResponseForm
      (if room then Collects.Answered packet
      (response_bytes (request_answered device request 0).response) else Collects.Full)
  room_form packet request true passes asks =
      let within : IsWithin device =
      device_at s.network.registers node device stands formed.registers in
      responses_pass device packet request 0 within (omega arith) passes asks
  room_form packet request false passes asks = tt

  packet_form : (packet : List ℕ) (asks : Option Request) → Passes packet → request_of packet ≡ asks
      → HasResponseForm (collected_of device (face_in s.network (port_of node)) packet asks)
  packet_form packet None passes asks = tt
  packet_form packet (Some request) passes asks =
      room_form packet request
      (has_room (face_in s.network (port_of node))
      (prio_of (response_bytes (request_answered device request 0).response))) passes asks

  held_form : (head : Option (List ℕ)) → first_held (face_in s.network (port_of node)) ≡ head
      → HasResponseForm (collected_head device (face_in s.network (port_of node)) head)
  held_form None is = tt
  held_form (Some packet) is =
      let at = greatest_first-is (head_of (face_in s.network (port_of node))) 4 packet is in
      packet_form packet (request_of packet)
      (passes_first s good (port_of node) packet
      (head_held s.network (port_of node) at.0 packet (good_by_priority good) at.2).first) refl

  pub collect_form : HasResponseForm (collected device (face_in s.network (port_of node)))
  collect_form = held_form (first_held (face_in s.network (port_of node))) refl

collect_exists : (s : Seen) (node : ℕ) → IsReady s → IsEndpoint s.network node
    → (block : List TraceLine) × IsCollect s.network node block
collect_exists s node ready endpoint =
    let found = endpoint_stands s.network node endpoint in (
      collect_lines node (collected found.device (face_in s.network (port_of node))),
      record {
        endpoint = endpoint;
        device = found.device;
        stands = found.stands;
        form = collect_form s node found.device (good_of ready) ready.formed found.stands;
        lines = refl;
      },
    )

-- ---- every event has a block

pub block_exists : (line : Line) (s : Seen) → IsReady s → s.undetected ≡ None → is_event line ≡ true
    → FitsPacket line → IsThere s.network line → (block : List TraceLine) × IsBlock s line block
block_exists (Send node prio ftype dest hex) s ready none event say there =
    sends_exist s node _ there
    (send_body false prio ftype dest (id_of s.network node false) hex say
    (id_low s.network node false ready.formed))
block_exists (Read node prio dest hop tid offset) s ready none event say there =
    sends_exist s node _ there
    (read_body false prio dest (id_of s.network node false) hop tid offset say
    (id_low s.network node false ready.formed))
block_exists (Write node prio dest hop tid offset value) s ready none event say there =
    sends_exist s node _ there
    (half_body false prio dest (id_of s.network node false) hop tid offset say.0
    (id_low s.network node false ready.formed) value say.1)
block_exists (Send16 node prio ftype dest hex) s ready none event say there =
    sends_exist s node _ there
    (send_body true prio ftype dest (id_of s.network node true) hex say
    (id_low s.network node true ready.formed))
block_exists (Read16 node prio dest hop tid offset) s ready none event say there =
    sends_exist s node _ there
    (read_body true prio dest (id_of s.network node true) hop tid offset say
    (id_low s.network node true ready.formed))
block_exists (Write16 node prio dest hop tid offset value) s ready none event say there =
    sends_exist s node _ there
    (half_body true prio dest (id_of s.network node true) hop tid offset say.0
    (id_low s.network node true ready.formed) value say.1)
block_exists (Pump port n) s ready none event say there =
    peers_block (peer_of s port) (pumps s port n) there
block_exists (Deliver port n) s ready none event say there =
    peers_block (peer_of s port) (delivers s port n) there
block_exists (Alter port place ch) s ready none event say there =
    (edits s (edit_of (Alter port place ch)), refl)
block_exists (Insert port place ch) s ready none event say there =
    (edits s (edit_of (Insert port place ch)), refl)
block_exists (Erase port place n) s ready none event say there =
    (edits s (edit_of (Erase port place n)), refl)
block_exists (Timeout port) s ready none event say there =
    peers_block (peer_of s port) (time_out_lines s port) there
block_exists (Settle port) s ready none event say there =
    settle_block s port (link_in s.network.links port) (good_of ready) none refl
    (link_there s.network.links port there)
block_exists (Move node) s ready none event say there = let own =
    move_exists s node (good_of ready) ready.formed there in (step_lines node own.0, own.1)
block_exists (Collect node) s ready none event say there = collect_exists s node ready there
block_exists (Run n) s ready none event say there = let own =
    rounds_exist n s ready none in (own.lines, own.is)
block_exists _ s ready none event say there = absurd cc

-- ---- what an event names stays there

there_stays : (net end : Network) (line : Line) → end.links ≡ net.links
    → ((n : ℕ) → switch_at end n ≡ switch_at net n) → IsThere net line → IsThere end line
there_stays net end (Send node prio ftype dest hex) links kinds there = kinds node ∙ there
there_stays net end (Read node prio dest hop tid offset) links kinds there = kinds node ∙ there
there_stays net end (Write node prio dest hop tid offset value) links kinds there =
    kinds node ∙ there
there_stays net end (Send16 node prio ftype dest hex) links kinds there = kinds node ∙ there
there_stays net end (Read16 node prio dest hop tid offset) links kinds there = kinds node ∙ there
there_stays net end (Write16 node prio dest hop tid offset value) links kinds there =
    kinds node ∙ there
there_stays net end (Move node) links kinds there = kinds node ∙ there
there_stays net end (Collect node) links kinds there = kinds node ∙ there
there_stays net end (Pump port n) links kinds there =
    ap (λ l. is_some (peer_in l port)) links ∙ there
there_stays net end (Deliver port n) links kinds there =
    ap (λ l. is_some (peer_in l port)) links ∙ there
there_stays net end (Alter port place ch) links kinds there =
    ap (λ l. is_some (peer_in l port)) links ∙ there
there_stays net end (Insert port place ch) links kinds there =
    ap (λ l. is_some (peer_in l port)) links ∙ there
there_stays net end (Erase port place n) links kinds there =
    ap (λ l. is_some (peer_in l port)) links ∙ there
there_stays net end (Timeout port) links kinds there =
    ap (λ l. is_some (peer_in l port)) links ∙ there
there_stays net end (Settle port) links kinds there =
    ap (λ l. is_some (peer_in l port)) links ∙ there
there_stays net end _ links kinds there = tt

-- ---- scripts

-- each event of a script can be said, and what it names is there
abbrev pub EventsCan : Network → List Numbered → Type 0
EventsCan net [] = ⊤
EventsCan net (line ∷ lines) =
    (is_event line.line ≡ true → FitsPacket line.line × IsThere net line.line) × EventsCan net lines

cans_stay : (net end : Network) (script : List Numbered) → end.links ≡ net.links
    → ((n : ℕ) → switch_at end n ≡ switch_at net n) → EventsCan net script → EventsCan end script
cans_stay net end [] links kinds can = tt
cans_stay net end (line ∷ script) links kinds can = (
  λ event. ((can.0 event).0, there_stays net end line.line links kinds (can.0 event).1),
  cans_stay net end script links kinds can.1,
)

follow_exists : (number : ℕ) (More : List TraceLine → Type 0) (found : Option UndetectedAt)
    → (found ≡ None → (rest : List TraceLine) × More rest)
    → (rest : List TraceLine) × Follows found More (Names number) rest
follow_exists number More None more = more refl
follow_exists number More (Some found) more = (Undetected number found.port found.event ∷ [], refl)

one_of : (P Q : List TraceLine → Type 0) (test : Bool)
    → (test ≡ true → (lines : List TraceLine) × P lines) → (lines : List TraceLine) × Q lines
    → (lines : List TraceLine) × MatchBool test (P lines) (Q lines)
one_of P Q true first second = first refl
one_of P Q false first second = second

pub runs_exist : (script : List Numbered) (s : Seen) → IsReady s → s.undetected ≡ None
    → EventsCan s.network script → (lines : List TraceLine) × RunsFrom s script lines
runs_exist [] s ready none can = (Ended ∷ [], refl)
runs_exist (line ∷ script) s ready none can =
    one_of (BlockThen (λ t rest. RunsFrom t script rest) (Names line.number) s line.line)
    (RunsFrom s script) (is_event line.line)
    (λ event.
    let own = block_exists line.line s ready none event (can.0 event).0 (can.0 event).1 in
    let block = own.0 in
    let t = seen s (Begun line.line ∷ block) in
    let begun : Made s (Begun line.line ∷ block) =
    Then (Begun line.line ∷ []) block refl (PartBegins line.line refl)
    (block_made line.line s block (good_of ready) none own.1) in
    let legal = (made_keeps (good_of ready) begun).legal in
    let links = legal_links s.network (steps_of (Begun line.line ∷ block)) t.network legal in
    let kinds = switches_along s.network (steps_of (Begun line.line ∷ block)) t.network legal in
    let rest =
    follow_exists line.number (RunsFrom t script) t.undetected
    (λ still. runs_exist script t (ready_on ready begun) still
    (cans_stay s.network t.network script links kinds can.1)) in
    ((Begun line.line ∷ block) ++ rest.0, (block, rest.0, refl, own.1, rest.1)))
    (runs_exist script s ready none can.1)

-- ---- scripts that pass

sayable : (known : Known) (new : List ℕ) (line : Line) → MayBe known new line → IsInRange line
    → FitsPacket line
sayable known new (Send node prio ftype dest hex) may range =
    let dest_in = may.fit.1.1.1.0.1 in
    (range.0, range.1, omega arith, may.fit.1.1.1.1.0, range.2)
sayable known new (Read node prio dest hop tid offset) may range =
    let dest_in = may.fit.1.1.0.1 in
    let hop_in = may.fit.1.1.1.0.1 in
    let tid_in = may.fit.1.1.1.1.0.1 in
    (range.0, omega arith, omega arith, omega arith, range.1)
sayable known new (Write node prio dest hop tid offset value) may range =
    let dest_in = may.fit.1.1.0.1 in
    let hop_in = may.fit.1.1.1.0.1 in
    let tid_in = may.fit.1.1.1.1.0.1 in
    ((range.0, omega arith, omega arith, omega arith, range.1), range.2)
sayable known new (Send16 node prio ftype dest hex) may range =
    let dest_in = may.fit.1.1.1.0.1 in
    (range.0, range.1, omega arith, may.fit.1.1.1.1.0, range.2)
sayable known new (Read16 node prio dest hop tid offset) may range =
    let dest_in = may.fit.1.1.0.1 in
    let hop_in = may.fit.1.1.1.0.1 in
    let tid_in = may.fit.1.1.1.1.0.1 in
    (range.0, omega arith, omega arith, omega arith, range.1)
sayable known new (Write16 node prio dest hop tid offset value) may range =
    let dest_in = may.fit.1.1.0.1 in
    let hop_in = may.fit.1.1.1.0.1 in
    let tid_in = may.fit.1.1.1.1.0.1 in
    ((range.0, omega arith, omega arith, omega arith, range.1), range.2)
sayable known new _ may range = tt

cans_from : (known : Known) (names : List (List ℕ)) (net : Network) (script : List Numbered)
    → PassesFrom known names script
    → AllByRecursion
    (λ line. is_event line.line ≡ true → MayHappen names net line.line) script
    → EventsCan net script
cans_from known names net [] passes all = tt
cans_from known names net (line ∷ script) passes all =
    let new = new_name names line.line in (
      λ event. (sayable known new line.line passes.0 (all.0 event).range, (all.0 event).there),
      cans_from (known_after known new line.line) names net script passes.2 all.1,
    )

pub script_has_trace : (names : List (List ℕ)) (script : List Numbered) → ScriptPasses names script
    → (lines : List TraceLine) × Runs script lines
script_has_trace names script passes =
    let net = set_up_all bare script in
    let is = set_up_bare script (may_set_up names script passes) in
    let ready : IsReady (begins net) = ready_begun net is in
    runs_exist script (begins net) ready refl
    (cans_from nothing names net script passes
    (recursion_from_All (λ line. is_event line.line ≡ true → MayHappen names net line.line) script
    (may_happen names script passes)))

-- and no other one
pub script_has_one : (names : List (List ℕ)) (script : List Numbered) → ScriptPasses names script
    → (lines : List TraceLine) × Runs script lines ×
    ((other : List TraceLine) → Runs script other → other ≡ lines)
script_has_one names script passes =
    let own = script_has_trace names script passes in
    (own.0, own.1, λ other runs. runs_one script other own.0 runs own.1)
