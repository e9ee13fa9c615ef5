-- From each state that a fabric can be in, a run of so many rounds has a block. Each part of a
-- round
-- has one: links settle, the steps of a switch end, and nothing follows an event that was not sent.
use Rattle.fabric_trace.proofs.Prelude.{◌≡◌, ℕ, zero, suc, ◌+◌, ◌<◌, Bool, true, false, List, [], ◌∷◌, ◌++◌, Option, Some, None, MatchBool, option_map, slice_get, arith, refl, ap, ◌∙◌, ⊤, At, acts_notes, Registers, is_switch, Moved, Dropped, Answered, Nothing, PortRef, Network, IsSwitch, switch_at, link_in, IsFormed, packets_at, switches_stay, well_by, ArePeers, link_peers, lines_of, IsSettle, seen_line, seen, UndetectedAt, Seen, link_at, TraceLine, Stepped, steps_of, Made, Done, IsReady, Follows, NamesNothing, Joined, SettleAll, ServesAll, ServeRests, ServeGoes, ServeNodes, Round, Rounds, begins, step_lines, IsMove, IsSetUp}
use Rattle.link_machine.proofs.Settling.Ends.{settling_can}
use Rattle.switch_core.specs.declared.switch.Step as switch
use Rattle.fabric_model.specs.Steps.{DeviceStep, Move, Drop, Answer, Step, ByDevice, after, LegalFrom}
use Rattle.fabric_model.proofs.Forms.{device_at, stays_formed, empty_formed}
use Rattle.fabric_trace.proofs.Traces.Forming.{move_exists}
use Rattle.fabric_trace.proofs.Parts.Keeping.{IsGood, good_by_priority, made_keeps, legal_links}
use Rattle.fabric_trace.proofs.Parts.Making.{made-append}
use Rattle.fabric_trace.proofs.Rounds.Blocks.{AreFound, all_found}
use Rattle.fabric_trace.proofs.Rounds.RoundsEnd.{move_empties}
use Rattle.fabric_trace.proofs.Rounds.Running.{link_made, move_made}
use Rattle.fabric_trace.proofs.SetUps.Starting.{good_start}

-- there are lines of which this is said, made of parts
pub record Exists (s : Seen) (Is : List TraceLine → Type 0) : Type 0 where
  pub lines : List TraceLine
  pub is : Is lines
  pub made : Made s lines

pub good_of : {s : Seen} → IsReady s → IsGood s
good_of {s} ready = record {
  well = well_by s.network ready.formed ready.by_priority;
  proper = ready.proper;
  links = ready.links;
}

ready_by : {s : Seen} → IsGood s → IsFormed s.network → IsReady s
ready_by {s} good formed = record {
  formed = formed;
  by_priority = good_by_priority good;
  proper = good.proper;
  links = good.links;
}

pub ready_on : {s : Seen} {lines : List TraceLine} → IsReady s → Made s lines
    → IsReady (seen s lines)
ready_on {s} {lines} ready made =
    let kept = made_keeps (good_of ready) made in
    ready_by kept.good
    (stays_formed s.network (steps_of lines) (seen s lines).network ready.formed kept.legal)

pub ready_begun : (net : Network) → IsSetUp net → IsReady (begins net)
ready_begun net is = ready_by (good_start net is) (empty_formed net is.empty is.within)

-- ---- lines, and more behind them

follows_exist : (t : Seen) (found : Option UndetectedAt) (More : List TraceLine → Type 0)
    → t.undetected
    ≡ found → (t.undetected ≡ None → Exists t More) → Exists t (Follows found More NamesNothing)
follows_exist t None More is more =
    let rest = more is in
    record { lines = rest.lines; is = rest.is; made = rest.made }
follows_exist t (Some found) More is more = record { lines = []; is = refl; made = Done refl }

pub joined_exist : (s : Seen) (First : List TraceLine → Type 0)
    (More : Seen → List TraceLine → Type 0)
    → Exists s First
    → ((lines : List TraceLine) → Made s lines → (seen s lines).undetected ≡ None
    → Exists (seen s lines) (More (seen s lines))) → Exists s (Joined First More s)
joined_exist s First More first more =
    let t = seen s first.lines in
    let rest = follows_exist t t.undetected (More t) refl (more first.lines first.made) in
    record {
      lines = first.lines ++ rest.lines;
      is = (first.lines, rest.lines, refl, first.is, rest.is);
      made = made-append first.made rest.made;
    }

-- what is said in either case of a test
test_exist : (s : Seen) (P Q : List TraceLine → Type 0) (test : Bool) → (test ≡ true → Exists s P)
    → Exists s Q → Exists s (λ lines. MatchBool test (P lines) (Q lines))
test_exist s P Q true first second =
    let own = first refl in
    record { lines = own.lines; is = own.is; made = own.made }
test_exist s P Q false first second = record {
  lines = second.lines;
  is = second.is;
  made = second.made;
}

-- ---- links settle

pub settle_exists : (s : Seen) (a b : PortRef) → IsGood s → s.undetected ≡ None
    → ArePeers s.network.links a b → Exists s (IsSettle s a b)
settle_exists s a b good none peers =
    let way = settling_can (link_at s a b) (good.links none a b peers.there).sound in
    let lines = lines_of a b (acts_notes (At (link_at s a b)) way.0) in
    let settles : IsSettle s a b lines = record { acts = way.0; settles = way.1; lines = refl } in
    record { lines = lines; is = settles; made = link_made s a b lines good none peers settles }

-- of links that are all found, one after another
pub settles_from : (links all : List (PortRef × PortRef)) (s : Seen) → IsGood s → s.undetected
    ≡ None → s.network.links ≡ all → AreFound all links → Exists s (SettleAll IsSettle links s)
settles_from [] all s good none same found = record { lines = []; is = refl; made = Done refl }
settles_from (link ∷ links) all s good none same found =
    let peers = link_peers s.network.links link.0 link good.proper
    (ap (λ l. link_in l link.0) same ∙ found.0) in
    joined_exist s (IsSettle s link.0 link.1) (SettleAll IsSettle links)
    (settle_exists s link.0 link.1 good none peers) (λ first made still.
    let kept = made_keeps good made in
    settles_from links all (seen s first) kept.good still
    (legal_links s.network (steps_of first) (seen s first).network kept.legal ∙ same) found.1)

-- All links settle, one after another.
pub settle_all_exist : (s : Seen) → IsGood s → s.undetected ≡ None
    → Exists s (SettleAll IsSettle s.network.links s)
settle_all_exist s good none = settles_from s.network.links s.network.links s good none refl
    (all_found s.network.links good.proper)

-- ---- the steps of a switch end

-- what a switch of a state with fewer received packets makes
abbrev ServesBelow : ℕ → ℕ → Type 0
ServesBelow node n = (t : Seen) → IsReady t → IsSwitch t.network node
    → packets_at t.network.received node 16 < n → Exists t (ServesAll t node)

-- a step, and what follows it
goes_on : (s : Seen) (node : ℕ) (step : DeviceStep) (rest : List TraceLine)
    → IsMove s.network node (Stepped (ByDevice step) ∷ []) → Made s (Stepped (ByDevice step) ∷ [])
    → ServesAll (seen_line s (Stepped (ByDevice step))) node rest
    → Made (seen_line s (Stepped (ByDevice step))) rest → Exists s (ServesAll s node)
goes_on s node step rest move own more made = record {
  lines = Stepped (ByDevice step) ∷ rest;
  is = ServeGoes step rest move refl more;
  made = made-append own made;
}

serves_on : (s : Seen) (node n : ℕ) (step : DeviceStep) → IsReady s → IsSwitch s.network node
    → packets_at s.network.received node 16 < suc n → ServesBelow node n
    → IsMove s.network node (Stepped (ByDevice step) ∷ []) → Exists s (ServesAll s node)
serves_on s node n step ready kind below later move =
    let own = move_made s node (Stepped (ByDevice step) ∷ []) (good_of ready) move in
    let within = device_at s.network.registers node move.device move.stands ready.formed.registers
    in
    let fewer = move_empties s node 16 step (good_of ready) move within.ports in
    let rest = later (seen_line s (Stepped (ByDevice step))) (ready_on ready own)
    (switches_stay s.network (ByDevice step) node ∙ kind) (omega arith) in
    goes_on s node step rest.lines move own rest.is rest.made

serves_by : (s : Seen) (node n : ℕ) (step : switch.Step) → IsReady s → IsSwitch s.network node
    → packets_at s.network.received node 16 < suc n → ServesBelow node n
    → IsMove s.network node (step_lines node step) → Exists s (ServesAll s node)
serves_by s node n (Moved from to packet) ready kind below later move =
    serves_on s node n
    (Move (record { node = node; port = from }) (record { node = node; port = to }) packet)
    ready kind below later move
serves_by s node n (Dropped from packet) ready kind below later move =
    serves_on s node n (Drop (record { node = node; port = from }) packet) ready kind below later
    move
serves_by s node n (Answered port request response) ready kind below later move =
    serves_on s node n (Answer (record { node = node; port = port }) request response) ready kind
    below later move
serves_by s node n Nothing ready kind below later move = record {
  lines = [];
  is = ServeRests move refl;
  made = Done refl;
}

serves_below : (node n : ℕ) → ServesBelow node n
serves_below node zero s ready kind below = absurd (omega arith)
serves_below node (suc n) s ready kind below =
    let own = move_exists s node (good_of ready) ready.formed kind in
    serves_by s node n own.0 ready kind below (serves_below node n) own.1

-- A switch makes all its steps.
pub serves_exist : (s : Seen) (node : ℕ) → IsReady s → IsSwitch s.network node
    → Exists s (ServesAll s node)
serves_exist s node ready kind = serves_below node (suc (packets_at s.network.received node 16)) s
    ready kind (omega arith)

-- ---- which nodes are switches stays

pub switches_along : (net : Network) (steps : List Step) (end : Network) → LegalFrom net steps end
    → (node : ℕ) → switch_at end node ≡ switch_at net node
switches_along net [] end legal node = ap (λ (n : Network). switch_at n node) legal
switches_along net (step ∷ steps) end legal node = switches_along (after net step) steps end legal.1
    node ∙ switches_stay net step node

-- these devices, of which the first is this node, are of the kinds of the nodes
abbrev pub AreKinds : (ℕ → Option Bool) → ℕ → List Registers → Type 0
AreKinds kinds node [] = ⊤
AreKinds kinds node (device ∷ devices) = (kinds node ≡ Some (is_switch device))
    × AreKinds kinds (suc node) devices

kinds_from : (kinds : ℕ → Option Bool) (node : ℕ) (devices : List Registers)
    → ((i : ℕ) → kinds (node + i) ≡ option_map is_switch (slice_get devices i))
    → AreKinds kinds node devices
kinds_from kinds node [] same = tt
kinds_from kinds node (device ∷ devices) same =
    let here : node ≡ node + 0 = omega arith in (
      ap kinds here ∙ same 0,
      kinds_from kinds (suc node) devices (λ i.
          let on : suc node + i ≡ node + suc i = omega arith in
          ap kinds on ∙ same (suc i)),
    )

-- the devices of a network are what its nodes are
pub all_kinds : (net : Network) → AreKinds (switch_at net) 0 net.registers
all_kinds net =
    kinds_from (switch_at net) 0 net.registers (λ i.
    let same : 0 + i ≡ i = omega arith in
    ap (switch_at net) same)

-- ---- switches, rounds and runs

-- One switch after another makes all its steps.
pub nodes_exist : (devices : List Registers) (node : ℕ) (kinds : ℕ → Option Bool) (s : Seen)
    → IsReady s → ((n : ℕ) → switch_at s.network n ≡ kinds n) → AreKinds kinds node devices
    → Exists s (ServeNodes node devices s)
nodes_exist [] node kinds s ready same are = record { lines = []; is = refl; made = Done refl }
nodes_exist (device ∷ devices) node kinds s ready same are =
    test_exist s (Joined (ServesAll s node) (ServeNodes (suc node) devices) s)
    (ServeNodes (suc node) devices s) (is_switch device)
    (λ is. joined_exist s (ServesAll s node) (ServeNodes (suc node) devices)
    (serves_exist s node ready (same node ∙ are.0 ∙ ap Some is)) (λ first made still.
    let legal = (made_keeps (good_of ready) made).legal in
    nodes_exist devices (suc node) kinds (seen s first) (ready_on ready made)
    (λ n. switches_along s.network (steps_of first) (seen s first).network legal n ∙ same n)
    are.1))
    (nodes_exist devices (suc node) kinds s ready same are.1)

-- All switches do.
pub serve_all_exist : (s : Seen) → IsReady s → Exists s (ServeNodes 0 s.network.registers s)
serve_all_exist s ready = nodes_exist s.network.registers 0 (switch_at s.network) s ready
    (λ n. refl) (all_kinds s.network)

pub round_exists : (s : Seen) → IsReady s → s.undetected ≡ None → Exists s (Round IsSettle s)
round_exists s ready none =
    joined_exist s (SettleAll IsSettle s.network.links s)
    (λ t rest. ServeNodes 0 t.network.registers t rest)
    (settle_all_exist s (good_of ready) none)
    (λ first made still. serve_all_exist (seen s first) (ready_on ready made))

pub rounds_exist : (n : ℕ) (s : Seen) → IsReady s → s.undetected ≡ None
    → Exists s (Rounds IsSettle n s)
rounds_exist zero s ready none = record { lines = []; is = refl; made = Done refl }
rounds_exist (suc n) s ready none =
    joined_exist s (Round IsSettle s) (Rounds IsSettle n) (round_exists s ready none)
    (λ first made still. rounds_exist n (seen s first) (ready_on ready made) still)

-- every state that lines of a network that is set up lead to is such a state
pub ready_behind : (net : Network) (lines : List TraceLine) → IsSetUp net → Made (begins net) lines
    → IsReady (seen (begins net) lines)
ready_behind net lines is made = ready_on (ready_begun net is) made

pub rounds_behind : (net : Network) (n : ℕ) (lines : List TraceLine) → IsSetUp net
    → Made (begins net) lines → (seen (begins net) lines).undetected ≡ None
    → (block : List TraceLine) × Rounds IsSettle n (seen (begins net) lines) block
rounds_behind net n lines is made none =
    let own = rounds_exist n (seen (begins net) lines) (ready_behind net lines is made) none in
    (own.lines, own.is)
