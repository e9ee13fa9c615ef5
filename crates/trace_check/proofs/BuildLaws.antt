-- What a line of set-up leaves of the network and of the links as they are kept.
use Rattle.std.proofs.Common.{◌≡◌, ℕ, Bool, ◌+◌, ◌≤◌, false, ◌⊎◌, inl, inr, List, [], ◌∷◌, ◌++◌, length, length-append, replicate, slice_get, slice_set, option_map, Option, Some, None, refl, sym, ap, ◌∙◌, subst, arith, if◌then◌else◌}
use Rattle.link_buffers.specs.Queues.{no_packets}
use Rattle.maint_registers.specs.Devices.{Registers, is_switch, new_endpoint, new_switch}
use Rattle.fabric_script.specs.declared.lines.Line.{Line}
use Rattle.fabric_script.specs.declared.lines.Line.TheVariants.{Endpoint, Switch, Link, Buffers, Route, Default, Lock, Large, Credits}
use Rattle.fabric_script.specs.declared.ports.PortRef.{PortRef}
use Rattle.fabric_model.specs.Laws.History.{IsEmptyNetwork}
use Rattle.fabric_model.specs.Network.{Item, Network, bare, peer_in, same_port, switch_at, with_device}
use Rattle.fabric_model.proofs.Devices.{length-with_device}
use Rattle.fabric_model.proofs.Peers.{apart_back, same_port-refl}
use Rattle.fabric_trace.specs.Settings.{defaulted, held_by, large_set, linked_at, routed, set_up, with_buffers, with_change, with_end, with_node}
use Rattle.fabric_trace.proofs.SetUps.KindLaws.{IsKindThere, kind_there}
use Rattle.fabric_trace.specs.Views.{lists_in, packets_in}
use Rattle.trace_check.specs.declared.links.Links.{Links}
use Rattle.trace_check.specs.declared.network.Network.{Network as Kept}
use Rattle.trace_check.specs.Networks.{AreKeptLinks, IsNetwork}
use Rattle.trace_check.specs.Starting.{AreEnds, AreJoined, IsBuilt, lent_lists}
use Rattle.trace_check.specs.Tables.{IsIn, IsTable, table_place}
use Rattle.trace_check.proofs.NetworkLaws.{registers_set, same_tables}
use Rattle.trace_check.proofs.StartLaws.{ends_joined, ends_more, later_apart, peer_within, peers_joined, table_behind, table_more, table_shown, unlinked_later}
use Rattle.trace_check.proofs.TableLaws.{table_set}

-- ---- nothing

table_none : {A : Type 0} (Has : PortRef → A → Type 0) (list : List A) → list ≡ []
    → IsTable 0 Has list
table_none Has list none = record {
  size = ap length none;
  at = λ p x is_in there. let low = is_in.node in absurd (omega (arith, low));
}

pub built_bare : (kept : Kept) → kept.registers.items ≡ [] → kept.buffers.items ≡ []
    → kept.received.items ≡ [] → kept.waiting.items ≡ [] → kept.lent.items ≡ []
    → IsBuilt bare kept
built_bare kept registers buffers received waiting lent = record {
  network = record {
    count = refl;
    registers = registers;
    buffers = table_none (λ p n. n ≡ 8) kept.buffers.items buffers;
    received = table_none (λ p lanes. lanes ≡ lists_in (λ r. [])) kept.received.items received;
    waiting = table_none (λ p lanes. lanes ≡ lists_in (λ r. [])) kept.waiting.items waiting;
    lent = table_none (λ p queue. queue.items ≡ packets_in []) kept.lent.items lent;
  };
  empty = record {
    received = λ p r. refl;
    waiting = λ p r. refl;
    lent = λ p. refl;
    given = refl;
  };
  beyond = λ p later. refl;
}

pub joined_bare : (kept : Links) → kept.peers.items ≡ [] → AreJoined bare kept
joined_bare kept none = record {
  peers = table_none (λ p peer. peer ≡ None) kept.peers.items none;
  ends = tt;
}

-- what is set up puts no packet anywhere
stays_empty : {net : Network} {buffers : PortRef → ℕ} {registers : List Registers}
    {links : List (PortRef × PortRef)} → IsEmptyNetwork net
    → IsEmptyNetwork (record net { buffers = buffers; registers = registers; links = links })
stays_empty empty = record {
  received = empty.received;
  waiting = empty.waiting;
  lent = empty.lent;
  given = empty.given;
}

-- ---- a change of one node

pub built_change : {net : Network} {old new : Kept} (node : ℕ) (change : Registers → Registers)
    → IsBuilt net old → new.registers.items ≡ with_device old.registers.items node change
    → new ≡ record old { registers = new.registers } → IsBuilt (with_change net node change) new
built_change {net} {old} {new} node change built is rest =
    let same = length-with_device net.registers node change in
    record {
      network = subst (λ m. IsNetwork m (with_change net node change) new) (sym same)
          (registers_set node change built.network is rest);
      empty = stays_empty built.empty;
      beyond = λ p later. built.beyond p (subst (λ m. m ≤ p.node) same later);
    }

-- both ends of a new link know of it
pub built_link : {net : Network} {old mid new : Kept} (a b : PortRef) → IsBuilt net old
    → mid.registers.items ≡ with_device old.registers.items a.node (linked_at a.port)
    → mid ≡ record old { registers = mid.registers }
    → new.registers.items ≡ with_device mid.registers.items b.node (linked_at b.port)
    → new ≡ record mid { registers = new.registers }
    → IsBuilt (record (with_end (with_end net a) b) { links = net.links ++ (a, b) ∷ [] }) new
built_link a b built first first_rest second second_rest =
    let one = built_change a.node (linked_at a.port) built first first_rest in
    let two = built_change b.node (linked_at b.port) one second second_rest in
    record {
      network = same_tables two.network;
      empty = stays_empty two.empty;
      beyond = two.beyond;
    }

pub port_kept : {net : Network} {kept : Kept} {p : PortRef} → IsBuilt net kept
    → IsIn (length net.registers) p → IsIn (length kept.registers.items) p
port_kept {p = p} built is_in =
    subst (λ (d : List Registers). IsIn (length d) p) (sym built.network.registers) is_in

pub port_linked : (old mid : Kept) (a p : PortRef) → IsIn (length old.registers.items) p
    → mid.registers.items ≡ with_device old.registers.items a.node (linked_at a.port)
    → IsIn (length mid.registers.items) p
port_linked old mid a p is_in linked =
    subst (λ m. IsIn m p) (sym (ap length linked
    ∙ length-with_device old.registers.items a.node (linked_at a.port))) is_in

-- ---- buffers

pub built_buffers : {net : Network} {old new : Kept} {p : PortRef} {i : ℕ} (m : ℕ)
    → IsBuilt net old
    → IsIn (length net.registers) p → i ≡ table_place p
    → new.buffers.items ≡ slice_set old.buffers.items i m
    → new ≡ record old { buffers = new.buffers }
    → IsBuilt (record net { buffers = with_buffers net.buffers p m }) new
built_buffers {net} {old} {new} {p} {i} m built is_in here is rest =
    let n = length net.registers in
    let Has : PortRef → ℕ → Type 0 = λ q k. k ≡ net.buffers q in
    let More : PortRef → ℕ → Type 0 = λ q k. k ≡ with_buffers net.buffers p m q in
    let after = record net { buffers = with_buffers net.buffers p m } in
    let kept : IsNetwork n after (record old { buffers = new.buffers }) = record {
      count = refl;
      registers = built.network.registers;
      buffers = subst (IsTable n More) (sym is)
          (table_set m built.network.buffers is_in here
          (sym (ap (λ b. if b then m else net.buffers p) (same_port-refl p)))
          (λ q k other has. has ∙ sym (ap (λ b. if b then m else net.buffers q) other)));
      received = built.network.received;
      waiting = built.network.waiting;
      lent = built.network.lent;
    } in
    record {
      network = subst (IsNetwork n after) (sym rest) kept;
      empty = stays_empty built.empty;
      beyond = λ q later. ap (λ b. if b then m else net.buffers q)
          (apart_back p q (later_apart n p q is_in later)) ∙ built.beyond q later;
    }

-- ---- one node more

none_in : (lanes : ℕ → List Item) → ((r : ℕ) → lanes r ≡ []) → no_packets ≡ lists_in lanes
none_in lanes none = λ i. packets_in (sym (none 0) i) ∷ packets_in (sym (none 1) i)
    ∷ packets_in (sym (none 2) i) ∷ packets_in (sym (none 3) i) ∷ []

pub built_node : {net : Network} {old : Kept} (new : Kept) (device : Registers) → IsBuilt net old
    → new.registers.items ≡ old.registers.items ++ device ∷ []
    → new.buffers.items ≡ old.buffers.items ++ replicate 16 8
    → new.received.items ≡ old.received.items ++ replicate 16 no_packets
    → new.waiting.items ≡ old.waiting.items ++ replicate 16 no_packets
    → lent_lists new ≡ lent_lists old ++ replicate 16 [] → IsBuilt (with_node net device) new
built_node {net} {old} new device built registers buffers received waiting lent =
    let n = length net.registers in
    let more : length (net.registers ++ device ∷ []) ≡ n + 1
    = length-append net.registers (device ∷ []) in
    let Buffers : PortRef → ℕ → Type 0 = λ p m. m ≡ net.buffers p in
    let Received : PortRef → List (List (List ℕ)) → Type 0
    = λ p lists. lists ≡ lists_in (net.received p) in
    let Waiting : PortRef → List (List (List ℕ)) → Type 0
    = λ p lists. lists ≡ lists_in (net.waiting p) in
    let Lent : PortRef → List (List ℕ) → Type 0 = λ p list. list ≡ packets_in (net.lent p) in
    let kept : IsNetwork (n + 1) (with_node net device) new = record {
      count = more;
      registers = registers ∙ ap (λ (d : List Registers). d ++ device ∷ []) built.network.registers;
      buffers = subst (IsTable (n + 1) Buffers) (sym buffers)
          (table_more 8 built.network.buffers
          (λ p m is_in has. has) (λ p new. sym (built.beyond p (omega (arith, new)))));
      received = subst (IsTable (n + 1) Received) (sym received)
          (table_more no_packets built.network.received
          (λ p m is_in has. has) (λ p new. none_in (net.received p) (built.empty.received p)));
      waiting = subst (IsTable (n + 1) Waiting) (sym waiting)
          (table_more no_packets built.network.waiting
          (λ p m is_in has. has) (λ p new. none_in (net.waiting p) (built.empty.waiting p)));
      lent = table_behind (n + 1) (λ queue. queue.items) Lent new.lent.items
          (subst (IsTable (n + 1) Lent) (sym lent) (table_more []
          (table_shown n (λ queue. queue.items) Lent old.lent.items built.network.lent)
          (λ p m is_in has. has) (λ p new. ap packets_in (sym (built.empty.lent p)))));
    } in
    record {
      network = subst (λ m. IsNetwork m (with_node net device) new) (sym more) kept;
      empty = stays_empty built.empty;
      beyond = λ p later. built.beyond p (omega (arith, more, later));
    }

-- ---- links

joined_node : {net : Network} {old new : Links} (device : Registers) → AreJoined net old
    → new.peers.items ≡ old.peers.items ++ replicate 16 None
    → AreJoined (with_node net device) new
joined_node {net} {new = new} device joined is =
    let n = length net.registers in
    let more : length (net.registers ++ device ∷ []) ≡ n + 1
    = length-append net.registers (device ∷ []) in
    let Peers : PortRef → Option PortRef → Type 0 = λ p peer. peer ≡ peer_in net.links p in
    record {
      peers = subst (λ m. IsTable m Peers new.peers.items) (sym more)
          (subst (IsTable (n + 1) Peers) (sym is)
          (table_more None joined.peers (λ p peer is_in has. has)
          (λ p last. sym (unlinked_later n net.links p joined.ends (omega (arith, last))))));
      ends = subst (λ m. AreEnds m net.links) (sym more) (ends_more n net.links joined.ends);
    }

-- a node's registers say nothing of the links that are kept
joined_change : {net : Network} {kept : Links} (node : ℕ) (change : Registers → Registers)
    → AreJoined net kept → AreJoined (with_change net node change) kept
joined_change {net} {kept} node change joined =
    let same = length-with_device net.registers node change in
    record {
      peers = subst
          (λ m. IsTable m (λ p peer. peer ≡ peer_in net.links p) kept.peers.items) (sym same)
          joined.peers;
      ends = subst (λ m. AreEnds m net.links) (sym same) joined.ends;
    }

-- nor does a line that makes neither a node nor a link
pub joined_other : {net : Network} {kept : Links} (line : Line)
    → ((name id : ℕ) → line ≡ Endpoint name id → ⊥)
    → ((name ports : ℕ) → line ≡ Switch name ports → ⊥)
    → ((a b : PortRef) → line ≡ Link a b → ⊥) → AreJoined net kept
    → AreJoined (set_up net line) kept
joined_other (Endpoint name id) no_endpoint no_switch no_link joined =
    absurd (no_endpoint name id refl)
joined_other (Switch name ports) no_endpoint no_switch no_link joined =
    absurd (no_switch name ports refl)
joined_other (Link a b) no_endpoint no_switch no_link joined =
    absurd (no_link a b refl)
joined_other (Buffers p n) no_endpoint no_switch no_link joined =
    record { peers = joined.peers; ends = joined.ends }
joined_other (Credits p) no_endpoint no_switch no_link joined =
    record { peers = joined.peers; ends = joined.ends }
joined_other (Route node id p) no_endpoint no_switch no_link joined =
    joined_change node (routed id p) joined
joined_other (Default node p) no_endpoint no_switch no_link joined =
    joined_change node (defaulted p) joined
joined_other (Lock node id) no_endpoint no_switch no_link joined =
    joined_change node (held_by id) joined
joined_other (Large node id) no_endpoint no_switch no_link joined =
    joined_change node (large_set id) joined
joined_other _ no_endpoint no_switch no_link joined = joined

-- a line makes a node
pub joined_new : {net : Network} {old new : Links} {line : Line}
    → ((name : ℕ) × (id : ℕ) × (line ≡ Endpoint name id))
    ⊎ ((name : ℕ) × (ports : ℕ) × (line ≡ Switch name ports))
    → new.peers.items ≡ old.peers.items ++ replicate 16 None → AreJoined net old
    → AreJoined (set_up net line) new
joined_new {net} {new = new} (inl (name, id, is)) peers joined =
    subst (λ l. AreJoined (set_up net l) new) (sym is)
    (joined_node (new_endpoint id false) joined peers)
joined_new {net} {new = new} (inr (name, ports, is)) peers joined =
    subst (λ l. AreJoined (set_up net l) new) (sym is)
    (joined_node (new_switch ports 0) joined peers)

pub joined_link : {net : Network} {old new : Links} {a b : PortRef} → AreJoined net old
    → IsIn (length net.registers) a → IsIn (length net.registers) b → same_port a b ≡ false
    → peer_in net.links a ≡ None → peer_in net.links b ≡ None
    → new.peers.items
    ≡ slice_set (slice_set old.peers.items (table_place a) (Some b)) (table_place b) (Some a)
    → AreJoined (record (with_end (with_end net a) b) { links = net.links ++ (a, b) ∷ [] }) new
joined_link {net} {old} {new} {a} {b} joined in_a in_b apart none_a none_b is =
    let n = length net.registers in
    let links = net.links ++ (a, b) ∷ [] in
    let same = length-with_device (with_end net a).registers b.node (linked_at b.port)
    ∙ length-with_device net.registers a.node (linked_at a.port) in
    let Peers : PortRef → Option PortRef → Type 0 = λ p peer. peer ≡ peer_in links p in
    record {
      peers = subst (λ m. IsTable m Peers new.peers.items) (sym same)
          (subst (IsTable n Peers) (sym is) (peers_joined n net.links a b old.peers.items
          (table_place a) (table_place b) joined.peers in_a in_b apart none_a none_b refl refl));
      ends = subst (λ m. AreEnds m links) (sym same)
          (ends_joined n net.links a b joined.ends in_a in_b);
    }

pub links_of : {nodes : ℕ} {net : Network} {kept : Links} → length net.registers ≡ nodes
    → AreJoined net kept → AreKeptLinks nodes net.links kept
links_of {nodes} {net} {kept} same joined = record {
  peers = subst (λ m. IsTable m (λ p peer. peer ≡ peer_in net.links p) kept.peers.items) same
      joined.peers;
  within = λ p q peer. peer_within nodes net.links p q
      (subst (λ m. AreEnds m net.links) same joined.ends) peer;
}

-- ---- a device that is read, changed and written back

-- an endpoint or a switch of the network is one of the devices that are kept
pub kind_of : {switch : Bool} {net : Network} {kept : Kept} (node : ℕ) → IsBuilt net kept
    → switch_at net node ≡ Some switch → IsKindThere switch kept.registers.items node
kind_of {switch} {net} {kept} node built is =
    kind_there switch kept.registers.items node
    (subst (λ (d : List Registers). option_map is_switch (slice_get d node) ≡ Some switch)
    (sym built.network.registers) is)
