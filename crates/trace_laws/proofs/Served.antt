-- Steps at nodes and of devices are what the layer above does to the links of their ports.
use Rattle.trace_laws.proofs.Prelude.{◌≡◌, ℕ, ◌+◌, ◌<◌, Bool, true, false, List, [], ◌∷◌, length, map, Some, None, IsTrue, refl, sym, ap, ◌∙◌, subst, arith, prio_of, Registers, Buffered, list_at, appended, popped, PortState, IsPort, Note, A, B, LinkState, IsRun, RunRests, RunPumps, RunTells, RunDelivers, RunEdits, RunTimesOut, RunServes, PortRef, Item, Network, same_port, port_of, first_packet, to_send, room_out, with_device, port_is, apart_back, Stepped, packets_in, view, Seen, peer_of, port_seen, wire_state, link_at, seen_line, packet_of, lane_at, lane_other, Untouched, link_round, with_more, fewer_links, IsGood, passes_first, few_prio, RunsBetween}
use Rattle.std.proofs.lemmas.Bool.{ltb-true}
use Rattle.rio_packets.specs.LinkForm.{Passes}
use Rattle.maint_packets.specs.declared.next_hop.Next.TheVariants.{Port}
use Rattle.maint_packets.specs.NextHops.{moved}
use Rattle.maint_packets.specs.Requests.{request_of}
use Rattle.link_buffers.proofs.StoreLemmas.{IsInStore-popped}
use Rattle.link_sound.proofs.PortBounds.{put_port, read_port}
use Rattle.link_machine.specs.Layer.{IsServed, with_port}
use Rattle.link_machine.proofs.Serving.{put_serves, take_serves}
use Rattle.fabric_model.specs.Serving.{device_after}
use Rattle.fabric_model.specs.Steps.{Take, Leave, NodeStep, Move, Drop, Answer, DeviceStep, AtNode, ByDevice, Needs, only_first, moved_item, item_of, without_first, with_waiting, after}
use Rattle.fabric_model.proofs.Moving.{moves_on, named_goes, sent_by}
use Rattle.fabric_model.proofs.Boards.{first_item}
use Rattle.fabric_trace.specs.Links.{IsLink}
use Rattle.trace_laws.proofs.Views.{same_seen, same_link_at, more_queued, fewer_received}
use Rattle.fabric_trace.proofs.Links.Serving.{queue_length}

-- ---- runs, one after another

pub run_join : {s mid end : LinkState} {first : List Note} → IsRun s first mid
    → (rest : List Note) × IsRun mid rest end → (notes : List Note) × IsRun s notes end
run_join RunRests rest = rest
run_join (RunPumps from turns run) rest =
    let more = run_join run rest in (_, RunPumps from turns more.1)
run_join (RunTells from run) rest =
    let more = run_join run rest in (_, RunTells from more.1)
run_join (RunDelivers from count sent run) rest =
    let more = run_join run rest in (_, RunDelivers from count sent more.1)
run_join (RunEdits from edit run) rest =
    let more = run_join run rest in (_, RunEdits from edit more.1)
run_join (RunTimesOut side run) rest =
    let more = run_join run rest in (_, RunTimesOut side more.1)
run_join (RunServes side next is served run) rest =
    let more = run_join run rest in (_, RunServes side next is served more.1)

pub run_to : {s end other : LinkState} {notes : List Note} → other ≡ end → IsRun s notes end
    → (notes : List Note) × IsRun s notes other
run_to {s} {notes = notes} same run =
    (notes, subst (λ (l : LinkState). IsRun s notes l) (sym same) run)

-- ---- one port becomes another, and no other port changes

module _ (s : Seen) (net : Network) (c : PortRef) (next : PortState)
    (becomes : view net c (s.halves c) ≡ next)
    (others : (d : PortRef) → same_port d c ≡ false
    → Untouched s (record s { network = net }) d)
    (fits : (b : PortRef) → IsLink s c b → IsPort next × IsServed (port_seen s c) next) where
  abbrev t : Seen
  t = record s { network = net }

  first_run : (b : PortRef) → same_port c b ≡ false → IsLink s c b → RunsBetween s t c b
  first_run b apart is =
      let fit = fits b is in
      let far = same_seen s t b (others b (apart_back c b apart)) in
      let ends : link_at t c b ≡ with_port A next (link_at s c b) = λ i. record {
        a = becomes i;
        b = far i;
        wire_a = wire_state (s.wires c);
        wire_b = wire_state (s.wires b);
      } in
      run_to ends (RunServes A next fit.0 fit.1 RunRests)

  second_run : (a : PortRef) → same_port a c ≡ false → IsLink s a c → RunsBetween s t a c
  second_run a apart is =
      let fit = fits a (link_round is) in
      let near = same_seen s t a (others a apart) in
      let ends : link_at t a c ≡ with_port B next (link_at s a c) = λ i. record {
        a = near i;
        b = becomes i;
        wire_a = wire_state (s.wires a);
        wire_b = wire_state (s.wires c);
      } in
      run_to ends (RunServes B next fit.0 fit.1 RunRests)

  -- so it is served
  pub port_runs : (a b : PortRef) → same_port a b ≡ false → IsLink s a b → RunsBetween s t a b
  port_runs a b apart is = go (same_port a c) (same_port b c) refl refl
    where
      go : (x y : Bool) → same_port a c ≡ x → same_port b c ≡ y → RunsBetween s t a b
      go true y first second =
          let one = port_is a c first in
          subst (λ p. RunsBetween s t p b) (sym one)
          (first_run b (subst (λ p. same_port p b ≡ false) one apart)
          (subst (λ p. IsLink s p b) one is))
      go false true first second =
          let one = port_is b c second in
          subst (λ p. RunsBetween s t a p) (sym one)
          (second_run a first (subst (λ p. IsLink s a p) one is))
      go false false first second =
          run_to (same_link_at s t a b (others a first) (others b second)) RunRests

-- ---- a packet more to be sent, and one fewer received

pub more_runs : (s : Seen) (c : PortRef) (item : Item) (given : ℕ) (devices : List Registers)
    → prio_of item.now < 4 → Passes item.now → IsTrue (room_out s.network c (prio_of item.now))
    → (a b : PortRef) → same_port a b ≡ false → IsLink s a b
    → RunsBetween s (record s { network = with_more s.network c item given devices }) a b
more_runs s c item given devices few passes fits_in a b apart is =
    port_runs s (with_more net c item given devices) c next becomes others fits a b apart is
  where
    net : Network
    net = s.network

    r : ℕ
    r = prio_of item.now

    next : PortState
    next = record (port_seen s c) { queued = appended (port_seen s c).queued r item.now }

    becomes : view (with_more net c item given devices) c (s.halves c) ≡ next
    becomes = λ i. record (port_seen s c) { queued = more_queued net c item given devices few i }

    others : (d : PortRef) → same_port d c ≡ false
        → Untouched s (record s { network = with_more net c item given devices }) d
    others d other = record {
      lists = record {
        received = refl;
        waiting = lane_other net.waiting c r _ d other;
        lent = refl;
        buffers = refl;
        tells = refl;
      };
      wire = refl;
      half = refl;
    }

    room : length (list_at (port_seen s c).queued r) < 16
    room =
        let most = ltb-true (to_send net c r) 16 fits_in in
        let counts = queue_length net c r few in
        omega (arith, most, counts)

    fits : (peer : PortRef) → IsLink s c peer → IsPort next × IsServed (port_seen s c) next
    fits peer own = (
      put_port (port_seen s c) item.now few passes room own.sound.port_a,
      put_serves (port_seen s c) next r item.now own.sound.port_a few
          (refl, refl, refl, refl, refl) refl refl,
    )

some_first : (items : List Item) (packet : List ℕ) → first_packet items ≡ Some packet
    → 0 < length (packets_in items)
some_first [] packet is = absurd cc
some_first (item ∷ items) packet is = omega arith

pub fewer_runs : (s : Seen) (c : PortRef) (packet : List ℕ) → prio_of packet < 4
    → first_packet (s.network.received c (prio_of packet)) ≡ Some packet
    → (a b : PortRef) → same_port a b ≡ false → IsLink s a b
    → RunsBetween s (record s { network = without_first s.network c (prio_of packet) }) a b
fewer_runs s c packet few first a b apart is =
    port_runs s (without_first net c r) c next becomes others fits a b apart is
  where
    net : Network
    net = s.network

    r : ℕ
    r = prio_of packet

    lists : List (List (List ℕ))
    lists = (port_seen s c).received.lists

    received : Buffered
    received = record { lists = popped lists r; buffers = net.buffers c }

    next : PortState
    next = record (port_seen s c) { received = received }

    becomes : view (without_first net c r) c (s.halves c) ≡ next
    becomes = λ i. record (port_seen s c) {
      received = record { lists = fewer_received net c r few i; buffers = net.buffers c };
    }

    others : (d : PortRef) → same_port d c ≡ false
        → Untouched s (record s { network = without_first net c r }) d
    others d other = record {
      lists = record {
        received = lane_other net.received c r _ d other;
        waiting = refl;
        lent = refl;
        buffers = refl;
        tells = refl;
      };
      wire = refl;
      half = refl;
    }

    some : 0 < length (list_at lists r)
    some = subst (λ (x : List (List ℕ)). 0 < length x) (sym (lane_at (net.received c) r few))
        (some_first (net.received c r) packet first)

    fits : (peer : PortRef) → IsLink s c peer → IsPort next × IsServed (port_seen s c) next
    fits peer own = (
      read_port (port_seen s c) received (port_seen s c).place
          (IsInStore-popped lists (net.buffers c) r own.sound.port_a.receives few some)
          own.sound.port_a.bounded own.sound.port_a,
      take_serves (port_seen s c) next r (refl, refl, refl, refl, refl) refl refl,
    )

-- ---- steps

module _ (s : Seen) (good : IsGood s) (none : s.undetected ≡ None) (a b : PortRef)
    (peer : peer_of s a ≡ Some b) (apart : same_port a b ≡ false) where
  is : IsLink s a b
  is = good.links none a b peer

  pub node_runs : (step : NodeStep) → Needs s.network (AtNode step) → prio_of (packet_of step) < 4
      → RunsBetween s (seen_line s (Stepped (AtNode step))) a b
  node_runs (Take n packet) needs few =
      more_runs s (port_of n) (item_of s.network (port_of n) packet) (s.network.given + 1)
      s.network.registers few needs.1 needs.2 a b apart is
  node_runs (Leave n packet) needs few = fewer_runs s (port_of n) packet few needs.1 a b apart is

  -- without the first packet that a port has received, and then with another to be sent
  left_and_more : (p q : PortRef) (packet : List ℕ) (item : Item) (given : ℕ)
      (devices : List Registers) → prio_of packet < 4
      → first_packet (s.network.received p (prio_of packet)) ≡ Some packet
      → prio_of item.now < 4 → Passes item.now
      → IsTrue (room_out s.network q (prio_of item.now))
      → RunsBetween s (record s {
        network = with_more (without_first s.network p (prio_of packet)) q item given devices;
      }) a b
  left_and_more p q packet item given devices few first small passes room =
      let s1 : Seen = record s { network = without_first s.network p (prio_of packet) } in
      let one = fewer_runs s p packet few first a b apart is in
      let links = fewer_links s p packet good.proper few first (good.links none) in
      run_join one.1
      (more_runs s1 q item given devices small passes room a b apart (links a b peer))

  move_runs : (p q : PortRef) (packet : List ℕ) → Needs s.network (ByDevice (Move p q packet))
      → RunsBetween s (seen_line s (Stepped (ByDevice (Move p q packet)))) a b
  move_runs p q packet needs =
      let r = prio_of packet in
      let net = s.network in
      let passes = passes_first s good p packet needs.1 in
      let first = first_item (net.received p r) packet needs.1 in
      let sent = sent_by net p.node packet (Port q.port) needs.2 in
      let on = moves_on packet passes (named_goes sent.device packet q.port sent.sends) in
      let now : moved first.item.now ≡ moved packet = ap moved first.now in
      let prio : prio_of (moved first.item.now) ≡ prio_of packet = ap prio_of now ∙ on.prio in
      let whole = subst Passes (sym now) on.passes in
      let only : only_first (map moved_item (net.received p r)) ≡ moved_item first.item ∷ [] =
      ap (λ xs. only_first (map moved_item xs)) first.whole in
      let there : with_more (without_first net p r) q (moved_item first.item) net.given
      net.registers ≡ after net (ByDevice (Move p q packet)) =
      λ i. with_waiting (without_first net p r) q (prio i) (sym only i) in
      subst (λ (n : Network). RunsBetween s (record s { network = n }) a b) there
      (left_and_more p q packet (moved_item first.item) net.given net.registers
      (few_prio packet passes) needs.1 (few_prio (moved first.item.now) whole) whole
      (subst (λ k. IsTrue (room_out net q k)) (sym prio) needs.3))

  pub device_runs : (step : DeviceStep) → Needs s.network (ByDevice step)
      → RunsBetween s (seen_line s (Stepped (ByDevice step))) a b
  device_runs (Move p q packet) needs = move_runs p q packet needs
  device_runs (Drop p packet) needs =
      fewer_runs s p packet (few_prio packet (passes_first s good p packet needs.0)) needs.0 a b
      apart is
  device_runs (Answer p packet response) needs =
      left_and_more p p packet (item_of s.network p response) (s.network.given + 1)
      (with_device s.network.registers p.node (device_after p.port (request_of packet)))
      (few_prio packet (passes_first s good p packet needs.0)) needs.0
      (few_prio response needs.3) needs.3 needs.4
