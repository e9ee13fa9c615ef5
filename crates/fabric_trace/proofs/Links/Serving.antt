-- Links of other ports, and what edits and steps at nodes make of a link.
use Rattle.fabric_trace.proofs.Prelude.{◌≡◌, ℕ, ◌<◌, ◌==◌, ◌++◌, Bool, true, false, List, [], ◌∷◌, filter, length, drop, take, slice_set, Option, Some, None, unwrap_or, IsTrue, refl, sym, ap, ◌∙◌, subst, arith, cond, if◌then◌else◌, length-append, ltb-true, length-map, Char, prio_of, Passes, Buffered, list_at, appended, popped, Covers-take, packets_of-appended, lists_without-appended, Event, distance, prios_of, expected_of, oldest_of, IsSound, IsTold, put_keeps, other_parts, put_port, read_port, behind_all, Edit, Queues, queues_round, round_keeps, PortRef, Registers, Item, Network, same_port, peer_in, with_lane, first_packet, to_send, room_out, behind_first, without_first, with_waiting, AreProper, ArePeers, port_is, apart_back, peer_back, same_port-refl, unlinked_apart, some_is, packets_in, lists_in, queue, Wire, Seen, with_wire, port_seen, kept_of, wire_state, link_at, changed, edited_by, queues_in, IsKept, IsLink, AreLinks}
use Rattle.link_buffers.proofs.StoreLemmas.{IsInStore-popped}
use Rattle.fabric_trace.proofs.Network.Lanes.{packets-append, behind_is, lane_at, lists_set, lane_other}
use Rattle.fabric_trace.proofs.Links.Telling.{told_by}
use Rattle.fabric_trace.proofs.Network.Walks.{AreSame}
use Rattle.fabric_trace.proofs.Network.Viewing.{is_link}

-- the same link, its other end first
pub link_round : {s : Seen} {a b : PortRef} → IsLink s a b → IsLink s b a
link_round {s} {a} {b} is = record {
  sound = round_keeps (link_at s a b) is.sound;
  stands = ap queues_round is.stands;
  kept_a = is.kept_b;
  kept_b = is.kept_a;
}

-- what is known of a port is as it was
pub record Untouched (s t : Seen) (c : PortRef) : Type 0 where
  pub lists : AreSame s.network t.network c
  pub wire : t.wires c ≡ s.wires c
  pub half : t.halves c ≡ s.halves c

same_queues : (net next : Network) (a b : PortRef) → AreSame net next a → AreSame net next b
    → queues_in next a b ≡ queues_in net a b
same_queues net next a b first second =
    λ i. record {
      lent_a = packets_in (first.lent i);
      waiting_a = lists_in (first.waiting i);
      received_a = record { lists = lists_in (first.received i); buffers = first.buffers i };
      lent_b = packets_in (second.lent i);
      waiting_b = lists_in (second.waiting i);
      received_b = record { lists = lists_in (second.received i); buffers = second.buffers i };
    }

same_link : (s t : Seen) (a b : PortRef) → Untouched s t a → Untouched s t b → IsLink s a b
    → IsLink t a b
same_link s t a b first second is =
    is_link t a b (link_at s a b) is.sound
    (record {
      queues = same_queues s.network t.network a b first.lists second.lists ∙ is.stands;
      tells_a = first.lists.tells;
      tells_b = second.lists.tells;
      half_a = first.half;
      half_b = second.half;
      wire_a = ap wire_state first.wire;
      wire_b = ap wire_state second.wire;
    })
    (subst IsKept (sym first.wire) is.kept_a) (subst IsKept (sym second.wire) is.kept_b)

-- a port is not its own peer
pub apart_peer : (links : List (PortRef × PortRef)) (p q : PortRef) → AreProper links
    → peer_in links p ≡ Some q → same_port p q ≡ false
apart_peer [] p q proper peer = absurd cc
apart_peer (link ∷ links) p q proper peer =
    by_ends (same_port link.0 p) (same_port link.1 p) refl refl peer (apart_peer links p q proper.3)
  where
    by_ends : (x y : Bool) → same_port link.0 p ≡ x → same_port link.1 p ≡ y
        → cond x (Some link.1) (cond y (Some link.0) (peer_in links p)) ≡ Some q
        → (peer_in links p ≡ Some q → same_port p q ≡ false) → same_port p q ≡ false
    by_ends true y first second is later =
        let there : link.1 ≡ q = cc in
        subst (λ x. same_port p x ≡ false) there
        (subst (λ x. same_port x link.1 ≡ false) (port_is link.0 p first) proper.0)
    by_ends false true first second is later =
        let there : link.0 ≡ q = cc in
        subst (λ x. same_port p x ≡ false) there
        (subst (λ x. same_port x link.0 ≡ false) (port_is link.1 p second)
        (apart_back link.0 link.1 proper.0))
    by_ends false false first second is later = later is

-- All links are sound again if the one of two peers is, and nothing else was touched.
pub by_pair : (s t : Seen) (p q : PortRef) → AreProper s.network.links
    → t.network.links ≡ s.network.links → ArePeers s.network.links p q
    → IsLink t p q → ((c : PortRef) → same_port c p ≡ false → same_port c q ≡ false → Untouched s t
    c) → AreLinks s → AreLinks t
by_pair s t p q proper links peers own others are a b peer =
    let there : peer_in s.network.links a ≡ Some b =
    ap (λ (l : List (PortRef × PortRef)). peer_in l a) (sym links) ∙ peer in
    by_ends (same_port a p) (same_port a q) refl refl there
    (peer_back s.network.links b a proper there)
  where
    apart_from : (c d e : PortRef) → peer_in s.network.links d ≡ Some e
        → peer_in s.network.links c ≡ Some a → same_port a e ≡ false → same_port c d ≡ false
    apart_from c d e is peer other = elim (same_port c d) as (λ t. same_port c d ≡ t → t ≡ false) [
      | true ↦ λ (same : same_port c d ≡ true).
          let one : a ≡ e =
          some_is (peer_in s.network.links c) a e peer
          (ap (peer_in s.network.links) (port_is c d same) ∙ is) in
          absurd (cc (same_port-refl e, subst (λ x. same_port x e ≡ false) one other))
      | false ↦ λ (other : same_port c d ≡ false). refl
    ] refl

    by_ends : (x y : Bool) → same_port a p ≡ x → same_port a q ≡ y
        → peer_in s.network.links a ≡ Some b → peer_in s.network.links b ≡ Some a → IsLink t a b
    by_ends true y is_p is_q there back =
        let one = port_is a p is_p in
        let two : b ≡ q =
        some_is (peer_in s.network.links a) b q there
        (ap (peer_in s.network.links) one ∙ peers.there) in
        subst (λ x. IsLink t x b) (sym one) (subst (λ x. IsLink t p x) (sym two) own)
    by_ends false true is_p is_q there back =
        let one = port_is a q is_q in
        let two : b ≡ p =
        some_is (peer_in s.network.links a) b p there
        (ap (peer_in s.network.links) one ∙ peers.back) in
        subst (λ x. IsLink t x b) (sym one) (subst (λ x. IsLink t q x) (sym two) (link_round own))
    by_ends false false is_p is_q there back =
        same_link s t a b (others a is_p is_q)
        (others b (apart_from b p q peers.there back is_q) (apart_from b q p peers.back back is_p))
        (are a b there)

-- the same where one port was touched
pub by_port : (s t : Seen) (p : PortRef) → AreProper s.network.links
    → t.network.links ≡ s.network.links
    → ((q : PortRef) → ArePeers s.network.links p q → IsLink s p q → IsLink t p q)
    → ((c : PortRef) → same_port c p ≡ false → Untouched s t c) → AreLinks s → AreLinks t
by_port s t p proper links own others are = by_peer (peer_in s.network.links p) refl
  where
    by_peer : (peer : Option PortRef) → peer_in s.network.links p ≡ peer → AreLinks t
    by_peer (Some q) is =
        let back = peer_back s.network.links q p proper is in
        let peers : ArePeers s.network.links p q =
        record { apart = apart_peer s.network.links p q proper is; there = is; back = back } in
        by_pair s t p q proper links peers (own q peers (are p q is)) (λ c x y. others c x) are
    by_peer None is = λ a b peer.
        let there : peer_in s.network.links a ≡ Some b =
        ap (λ (l : List (PortRef × PortRef)). peer_in l a) (sym links) ∙ peer in
        let back = peer_back s.network.links b a proper there in
        same_link s t a b (others a
        (apart_back p a (unlinked_apart s.network.links p a b is there)))
        (others b (apart_back p b (unlinked_apart s.network.links p b a is back))) (are a b there)

-- ---- edits

edited_sent : (s : Seen) (p : PortRef) (chars : List Char) (c : PortRef)
    → (with_wire s.wires p (record (s.wires p) { chars = chars }) c).sent ≡ (s.wires c).sent
edited_sent s p chars c =
    elim (same_port c p) as (λ t. same_port c p ≡ t
    → (if t then record (s.wires p) { chars = chars } else s.wires c).sent ≡ (s.wires c).sent) [
      | true ↦ λ (same : same_port c p ≡ true). ap (λ x. (s.wires x).sent) (sym (port_is c p same))
      | false ↦ λ (other : same_port c p ≡ false). refl
    ] refl

edited_acted : (s : Seen) (p : PortRef) (chars : List Char) (c : PortRef)
    → (with_wire s.wires p (record (s.wires p) { chars = chars }) c).acted ≡ (s.wires c).acted
edited_acted s p chars c =
    elim (same_port c p) as (λ t. same_port c p ≡ t
    → (if t then record (s.wires p) { chars = chars } else s.wires c).acted ≡ (s.wires c).acted) [
      | true ↦ λ (same : same_port c p ≡ true). ap (λ x. (s.wires x).acted) (sym (port_is c p same))
      | false ↦ λ (other : same_port c p ≡ false). refl
    ] refl

same_kept : (old new : Wire) → new.sent ≡ old.sent → new.acted ≡ old.acted → IsKept old → IsKept new
same_kept old new sent acted k =
    record { left = k.left; found = (λ i. behind_all (acted i) (sent i)) ∙ k.found }

-- an edit changes characters alone
pub edited_link : (s : Seen) (p : PortRef) (edit : Edit) (a b : PortRef) → IsLink s a b
    → IsLink (edited_by s (Some (p, edit))) a b
edited_link s p edit a b is =
    let chars = changed edit (s.wires p).chars in
    let kept : (c : PortRef)
    → kept_of (with_wire s.wires p (record (s.wires p) { chars = chars }) c) ≡ kept_of (s.wires c) =
    λ c i. unwrap_or (behind_all (edited_acted s p chars c i) (edited_sent s p chars c i)) [] in
    record {
      sound = record {
        port_a = is.sound.port_a;
        port_b = is.sound.port_b;
        sound =
            subst (λ (l : List Event). IsSound (port_seen s a) (port_seen s b) l
            (kept_of (with_wire s.wires p (record (s.wires p) { chars = chars }) b)))
            (sym (kept a))
            (subst (λ (l : List Event).
            IsSound (port_seen s a) (port_seen s b) (kept_of (s.wires a))
            l) (sym (kept b)) is.sound.sound);
        told_b = subst (IsTold (port_seen s b) (port_seen s a)) (sym (kept a)) is.sound.told_b;
        told_a = subst (IsTold (port_seen s a) (port_seen s b)) (sym (kept b)) is.sound.told_a;
      };
      stands = is.stands;
      kept_a = same_kept (s.wires a) _ (edited_sent s p chars a) (edited_acted s p chars a)
          is.kept_a;
      kept_b = same_kept (s.wires b) _ (edited_sent s p chars b) (edited_acted s p chars b)
          is.kept_b;
    }

-- ---- steps at nodes

pub queue_length : (net : Network) (p : PortRef) (r : ℕ) → r < 4
    → length (list_at (lists_in (queue net p)) r) ≡ to_send net p r
queue_length net p r few =
    let at = ap length (lane_at (queue net p) r few) in
    let packets = length-map (queue net p r) (λ (item : Item). item.now) in
    let both =
    length-append (filter (λ (item : Item). prio_of item.now == r) (net.lent p))
    (net.waiting p r) in
    omega (arith, at, packets, both)

-- a network with one more item that waits at a port, whatever was given out and the registers are
abbrev pub with_more : Network → PortRef → Item → ℕ → List Registers → Network
with_more net c item given devices =
    record (with_waiting net c (prio_of item.now) (item ∷ [])) {
      given = given;
      registers = devices;
    }

-- the link of that port
more_link : (s : Seen) (c : PortRef) (item : Item) (given : ℕ) (devices : List Registers)
    (b : PortRef)
    → prio_of item.now < 4 → Passes item.now → IsTrue (room_out s.network c (prio_of item.now))
    → ArePeers s.network.links c b
    → IsLink s c b → IsLink (record s { network = with_more s.network c item given devices }) c b
more_link s c item given devices b few passes fits_in peers is =
    let packet = item.now in
    let r = prio_of packet in
    let net = s.network in
    let t : Seen = record s { network = with_more s.network c item given devices } in
    let l = link_at s c b in
    let next = record l.a { queued = appended l.a.queued r packet } in
    let m = record l { a = next } in
    let prios =
    take (distance (oldest_of l.a.output) (expected_of l.b.input)) (prios_of l.a.output) in
    let covers =
    Covers-take (distance (oldest_of l.a.output) (expected_of l.b.input)) (prios_of l.a.output)
    l.a.queued is.sound.port_a.covered in
    let within : r < length l.a.queued = omega (arith, few) in
    let room : length (list_at l.a.queued r) < 16 =
    (let fits = ltb-true (to_send net c r) 16 fits_in in let counts =
    queue_length net c r few in omega (arith, fits, counts)) in
    let waits : lists_in (with_lane net.waiting c r (net.waiting c r ++ item ∷ []) c)
    ≡ appended (lists_in (net.waiting c)) r packet =
    lists_set net.waiting c r (net.waiting c r ++ item ∷ []) few
    ∙ ap (slice_set (lists_in (net.waiting c)) r)
    (packets-append (net.waiting c r) (item ∷ [])
    ∙ ap (λ (x : List (List ℕ)). x ++ packet ∷ []) (sym (lane_at (net.waiting c) r few))) in
    let lent_a =
    ap (λ (q : Queues). q.lent_a) is.stands
    ∙ sym (packets_of-appended prios l.a.queued r packet covers within) in
    let waiting_a =
    waits ∙ ap (λ (q : Queues). appended q.waiting_a r packet) is.stands
    ∙ sym (lists_without-appended prios l.a.queued r packet covers within) in
    let waiting_b =
    ap lists_in (lane_other net.waiting c r (net.waiting c r ++ item ∷ []) b
    (apart_back c b peers.apart)) ∙ ap (λ (q : Queues). q.waiting_b) is.stands in
    is_link t c b m (record {
      port_a = put_port l.a packet few passes room is.sound.port_a;
      port_b = is.sound.port_b;
      sound =
          put_keeps l.a l.b l.wire_a.kept l.wire_b.kept r packet is.sound.port_a.covered within
          is.sound.sound;
      told_b = told_by is.sound.told_b refl refl;
      told_a = told_by is.sound.told_a refl refl;
    })
    (record {
      queues = λ i. record {
        lent_a = lent_a i;
        waiting_a = waiting_a i;
        received_a = l.a.received;
        lent_b = (is.stands i).lent_b;
        waiting_b = waiting_b i;
        received_b = l.b.received;
      };
      tells_a = refl;
      tells_b = refl;
      half_a = refl;
      half_b = refl;
      wire_a = refl;
      wire_b = refl;
    })
    is.kept_a is.kept_b

some_first : (items : List Item) (packet : List ℕ) → first_packet items ≡ Some packet
    → 0 < length (packets_in items)
some_first [] packet is = absurd cc
some_first (item ∷ items) packet is = omega arith

-- the link of a port without the first packet that it has received
fewer_link : (s : Seen) (c : PortRef) (packet : List ℕ) (b : PortRef) → prio_of packet < 4
    → first_packet (s.network.received c (prio_of packet)) ≡ Some packet
    → ArePeers s.network.links c b
    → IsLink s c b → IsLink (record s { network = without_first s.network c (prio_of packet) }) c b
fewer_link s c packet b few first peers is =
    let r = prio_of packet in
    let net = s.network in
    let t : Seen = record s { network = without_first s.network c (prio_of packet) } in
    let l = link_at s c b in
    let lists = l.a.received.lists in
    let received : Buffered = record { lists = popped lists r; buffers = net.buffers c } in
    let next = record l.a { received = received } in
    let m = record l { a = next } in
    let lane = lane_at (net.received c) r few in
    let some : 0 < length (list_at lists r) =
    subst (λ (x : List (List ℕ)). 0 < length x) (sym lane)
    (some_first (net.received c r) packet first) in
    let leaves : lists_in (with_lane net.received c r (behind_first (net.received c r)) c)
    ≡ popped lists r =
    lists_set net.received c r (behind_first (net.received c r)) few
    ∙ ap (slice_set lists r) (behind_is (net.received c r) ∙ ap (drop 1) (sym lane)) in
    let others =
    ap lists_in (lane_other net.received c r (behind_first (net.received c r)) b
    (apart_back c b peers.apart)) in
    is_link t c b m (record {
      port_a = read_port l.a received l.a.place
          (IsInStore-popped lists (net.buffers c) r is.sound.port_a.receives few some)
          is.sound.port_a.bounded is.sound.port_a;
      port_b = is.sound.port_b;
      sound = other_parts l.a l.b l.wire_a.kept l.wire_b.kept received l.a.place is.sound.sound;
      told_b = told_by is.sound.told_b refl refl;
      told_a = told_by is.sound.told_a refl refl;
    })
    (record {
      queues = λ i. record {
        lent_a = (is.stands i).lent_a;
        waiting_a = (is.stands i).waiting_a;
        received_a = record { lists = leaves i; buffers = net.buffers c };
        lent_b = (is.stands i).lent_b;
        waiting_b = (is.stands i).waiting_b;
        received_b = record { lists = others i; buffers = net.buffers b };
      };
      tells_a = refl;
      tells_b = refl;
      half_a = refl;
      half_b = refl;
      wire_a = refl;
      wire_b = refl;
    })
    is.kept_a is.kept_b

-- ---- all links after a step

pub fewer_links : (s : Seen) (c : PortRef) (packet : List ℕ) → AreProper s.network.links
    → prio_of packet < 4 → first_packet (s.network.received c (prio_of packet)) ≡ Some packet
    → AreLinks s
    → AreLinks (record s { network = without_first s.network c (prio_of packet) })
fewer_links s c packet proper few first are =
    by_port s (record s { network = without_first s.network c (prio_of packet) }) c proper refl
    (λ b peers is. fewer_link s c packet b few first peers is)
    (λ d apart. record {
      lists = record {
        received = lane_other s.network.received c (prio_of packet) _ d apart;
        waiting = refl;
        lent = refl;
        buffers = refl;
        tells = refl;
      };
      wire = refl;
      half = refl;
    }) are

pub more_links : (s : Seen) (c : PortRef) (item : Item) (given : ℕ) (devices : List Registers)
    → AreProper s.network.links → prio_of item.now < 4 → Passes item.now
    → IsTrue (room_out s.network c (prio_of item.now)) → AreLinks s
    → AreLinks (record s { network = with_more s.network c item given devices })
more_links s c item given devices proper few passes room are =
    by_port s (record s { network = with_more s.network c item given devices }) c proper refl
    (λ b peers is. more_link s c item given devices b few passes room peers is)
    (λ d apart. record {
      lists = record {
        received = refl;
        waiting = lane_other s.network.waiting c (prio_of item.now) _ d apart;
        lent = refl;
        buffers = refl;
        tells = refl;
      };
      wire = refl;
      half = refl;
    }) are
