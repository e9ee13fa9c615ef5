-- What steps make of the lists of ports, and what a port is that has the lists of another network.
use Rattle.std.proofs.Common.{◌≡◌, ◌≢◌, ◌⊎◌, ℕ, Bool, zero, suc, ◌<◌, ◌==◌, ◌&&◌, inl, inr, true, false, List, [], ◌∷◌, ◌++◌, filter, drop, length, slice_set, refl, sym, ap, ◌∙◌, arith, if◌then◌else◌, append_assoc, length-set}
use Rattle.std.proofs.lemmas.Bool.{cases_eq, false_from_ne_true}
use Rattle.rio_packets.specs.Fields.{prio_of}
use Rattle.link_buffers.specs.Queues.{list_at, appended, popped}
use Rattle.link_port.specs.Ports.{PortState, AreAlike}
use Rattle.switch_core.specs.Faces.{Face, face_at, without_head, with_packet, taken_at, put_at}
use Rattle.fabric_script.specs.declared.ports.PortRef.{PortRef}
use Rattle.fabric_model.specs.Network.{Item, Network, same_port, with_lane}
use Rattle.fabric_model.specs.Steps.{behind_first, without_first, with_waiting}
use Rattle.fabric_model.proofs.Peers.{port_is, same_port-refl}
use Rattle.fabric_trace.specs.Known.{Seen, port_seen}
use Rattle.fabric_trace.specs.Served.{face_in}
use Rattle.fabric_trace.specs.Views.{packets_in, lists_in, queue}
use Rattle.fabric_trace.proofs.Network.Lanes.{packets-append, behind_is, lane_at, lists_set, lane_other}

-- ---- without the first packet that a port has received

pub without_own : (net : Network) (p : PortRef) (r : ℕ) → r < 4
    → face_in (without_first net p r) p ≡ without_head (face_in net p) r
without_own net p r few =
    let rest = behind_first (net.received p r) in
    let own : lists_in (with_lane net.received p r rest p) ≡ popped (lists_in (net.received p)) r =
    lists_set net.received p r rest few
    ∙ ap (slice_set (lists_in (net.received p)) r) (behind_is (net.received p r)
    ∙ ap (drop 1) (sym (lane_at (net.received p) r few))) in
    λ i. record { received = own i; queued = lists_in (queue net p) }

pub without_other : (net : Network) (p : PortRef) (r : ℕ) (q : PortRef) → same_port q p ≡ false
    → face_in (without_first net p r) q ≡ face_in net q
without_other net p r q apart =
    let lane = lane_other net.received p r (behind_first (net.received p r)) q apart in
    λ i. record { received = lists_in (lane i); queued = lists_in (queue net q) }

-- ---- with one packet more that waits at a port

-- of two lots of lanes, joined, one of the second is replaced
joined_set : (first second : ℕ → List Item) (r : ℕ) (more : List Item) → r < 4
    → lists_in (λ q. first q ++ (if true && (q == r) then more else second q)) ≡ slice_set
    (lists_in (λ q. first q ++ second q)) r (packets_in (first r ++ more))
joined_set first second zero more few = refl
joined_set first second (suc zero) more few = refl
joined_set first second (suc (suc zero)) more few = refl
joined_set first second (suc (suc (suc zero))) more few = refl
joined_set first second (suc (suc (suc (suc r)))) more few = absurd (omega arith)

lent_of : Network → PortRef → ℕ → List Item
lent_of net p q = filter (λ item. prio_of item.now == q) (net.lent p)

queue_more : (net : Network) (p : PortRef) (r : ℕ) (item : Item) → r < 4
    → lists_in (λ q. lent_of net p q ++ with_lane net.waiting p r (net.waiting p r ++ item ∷ []) p
    q) ≡ appended (lists_in (queue net p)) r item.now
unfolding lent_of
queue_more net p r item few =
    let first = lent_of net p in
    let more = net.waiting p r ++ item ∷ [] in
    let own = ap (λ own.
    lists_in (λ q. first q ++ (if own && (q == r) then more else net.waiting p q)))
    (same_port-refl p) in
    let put : packets_in (first r ++ more) ≡ list_at (lists_in (queue net p)) r ++ item.now ∷ [] =
    ap packets_in (sym (append_assoc (first r) (net.waiting p r) (item ∷ [])))
    ∙ packets-append (first r ++ net.waiting p r) (item ∷ [])
    ∙ ap (λ (x : List (List ℕ)). x ++ item.now ∷ []) (sym (lane_at (queue net p) r few)) in
    own ∙ joined_set first (net.waiting p) r more few
    ∙ ap (slice_set (lists_in (queue net p)) r) put

pub more_own : (net : Network) (p : PortRef) (item : Item) → prio_of item.now < 4
    → face_in (with_waiting net p (prio_of item.now) (item ∷ [])) p
    ≡ with_packet (face_in net p) item.now
unfolding lent_of
more_own net p item few =
    let own = queue_more net p (prio_of item.now) item few in
    λ i. record { received = lists_in (net.received p); queued = own i }

pub more_other : (net : Network) (p : PortRef) (r : ℕ) (items : List Item) (q : PortRef)
    → same_port q p ≡ false → face_in (with_waiting net p r items) q ≡ face_in net q
more_other net p r items q apart =
    let lane = lane_other net.waiting p r (net.waiting p r ++ items) q apart in
    λ i. record {
      received = lists_in (net.received q);
      queued = lists_in (λ k. filter (λ item. prio_of item.now == k) (net.lent q) ++ lane i k);
    }

-- ---- the ports of one node

abbrev pub port : ℕ → ℕ → PortRef
port node n = record { node = node; port = n }

pub nodes_differ : (p q : PortRef) → q.node ≢ p.node → same_port q p ≡ false
nodes_differ p q apart =
    false_from_ne_true (same_port q p)
    (λ same. apart (ap (λ (c : PortRef). c.node) (port_is q p same)))

pub ports_part : (p q : PortRef) → (q.node ≡ p.node → q.port ≢ p.port) → same_port q p ≡ false
ports_part p q apart =
    false_from_ne_true (same_port q p)
    (λ same. apart (ap (λ (c : PortRef). c.node) (port_is q p same))
    (ap (λ (c : PortRef). c.port) (port_is q p same)))

ports_differ : (node j k : ℕ) → j ≢ k → same_port (port node j) (port node k) ≡ false
ports_differ node j k apart =
    false_from_ne_true (same_port (port node j) (port node k))
    (λ same. apart (ap (λ (c : PortRef). c.port) (port_is (port node j) (port node k) same)))

-- these are the lists of a node's first ports
abbrev pub AreFacesOf : Network → ℕ → ℕ → List Face → Type 0
AreFacesOf net node n faces =
    (length faces ≡ n) × ((j : ℕ) → j < n → face_in net (port node j) ≡ face_at faces j)

face_set : (faces : List Face) (n : ℕ) (x : Face) → n < length faces
    → face_at (slice_set faces n x) n ≡ x
face_set [] n x below = absurd (omega (arith, below))
face_set (f ∷ faces) zero x below = refl
face_set (f ∷ faces) (suc n) x below = face_set faces n x (omega (arith, below))

face_other : (faces : List Face) (n j : ℕ) (x : Face) → j ≢ n
    → face_at (slice_set faces n x) j ≡ face_at faces j
face_other [] n j x apart = refl
face_other (f ∷ faces) zero zero x apart = absurd (apart refl)
face_other (f ∷ faces) zero (suc j) x apart = refl
face_other (f ∷ faces) (suc n) zero x apart = refl
face_other (f ∷ faces) (suc n) (suc j) x apart =
    face_other faces n j x (λ same. apart (ap suc same))

-- the lists of one port are replaced
one_face : (net next : Network) (node n at : ℕ) (faces : List Face) (x : Face)
    → AreFacesOf net node n faces → (at < n → face_in next (port node at) ≡ x)
    → ((q : PortRef) → same_port q (port node at) ≡ false → face_in next q ≡ face_in net q)
    → AreFacesOf next node n (slice_set faces at x)
one_face net next node n at faces x are own others =
    (length-set faces at x ∙ are.0, λ j below. by_place j below (cases_eq j at))
  where
    by_place : (j : ℕ) → j < n → ((j ≡ at) ⊎ (j ≡ at → ⊥))
        → face_in next (port node j) ≡ face_at (slice_set faces at x) j
    by_place j below (inl same) =
        let count = are.0 in
        ap (λ k. face_in next (port node k)) same ∙ own (omega (arith, below, same))
        ∙ sym (face_set faces at x (omega (arith, below, same, count)))
        ∙ ap (face_at (slice_set faces at x)) (sym same)
    by_place j below (inr apart) =
        others (port node j) (ports_differ node j at apart) ∙ are.1 j below
        ∙ sym (face_other faces at j x apart)

pub taken_faces : (net : Network) (node n at r : ℕ) (faces : List Face) → r < 4
    → AreFacesOf net node n faces
    → AreFacesOf (without_first net (port node at) r) node n (taken_at faces at r)
taken_faces net node n at r faces few are =
    one_face net (without_first net (port node at) r) node n at faces
    (without_head (face_at faces at) r) are
    (λ below. without_own net (port node at) r few ∙ ap (λ f. without_head f r) (are.1 at below))
    (λ q apart. without_other net (port node at) r q apart)

pub put_faces : (net : Network) (node n at : ℕ) (item : Item) (faces : List Face)
    → prio_of item.now < 4 → AreFacesOf net node n faces
    → AreFacesOf (with_waiting net (port node at) (prio_of item.now) (item ∷ [])) node n
    (put_at faces at item.now)
put_faces net node n at item faces few are =
    one_face net (with_waiting net (port node at) (prio_of item.now) (item ∷ [])) node n at faces
    (with_packet (face_at faces at) item.now) are
    (λ below. more_own net (port node at) item few
    ∙ ap (λ f. with_packet f item.now) (are.1 at below))
    (λ q apart. more_other net (port node at) (prio_of item.now) (item ∷ []) q apart)

-- ---- ports

-- the lists of a port, as a switch or an endpoint sees them
abbrev pub face_of_port : PortState → Face
face_of_port port = record { received = port.received.lists; queued = port.queued }

-- the ports of two networks have as many buffers, and tell their free ones or do not alike
abbrev pub SamePlans : Network → Network → Type 0
SamePlans next net = (next.buffers ≡ net.buffers) × (next.tells ≡ net.tells)

-- a port that is alike to what it was, and has the lists of another network, is the one that is
-- known there
pub port_faced : (s : Seen) (next : Network) (p : PortRef) (y : PortState)
    → SamePlans next s.network → AreAlike (port_seen s p) y
    → face_of_port y ≡ face_in next p → port_seen (record s { network = next }) p ≡ y
port_faced s next p y plans alike face =
    let own = sym face in
    let many = ap (λ (f : PortRef → ℕ). f p) plans.0 ∙ alike.0 in
    let tells = ap (λ (f : PortRef → Bool). f p) plans.1 ∙ alike.4 in
    λ i. record {
      place = alike.1 i;
      output = alike.2 i;
      input = alike.3 i;
      queued = (own i).queued;
      received = record { lists = (own i).received; buffers = many i };
      tells = tells i;
    }

-- a port whose lists are as they were stays
pub port_stays : (s : Seen) (next : Network) (p : PortRef) → SamePlans next s.network
    → face_in next p ≡ face_in s.network p
    → port_seen (record s { network = next }) p ≡ port_seen s p
port_stays s next p plans face =
    port_faced s next p (port_seen s p) plans (refl, refl, refl, refl, refl) (sym face)
