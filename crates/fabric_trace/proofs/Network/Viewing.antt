-- A port whose packets lie as the network has them is the network's view of it.
use Rattle.fabric_trace.proofs.Prelude.{◌≡◌, ℕ, ◌<◌, ◌==◌, List, [], ◌∷◌, ◌++◌, filter, length, take, refl, sym, ap, ◌∙◌, subst, arith, prio_of, list_at, of_prio, Covers-take, distance, PortState, IsPort, prios_of, expected_of, oldest_of, Queues, queues_of, IsSoundLink, LinkState, PortRef, Network, half_of, packets_in, lists_in, queue, view, Seen, link_at, wire_state, queues_in, IsKept, IsLink}
use Rattle.link_buffers.proofs.PriorityParts.{list-parts}
use Rattle.link_sound.specs.Lent.{lent, waiting}
use Rattle.fabric_trace.proofs.Network.Lanes.{packets-append, of_prio_is, lane_at}

four_lists : (lists : List (List (List ℕ))) → length lists ≡ 4
    → lists ≡ list_at lists 0 ∷ list_at lists 1 ∷ list_at lists 2 ∷ list_at lists 3 ∷ []
four_lists [] four = absurd (omega (arith, four))
four_lists (a ∷ []) four = absurd (omega (arith, four))
four_lists (a ∷ b ∷ []) four = absurd (omega (arith, four))
four_lists (a ∷ b ∷ c ∷ []) four = absurd (omega (arith, four))
four_lists (a ∷ b ∷ c ∷ d ∷ []) four = refl
four_lists (a ∷ b ∷ c ∷ d ∷ e ∷ lists) four = absurd (omega (arith, four))

queue_at : (net : Network) (a : PortRef) (near far : PortState) → IsPort near
    → packets_in (net.lent a) ≡ lent near far → lists_in (net.waiting a) ≡ waiting near far
    → (r : ℕ) → r < 4 → packets_in (queue net a r) ≡ list_at near.queued r
queue_at net a near far is lends waits r few =
    let count = distance (oldest_of near.output) (expected_of far.input) in
    let prios = take count (prios_of near.output) in
    packets-append (filter (λ item. prio_of item.now == r) (net.lent a)) (net.waiting a r)
    ∙ (λ i. of_prio_is r (net.lent a) i ++ sym (lane_at (net.waiting a) r few) i)
    ∙ (λ i. of_prio r (lends i) ++ list_at (waits i) r)
    ∙ sym (list-parts r prios near.queued is.sends.four is.sends.sorted
    (Covers-take count (prios_of near.output) near.queued is.covered))

view_is : (net : Network) (a : PortRef) (near far : PortState) → IsPort near
    → packets_in (net.lent a) ≡ lent near far → lists_in (net.waiting a) ≡ waiting near far
    → record { lists = lists_in (net.received a); buffers = net.buffers a } ≡ near.received
    → net.tells a ≡ near.tells → view net a (half_of near) ≡ near
view_is net a near far is lends waits receives tells =
    let at = queue_at net a near far is lends waits in
    let zeroth = at 0 (omega arith) in
    let first = at 1 (omega arith) in
    let second = at 2 (omega arith) in
    let third = at 3 (omega arith) in
    let queued : lists_in (queue net a) ≡ near.queued =
    (λ i. zeroth i ∷ first i ∷ second i ∷ third i ∷ [])
    ∙ sym (four_lists near.queued is.sends.four) in
    λ i. record {
      place = near.place;
      output = near.output;
      input = near.input;
      queued = queued i;
      received = receives i;
      tells = tells i;
    }

-- What is known of two ports: the network has their queues and says which of them tells, and their
-- halves and wires are these.
pub record Shows (t : Seen) (a b : PortRef) (m : LinkState) : Type 0 where
  pub queues : queues_in t.network a b ≡ queues_of m
  pub tells_a : t.network.tells a ≡ m.a.tells
  pub tells_b : t.network.tells b ≡ m.b.tells
  pub half_a : t.halves a ≡ half_of m.a
  pub half_b : t.halves b ≡ half_of m.b
  pub wire_a : wire_state (t.wires a) ≡ m.wire_a
  pub wire_b : wire_state (t.wires b) ≡ m.wire_b

pub link_is : (t : Seen) (a b : PortRef) (m : LinkState) → IsPort m.a → IsPort m.b → Shows t a b m
    → link_at t a b ≡ m
link_is t a b m near far shows =
    let q = shows.queues in
    let view_a : view t.network a (t.halves a) ≡ m.a =
    ap (view t.network a) shows.half_a
    ∙ view_is t.network a m.a m.b near (ap (λ (x : Queues). x.lent_a) q)
    (ap (λ (x : Queues). x.waiting_a) q) (ap (λ (x : Queues). x.received_a) q) shows.tells_a in
    let view_b : view t.network b (t.halves b) ≡ m.b =
    ap (view t.network b) shows.half_b
    ∙ view_is t.network b m.b m.a far (ap (λ (x : Queues). x.lent_b) q)
    (ap (λ (x : Queues). x.waiting_b) q) (ap (λ (x : Queues). x.received_b) q) shows.tells_b in
    λ i. record { a = view_a i; b = view_b i; wire_a = shows.wire_a i; wire_b = shows.wire_b i }

-- a sound link that is shown is the link of the two ports
pub is_link : (t : Seen) (a b : PortRef) (m : LinkState) → IsSoundLink m → Shows t a b m
    → IsKept (t.wires a) → IsKept (t.wires b) → IsLink t a b
is_link t a b m sound shows kept_a kept_b =
    let is = link_is t a b m sound.port_a sound.port_b shows in
    record {
      sound = subst IsSoundLink (sym is) sound;
      stands = shows.queues ∙ ap queues_of (sym is);
      kept_a = kept_a;
      kept_b = kept_b;
    }
