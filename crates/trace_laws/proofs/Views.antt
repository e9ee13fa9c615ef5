-- A port as the network shows it, if the network has the same of it, one packet more to be sent, or
-- one fewer received.
use Rattle.trace_laws.proofs.Prelude.{◌≡◌, ℕ, zero, suc, ◌<◌, ◌==◌, ◌&&◌, true, List, [], ◌∷◌, ◌++◌, filter, drop, slice_set, sym, ap, ◌∙◌, arith, append_assoc, if◌then◌else◌, prio_of, appended, popped, Registers, PortRef, Item, Network, with_lane, behind_first, same_port-refl, packets_in, lists_in, queue, Seen, port_seen, wire_state, link_at, packets-append, behind_is, lane_at, lists_set, Untouched, with_more}

-- ---- nothing of it changes

pub same_seen : (s t : Seen) (c : PortRef) → Untouched s t c → port_seen t c ≡ port_seen s c
same_seen s t c u =
    λ i. record {
      place = (u.half i).place;
      output = (u.half i).output;
      input = (u.half i).input;
      queued = lists_in (λ r. filter (λ item. prio_of item.now == r) (u.lists.lent i)
          ++ u.lists.waiting i r);
      received = record { lists = lists_in (u.lists.received i); buffers = u.lists.buffers i };
      tells = u.lists.tells i;
    }

pub same_link_at : (s t : Seen) (a b : PortRef) → Untouched s t a → Untouched s t b
    → link_at t a b ≡ link_at s a b
same_link_at s t a b first second =
    let one = same_seen s t a first in
    let two = same_seen s t b second in
    λ i. record {
      a = one i;
      b = two i;
      wire_a = wire_state (first.wire i);
      wire_b = wire_state (second.wire i);
    }

-- ---- one packet more is to be sent

one_more : (lent waiting : List Item) (item : Item)
    → packets_in (lent ++ (waiting ++ item ∷ [])) ≡ packets_in (lent ++ waiting) ++ item.now ∷ []
one_more lent waiting item =
    ap packets_in (sym (append_assoc lent waiting (item ∷ [])))
    ∙ packets-append (lent ++ waiting) (item ∷ [])

-- the lists of four lanes, one of which has an item more
lists_more : (lent waiting : ℕ → List Item) (r : ℕ) (item : Item) → r < 4
    → lists_in (λ k. lent k ++ (if true && (k == r) then waiting r ++ item ∷ [] else waiting k))
    ≡ appended (lists_in (λ k. lent k ++ waiting k)) r item.now
lists_more lent waiting zero item few =
    ap (λ (l : List (List ℕ)). l ∷ packets_in (lent 1 ++ waiting 1)
    ∷ packets_in (lent 2 ++ waiting 2) ∷ packets_in (lent 3 ++ waiting 3) ∷ [])
    (one_more (lent 0) (waiting 0) item)
lists_more lent waiting (suc zero) item few =
    ap (λ (l : List (List ℕ)). packets_in (lent 0 ++ waiting 0) ∷ l
    ∷ packets_in (lent 2 ++ waiting 2) ∷ packets_in (lent 3 ++ waiting 3) ∷ [])
    (one_more (lent 1) (waiting 1) item)
lists_more lent waiting (suc (suc zero)) item few =
    ap (λ (l : List (List ℕ)). packets_in (lent 0 ++ waiting 0) ∷ packets_in (lent 1 ++ waiting 1)
    ∷ l ∷ packets_in (lent 3 ++ waiting 3) ∷ [])
    (one_more (lent 2) (waiting 2) item)
lists_more lent waiting (suc (suc (suc zero))) item few =
    ap (λ (l : List (List ℕ)). packets_in (lent 0 ++ waiting 0) ∷ packets_in (lent 1 ++ waiting 1)
    ∷ packets_in (lent 2 ++ waiting 2) ∷ l ∷ [])
    (one_more (lent 3) (waiting 3) item)
lists_more lent waiting (suc (suc (suc (suc r)))) item few = absurd (omega (arith, few))

pub more_queued : (net : Network) (c : PortRef) (item : Item) (given : ℕ)
    (devices : List Registers) → prio_of item.now < 4
    → lists_in (queue (with_more net c item given devices) c)
    ≡ appended (lists_in (queue net c)) (prio_of item.now) item.now
more_queued net c item given devices few =
    let r = prio_of item.now in
    ap (λ own. lists_in (λ k. filter (λ x. prio_of x.now == k) (net.lent c)
    ++ (if own && (k == r) then net.waiting c r ++ item ∷ [] else net.waiting c k)))
    (same_port-refl c)
    ∙ lists_more (λ k. filter (λ x. prio_of x.now == k) (net.lent c)) (net.waiting c) r item few

-- ---- one fewer is received

pub fewer_received : (net : Network) (c : PortRef) (r : ℕ) → r < 4
    → lists_in (with_lane net.received c r (behind_first (net.received c r)) c)
    ≡ popped (lists_in (net.received c)) r
fewer_received net c r few =
    lists_set net.received c r (behind_first (net.received c r)) few
    ∙ ap (slice_set (lists_in (net.received c)) r)
    (behind_is (net.received c r) ∙ ap (drop 1) (sym (lane_at (net.received c) r few)))
