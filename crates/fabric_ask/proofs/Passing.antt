-- A link that settles has carried the one packet over.
use Rattle.fabric_ask.proofs.Prelude.{◌≡◌, ℕ, zero, suc, ◌+◌, ◌-◌, ◌<◌, ◌≤◌, ◌==◌, IsSome, List, [], ◌∷◌, ◌++◌, length, filter, Option, Some, None, refl, ap, ◌∙◌, arith, inl, inr, length-append, lt-ltb, prio_of, packet_count, IsDone, IsSettled, PortRef, Item, in_turn, packets_in, lists_in, queue, Seen, link_at, port_seen, IsLink, counted}
use Rattle.link_buffers.proofs.PriorityLaws.{packet_count-highest}
use Rattle.link_machine.specs.Queues.{Queues}

no_items : (items : List Item) → packets_in items ≡ [] → items ≡ []
no_items [] none = refl
no_items (item ∷ items) none = absurd cc

-- at a settled link nothing is lent
pub lent_none : (t : Seen) (a b : PortRef) → IsLink t a b → IsSettled (link_at t a b)
    → (t.network.lent a ≡ []) × (t.network.lent b ≡ [])
lent_none t a b is settled = (
  no_items (t.network.lent a) (ap (λ (q : Queues). q.lent_a) is.stands ∙ settled.lent_a),
  no_items (t.network.lent b) (ap (λ (q : Queues). q.lent_b) is.stands ∙ settled.lent_b),
)

-- one of the lists has a packet
lists_some : (lanes : ℕ → List Item) (r : ℕ) → r < 4 → 0 < length (lanes r)
    → 0 < packet_count (lists_in lanes)
lists_some lanes r few some =
    let three = length-append (lanes 3) (lanes 2 ++ (lanes 1 ++ lanes 0)) in
    let two = length-append (lanes 2) (lanes 1 ++ lanes 0) in
    let one = length-append (lanes 1) (lanes 0) in
    let all = counted lanes in
    by_prio r few some (omega (arith, three, two, one, all))
  where
    by_prio : (r : ℕ) → r < 4 → 0 < length (lanes r)
        → packet_count (lists_in lanes) ≡ length (lanes 3) +
        (length (lanes 2) + (length (lanes 1) + length (lanes 0)))
        → 0 < packet_count (lists_in lanes)
    by_prio zero few some all = omega (arith, some, all)
    by_prio (suc zero) few some all = omega (arith, some, all)
    by_prio (suc (suc zero)) few some all = omega (arith, some, all)
    by_prio (suc (suc (suc zero))) few some all = omega (arith, some, all)
    by_prio (suc (suc (suc (suc r)))) few some all = absurd (omega arith)

lists_none : (lanes : ℕ → List Item) → ((r : ℕ) → lanes r ≡ []) → packet_count (lists_in lanes) ≡ 0
lists_none lanes none =
    let empty : in_turn lanes ≡ [] = λ i. none 3 i ++ (none 2 i ++ (none 1 i ++ none 0 i)) in
    counted lanes ∙ ap length empty

-- at a settled link no packet waits that has room
pub waits_not : (t : Seen) (a b : PortRef) (r : ℕ) → IsLink t a b
    → IsDone (port_seen t a) (port_seen t b) → 4 ≤ t.network.buffers b → r < 4
    → 0 < length (t.network.waiting a r) → ((s : ℕ) → t.network.received b s ≡ []) → ⊥
waits_not t a b r is done least few some none = by_end done
  where
    queue_some : 0 < length (queue t.network a r)
    queue_some =
        let both = length-append (filter (λ item. prio_of item.now == r) (t.network.lent a))
        (t.network.waiting a r) in
        omega (arith, both, some)

    there : 0 < packet_count (lists_in (queue t.network a))
    there = lists_some (queue t.network a) r few queue_some

    empty : packet_count (lists_in (t.network.received b)) ≡ 0
    empty = lists_none (t.network.received b) none

    some_none : (o : Option ℕ) → o ≡ None → IsSome o → ⊥
    some_none None is some = absurd cc
    some_none (Some x) is some = absurd cc

    by_end : IsDone (port_seen t a) (port_seen t b) → ⊥
    by_end (inl highest_none) = some_none _ highest_none
        ((packet_count-highest (lists_in (queue t.network a)) refl).0 there)
    by_end (inr blocked) =
        let room = lt-ltb (packet_count (lists_in (t.network.received b)) +
        (3 - prio_of blocked.packet)) (t.network.buffers b) (omega (arith, empty, least)) in
        absurd (cc (room, blocked.full))

-- one of the lanes has a packet
pub turn_some : (lanes : ℕ → List Item) (r : ℕ) → r < 4 → 0 < length (lanes r)
    → 0 < length (in_turn lanes)
turn_some lanes r few some = let there = lists_some lanes r few some in let all = counted lanes in
    omega (arith, there, all)
