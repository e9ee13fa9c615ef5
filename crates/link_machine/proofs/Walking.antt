-- What an event does to the packets of a link, as steps of plain queues.
use Rattle.link_machine.proofs.Prelude.{◌≡◌, ℕ, ◌++◌, List, [], ◌∷◌, map, drop, slice_get, Option, Some, None, option_to_list, sym, ap, ◌∙◌, subst, PortState, Holds, Frees, Side, A, B, Move, Held, Freed, Queues, queues_between, queues_round, NeedsFirst, first_moved, steps_at, Walks, WalkEnds, WalkGoes}

-- steps of the first port, one after another
pub data FirstWalks : Queues → List Move → Queues → Type 0 where
  Stays : {q : Queues} → FirstWalks q [] q
  Moves : {q end : Queues} {moves : List Move} (move : Move) → NeedsFirst move q
      → FirstWalks (first_moved move q) moves end → FirstWalks q (move ∷ moves) end

pub walks_on : {q mid end : Queues} {first rest : List Move} → FirstWalks q first mid
    → FirstWalks mid rest end → FirstWalks q (first ++ rest) end
walks_on Stays more = more
walks_on (Moves move needs walk) more = Moves move needs (walks_on walk more)

-- the queues with this end first
abbrev pub queues_from : Side → Queues → Queues
queues_from A q = q
queues_from B q = queues_round q

pub walks_at : {q end : Queues} {moves : List Move} (side : Side) → FirstWalks q moves end
    → Walks (queues_from side q) (steps_at side moves) (queues_from side end)
walks_at _ Stays = WalkEnds
walks_at A (Moves move needs walk) = WalkGoes A move needs (walks_at A walk)
walks_at B (Moves move needs walk) = WalkGoes B move needs (walks_at B walk)

-- packets that are freed, one after another
freed_walk :
    (freed : List (List ℕ)) (q end : Queues) → q.lent_a ≡ freed ++ end.lent_a
    → record q { lent_a = end.lent_a } ≡ end
    → FirstWalks q (map (λ packet. Freed packet) freed) end
freed_walk [] q end lent same =
    let all : q ≡ end = (λ i. record q { lent_a = lent i }) ∙ same in
    subst (λ (r : Queues). FirstWalks q [] r) all Stays
freed_walk (packet ∷ freed) q end lent same =
    Moves (Freed packet) (ap (λ (l : List (List ℕ)). slice_get l 0) lent)
    (freed_walk freed (record q { lent_a = drop 1 q.lent_a }) end (ap (drop 1) lent) same)

-- the packet that an event had the first port hold, and those that it had it free
pub event_walks :
    (a b next : PortState) (held : Option (List ℕ)) (freed : List (List ℕ)) → Holds b a next held
    → Frees a next b freed
    → FirstWalks (queues_between a b)
    (map (λ packet. Held packet) (option_to_list held) ++ map (λ packet. Freed packet) freed)
    (queues_between next b)
event_walks a b next None freed h f =
    freed_walk freed (queues_between a b) (queues_between next b) f.0
    (λ i. record (queues_between next b) {
      waiting_a = sym f.1 i;
      received_a = sym h.2 i;
      lent_b = sym h.0 i;
      waiting_b = sym h.1 i;
    })
event_walks a b next (Some packet) freed h f =
    Moves (Held packet) (h.0, h.1)
    (freed_walk freed (first_moved (Held packet) (queues_between a b)) (queues_between next b) f.0
    (λ i. record (queues_between next b) {
      waiting_a = sym f.1 i;
      received_a = sym h.4 i;
      lent_b = sym h.2 i;
      waiting_b = sym h.3 i;
    }))
