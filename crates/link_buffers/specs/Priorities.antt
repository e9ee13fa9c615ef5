-- Packets that a list of priorities takes out of the lists of a store: for each priority in turn,
-- the first packet of its list. With the priorities of the outstanding packets, in the order in
-- which they were sent, these are the outstanding packets themselves.
use Rattle.std.specs.Prelude.{ℕ, zero, suc, ◌≤◌, ◌==◌, nat_lt, if◌then◌else◌, Option, Some, None, List, [], ◌∷◌, ◌++◌, length, take, count_by}
use Rattle.link_buffers.specs.Queues.{list_at, popped}

-- the packets taken, in turn; an empty list gives none
abbrev pub packets_of : List ℕ → List (List (List ℕ)) → List (List ℕ)
packets_of [] lists = []
packets_of (prio ∷ prios) lists =
    take 1 (list_at lists prio) ++ packets_of prios (popped lists prio)

-- the lists that stay
abbrev pub lists_without : List ℕ → List (List (List ℕ)) → List (List (List ℕ))
lists_without [] lists = lists
lists_without (prio ∷ prios) lists = lists_without prios (popped lists prio)

-- how often a priority stands in the list
abbrev pub count_of : List ℕ → ℕ → ℕ
count_of prios prio = count_by (λ other. other == prio) prios

-- each list has at least as many packets as there are of its priority, so that no priority meets an
-- empty list
abbrev pub Covers : List ℕ → List (List (List ℕ)) → Type 0
Covers prios lists = (prio : ℕ) → count_of prios prio ≤ length (list_at lists prio)

-- the highest priority below a number that has a packet
unfoldable pub highest_below : ℕ → List (List (List ℕ)) → Option ℕ
highest_below zero lists = None
highest_below (suc prio) lists =
    if nat_lt 0 (length (list_at lists prio)) then Some prio else highest_below prio lists

-- the highest priority that has a packet
abbrev pub highest : List (List (List ℕ)) → Option ℕ
highest lists = highest_below 4 lists
