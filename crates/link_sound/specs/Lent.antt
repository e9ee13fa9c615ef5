-- A port's packets to be sent as plain first-in first-out queues: those that the far port holds and
-- this one has not freed, and those that still wait.
use Rattle.std.specs.Prelude.{◌≡◌, ℕ, ◌∷◌, ◌++◌, [], List, Option, Some, None, slice_get, take, true}
use Rattle.link_model.specs.Prelude.{prio_of, Output, distance}
use Rattle.link_buffers.specs.Prelude.{Buffered, list_at, popped, appended, room_for, packets_of, lists_without}
use Rattle.link_port.specs.Prelude.{PortState, prios_of, expected_of}
use Rattle.link_sound.specs.Meanings.{oldest_of}

-- the first of the outstanding packets, up to the one that the far port expects
abbrev pub lent_until : Output → ℕ → List (List (List ℕ)) → List (List ℕ)
lent_until output expected queued =
    packets_of (take (distance (oldest_of output) expected) (prios_of output)) queued

-- the lists without them
abbrev pub waiting_from : Output → ℕ → List (List (List ℕ)) → List (List (List ℕ))
waiting_from output expected queued =
    lists_without (take (distance (oldest_of output) expected) (prios_of output)) queued

-- of a port and the port at the other end
abbrev pub lent : PortState → PortState → List (List ℕ)
lent p q = lent_until p.output (expected_of q.input) p.queued

abbrev pub waiting : PortState → PortState → List (List (List ℕ))
waiting p q = waiting_from p.output (expected_of q.input) p.queued

-- What a receiver that holds a packet does to its direction: the packet is the first of its
-- priority that waits, and has room. Where it holds none, nothing of the direction moves. The
-- stores and the expected ackID are those before and after.
abbrev pub HoldsAt : Output → List (List (List ℕ)) → (before after : Buffered) → (expected next : ℕ)
    → Option (List ℕ) → Type 0
HoldsAt output queued before after expected next None =
    (lent_until output next queued ≡ lent_until output expected queued)
    × (waiting_from output next queued ≡ waiting_from output expected queued) × (after ≡ before)
HoldsAt output queued before after expected next (Some packet) =
    (slice_get (list_at (waiting_from output expected queued) (prio_of packet)) 0 ≡ Some packet)
    × (room_for before (prio_of packet) ≡ true)
    × (lent_until output next queued ≡ lent_until output expected queued ++ packet ∷ [])
    × (waiting_from output next queued
    ≡ popped (waiting_from output expected queued) (prio_of packet))
    × (after ≡ record before { lists = appended before.lists (prio_of packet) packet })

-- the port q, and then next, at the other end of p
abbrev pub Holds : (p q next : PortState) → Option (List ℕ) → Type 0
Holds p q next held =
    HoldsAt p.output p.queued q.received next.received (expected_of q.input)
    (expected_of next.input) held

-- The port p, and then next, frees packets: they are the first of those that q holds for it, and
-- nothing else moves.
abbrev pub Frees : (p next q : PortState) → List (List ℕ) → Type 0
Frees p next q freed = (lent p q ≡ freed ++ lent next q) × (waiting next q ≡ waiting p q)
