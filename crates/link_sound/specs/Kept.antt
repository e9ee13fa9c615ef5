-- What is said of the events that are on their way, in the order in which they were sent. An ackID
-- is a number of a packet modulo 32; packets are numbered from 0 on, in the order in which they
-- were sent, and those that are sent again are numbered anew.
use Rattle.std.specs.Prelude.{◌≡◌, ℕ, suc, ◌%◌, ◌<◌, ◌≤◌, Bool, false, List, [], ◌∷◌, Some, slice_get}
use Rattle.link_sound.specs.Marks.{Forward, ForwardPacket, ForwardRestart, ForwardRequest, Other, is_restart, is_forward, Backward, Accept, Retry, Response, Neutral, is_retry, is_backward}

-- nothing of a kind is on its way
abbrev pub Lacks : {X : Type 0} → (X → Bool) → List X → Type 0
Lacks kind [] = Unit {0}
Lacks kind (e ∷ kept) = (kind e ≡ false) × Lacks kind kept

-- the acceptances are of packets that are held, the first at least of `least`, each of a later one
-- than those before it
abbrev pub AcceptsInTurn : (least held : ℕ) → List Backward → Type 0
AcceptsInTurn least held [] = Unit {0}
AcceptsInTurn least held (Accept ack ∷ kept) =
    (n : ℕ) × (ack ≡ n % 32) × (least ≤ n) × (n < held) × AcceptsInTurn (suc n) held kept
AcceptsInTurn least held (Retry ack ∷ kept) = AcceptsInTurn least held kept
AcceptsInTurn least held (Response ack ∷ kept) = AcceptsInTurn least held kept
AcceptsInTurn least held (Neutral ∷ kept) = AcceptsInTurn least held kept

-- the packets are among those sent, the first at least at `least`, each a later one than those
-- before it
abbrev pub PacketsInTurn : List (List ℕ) → (least : ℕ) → List Forward → Type 0
PacketsInTurn sent least [] = Unit {0}
PacketsInTurn sent least (ForwardPacket ack packet ∷ kept) =
    (n : ℕ) × (ack ≡ n % 32) × (least ≤ n) × (slice_get sent n ≡ Some packet)
    × PacketsInTurn sent (suc n) kept
PacketsInTurn sent least (ForwardRestart ∷ kept) = PacketsInTurn sent least kept
PacketsInTurn sent least (ForwardRequest ∷ kept) = PacketsInTurn sent least kept
PacketsInTurn sent least (Other ∷ kept) = PacketsInTurn sent least kept

-- at most one packet-retry, of the packet that is expected
abbrev pub RetryOnce : (held : ℕ) → List Backward → Type 0
RetryOnce held [] = Unit {0}
RetryOnce held (Accept ack ∷ kept) = RetryOnce held kept
RetryOnce held (Retry ack ∷ kept) = (ack ≡ held % 32) × Lacks is_retry kept
RetryOnce held (Response ack ∷ kept) = RetryOnce held kept
RetryOnce held (Neutral ∷ kept) = RetryOnce held kept

-- at most one restart-from-retry, and behind it packets from the expected one on
abbrev pub RestartOnce : List (List ℕ) → (held : ℕ) → List Forward → Type 0
RestartOnce sent held [] = Unit {0}
RestartOnce sent held (ForwardPacket ack packet ∷ kept) = RestartOnce sent held kept
RestartOnce sent held (ForwardRestart ∷ kept) = Lacks is_restart kept × PacketsInTurn sent held kept
RestartOnce sent held (ForwardRequest ∷ kept) = RestartOnce sent held kept
RestartOnce sent held (Other ∷ kept) = RestartOnce sent held kept

-- at most one link-request, and nothing that means anything behind it
abbrev pub RequestLast : List Forward → Type 0
RequestLast [] = Unit {0}
RequestLast (ForwardPacket ack packet ∷ kept) = RequestLast kept
RequestLast (ForwardRestart ∷ kept) = RequestLast kept
RequestLast (ForwardRequest ∷ kept) = Lacks is_forward kept
RequestLast (Other ∷ kept) = RequestLast kept

-- at most one link-response, with the packet that is expected, and nothing that means anything
-- behind it
abbrev pub ResponseLast : (held : ℕ) → List Backward → Type 0
ResponseLast held [] = Unit {0}
ResponseLast held (Accept ack ∷ kept) = ResponseLast held kept
ResponseLast held (Retry ack ∷ kept) = ResponseLast held kept
ResponseLast held (Response ack ∷ kept) = (ack ≡ held % 32) × Lacks is_backward kept
ResponseLast held (Neutral ∷ kept) = ResponseLast held kept
