-- Ports as the lists that they have.
use Rattle.std.specs.Prelude.{ℕ, Bool, nat_lt, List, [], ◌∷◌, length, map, slice_get, slice_set, slice_index_or, Option}
use Rattle.rio_packets.specs.Fields.{prio_of}
use Rattle.link_buffers.specs.Queues.{list_at, appended, popped, no_packets}

-- the packets that a port has received, and those that it has to send, each with a list for each
-- priority
pub record Face : Type 0 where
  pub received : List (List (List ℕ))
  pub queued : List (List (List ℕ))

-- the lists of a port
abbrev pub face_of : {P : Type 0}
    → (P → List (List (List ℕ))) → (P → List (List (List ℕ))) → P → Face
face_of received queued port = record { received = received port; queued = queued port }

-- the lists of each port
abbrev pub faces_of : {P : Type 0}
    → (P → List (List (List ℕ))) → (P → List (List (List ℕ))) → List P → List Face
faces_of received queued ports = map (face_of received queued) ports

-- the lists of port n
abbrev pub face_at : List Face → ℕ → Face
face_at faces n = slice_index_or faces n record { received = no_packets; queued = no_packets }

-- the first packet of a priority that was received
abbrev pub head_of : Face → ℕ → Option (List ℕ)
head_of face prio = slice_get (list_at face.received prio) 0

-- whether a packet of a priority may be put to those to be sent: fewer than 16 wait there (this
-- project's profile)
abbrev pub has_room : Face → ℕ → Bool
has_room face prio = nat_lt (length (list_at face.queued prio)) 16

-- without the first received packet of a priority
abbrev pub without_head : Face → ℕ → Face
without_head face prio = record face { received = popped face.received prio }

-- with a packet more to be sent
abbrev pub with_packet : Face → List ℕ → Face
with_packet face packet = record face { queued = appended face.queued (prio_of packet) packet }

-- the same at port n
abbrev pub taken_at : List Face → ℕ → ℕ → List Face
taken_at faces n prio = slice_set faces n (without_head (face_at faces n) prio)

abbrev pub put_at : List Face → ℕ → List ℕ → List Face
put_at faces n packet = slice_set faces n (with_packet (face_at faces n) packet)

-- each port is alike to what it was
abbrev pub AllAlike : {P : Type 0} → (P → P → Type 0) → List P → List P → Type 0
AllAlike alike [] [] = Unit {0}
AllAlike alike (p ∷ ps) (q ∷ qs) = alike p q × AllAlike alike ps qs
AllAlike alike [] (q ∷ qs) = ⊥
AllAlike alike (p ∷ ps) [] = ⊥
