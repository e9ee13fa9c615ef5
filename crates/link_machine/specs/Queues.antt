-- The packets of a link as plain first-in first-out queues, and the steps of packets between them.
use Rattle.std.specs.Prelude.{◌≡◌, ℕ, true, ◌++◌, List, [], ◌∷◌, drop, slice_get, Some, map}
use Rattle.rio_packets.specs.Fields.{prio_of}
use Rattle.link_buffers.specs.Queues.{Buffered, list_at, popped, appended, room_for}
use Rattle.link_port.specs.Ports.{PortState}
use Rattle.link_sound.specs.Lent.{lent, waiting}
use Rattle.link_watch.specs.declared.note.Note.{Note}
use Rattle.link_watch.specs.declared.note.Note.TheVariants.{Sent, Got, Hold, Free, Fire}
use Rattle.link_watch.specs.declared.side.Side.{Side}
use Rattle.link_watch.specs.declared.side.Side.TheVariants.{A, B}
use Rattle.link_wires.specs.declared.moves.Move.{Move}
use Rattle.link_wires.specs.declared.moves.Move.TheVariants.{Held, Freed}
use Rattle.link_machine.specs.States.{LinkState}

-- of each port: the packets that the far port holds and this one has not freed, those that wait, by
-- priority, and those that it received
pub record Queues : Type 0 where
  pub lent_a : List (List ℕ)
  pub waiting_a : List (List (List ℕ))
  pub received_a : Buffered
  pub lent_b : List (List ℕ)
  pub waiting_b : List (List (List ℕ))
  pub received_b : Buffered

-- those of two ports
abbrev pub queues_between : PortState → PortState → Queues
queues_between a b = record {
  lent_a = lent a b;
  waiting_a = waiting a b;
  received_a = a.received;
  lent_b = lent b a;
  waiting_b = waiting b a;
  received_b = b.received;
}

abbrev pub queues_of : LinkState → Queues
queues_of s = queues_between s.a s.b

-- the ends in the other order
abbrev pub queues_round : Queues → Queues
queues_round q = record {
  lent_a = q.lent_b;
  waiting_a = q.waiting_b;
  received_a = q.received_b;
  lent_b = q.lent_a;
  waiting_b = q.waiting_a;
  received_b = q.received_a;
}

-- What a step of the first port needs: a packet that it holds is the first of its priority that
-- waits at the far port, and has room; one that it frees is the first that the far port holds of
-- it.
abbrev pub NeedsFirst : Move → Queues → Type 0
NeedsFirst (Held packet) q = (slice_get (list_at q.waiting_b (prio_of packet)) 0 ≡ Some packet)
    × (room_for q.received_a (prio_of packet) ≡ true)
NeedsFirst (Freed packet) q = slice_get q.lent_a 0 ≡ Some packet

-- what it does; nothing else moves
abbrev pub first_moved : Move → Queues → Queues
first_moved (Held packet) q = record q {
  lent_b = q.lent_b ++ packet ∷ [];
  waiting_b = popped q.waiting_b (prio_of packet);
  received_a = record q.received_a { lists = appended q.received_a.lists (prio_of packet) packet };
}
first_moved (Freed packet) q = record q { lent_a = drop 1 q.lent_a }

-- a step of the port at this end
pub record PortStep : Type 0 where
  pub side : Side
  pub move : Move

abbrev pub NeedsAt : Side → Move → Queues → Type 0
NeedsAt A move q = NeedsFirst move q
NeedsAt B move q = NeedsFirst move (queues_round q)

abbrev pub moved_at : Side → Move → Queues → Queues
moved_at A move q = first_moved move q
moved_at B move q = queues_round (first_moved move (queues_round q))

-- the steps of the port at one end
abbrev pub steps_at : Side → List Move → List PortStep
steps_at side moves = map (λ move. record { side = side; move = move }) moves

-- steps, one after another, lead from the first queues to the last
pub data Walks : Queues → List PortStep → Queues → Type 0 where
  WalkEnds : {q : Queues} → Walks q [] q
  WalkGoes : {q end : Queues} {steps : List PortStep} (side : Side) (move : Move)
      → NeedsAt side move q
      → Walks (moved_at side move q) steps end
      → Walks q (record { side = side; move = move } ∷ steps) end

-- the steps that notes name, in order
abbrev pub note_steps : List Note → List PortStep
note_steps [] = []
note_steps (Sent side chars ∷ notes) = note_steps notes
note_steps (Got side chars ∷ notes) = note_steps notes
note_steps (Hold side packet ∷ notes) =
    record { side = side; move = Held packet } ∷ note_steps notes
note_steps (Free side packet ∷ notes) =
    record { side = side; move = Freed packet } ∷ note_steps notes
note_steps (Fire side ∷ notes) = note_steps notes
