-- What the layer above does to a port.
use Rattle.std.specs.Prelude.{◌≡◌, ℕ, ◌++◌, List}
use Rattle.link_buffers.specs.Queues.{list_at}
use Rattle.link_port.specs.Ports.{PortState, AreAlike}
use Rattle.link_watch.specs.declared.side.Side.{Side}
use Rattle.link_machine.specs.States.{LinkState, at_end}

-- It took received packets from the fronts of the lists, and put packets to be sent at the ends, as
-- many as it liked; the framer and both halves are as they were.
pub record IsServed (port next : PortState) : Type 0 where
  pub alike : AreAlike port next
  pub taken : (prio : ℕ) → (front : List (List ℕ))
      × (list_at port.received.lists prio ≡ front ++ list_at next.received.lists prio)
  pub put : (prio : ℕ) → (more : List (List ℕ))
      × (list_at next.queued prio ≡ list_at port.queued prio ++ more)

-- the port at this end becomes another
abbrev pub with_port : Side → PortState → LinkState → LinkState
with_port side next = at_end side (λ s. record s { a = next })
