-- A port with no protocol, and what passes between two of them.
use Rattle.std.specs.Prelude.{ℕ, List, Option, Some, None, true, slice_get, if◌then◌else◌}
use Rattle.rio_packets.specs.Fields.{prio_of}
use Rattle.link_buffers.specs.Prelude.{Buffered, list_at, popped, room_for, stored, highest}

-- what contracts see of a port with no protocol: the packets to be sent, and those that came in
pub record PlainStores : Type 0 where
  pub queued : List (List (List ℕ))
  pub received : Buffered

-- the first packet of a priority, where it has room
abbrev pub first_with_room : List (List (List ℕ)) → Buffered → Option ℕ → Option (List ℕ)
first_with_room queued received None = None
first_with_room queued received (Some prio) =
    if room_for received prio then slice_get (list_at queued prio) 0 else None

-- the packet that passes: the first one of the highest priority that has one, where it has room
abbrev pub passing : PlainStores → PlainStores → Option (List ℕ)
passing from to = first_with_room from.queued to.received (highest from.queued)

-- it leaves the one
abbrev pub without : PlainStores → List ℕ → PlainStores
without from packet = record from { queued = popped from.queued (prio_of packet) }

-- it comes to the other
abbrev pub with : PlainStores → List ℕ → PlainStores
with to packet = record to { received = stored true to.received packet }
