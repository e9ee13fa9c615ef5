-- What a port tells of its receive buffers.
use Rattle.std.specs.Prelude.{ℕ, ◌-◌, Bool, List, if◌then◌else◌}
use Rattle.rio_packets.specs.Fields.{prio_of}
use Rattle.link_buffers.specs.Queues.{Buffered, packet_count, room_for, stored}
use Rattle.link_model.specs.Input.{Arrival, packet_arrival}
use Rattle.link_model.specs.Reports.{untold}

-- the buffer status of a port: its free buffers, if it tells them
abbrev pub buffer_status : Bool → Buffered → ℕ
buffer_status tells store = if tells then store.buffers - packet_count store.lists else untold

-- A good packet with an ackID, where another is expected, as it comes to a store. The buffer status
-- that answers it is that after the packet is stored.
abbrev pub comes_to : Bool → Buffered → (expected ack : ℕ) → List ℕ → Arrival
comes_to tells store expected ack packet =
    let room = room_for store (prio_of packet) in
    packet_arrival expected ack room (buffer_status tells (stored room store packet))
