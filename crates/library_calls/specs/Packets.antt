-- What is done with packets of an open port.
use Rattle.std.specs.Prelude.{◌≡◌, ℕ, ◌<◌, true, false, List, Some, None, length, slice_get}
use Rattle.rio_packets.specs.Fields.{prio_of}
use Rattle.rio_packets.specs.LinkForm.{IsBadLength}
use Rattle.link_buffers.specs.Prelude.{list_at, appended, highest}
use Rattle.link_port.specs.Ports.{PortState}
use Rattle.port_lines.specs.Answers.{port_has_room}
use Rattle.port_lines.specs.Taking.{without_first_held}
use Rattle.library_calls.specs.declared.status.CallStatus.{CallStatus}
use Rattle.library_calls.specs.declared.status.CallStatus.TheVariants.{Done, Argument, Full, Empty}
use Rattle.library_calls.specs.declared.told.PacketHeader.{PacketHeader}
use Rattle.library_calls.specs.PortsSeen.{PortSeen, seen_at}
use Rattle.library_calls.specs.Rooms.{laid_over}
use Rattle.library_calls.specs.Headers.{HeaderFits, header_body, Makes}

-- the port with a packet more to be sent
abbrev pub with_queued : PortState → List ℕ → PortState
with_queued port packet =
    record port { queued = appended port.queued (prio_of packet) packet }

-- The packet was put to those to be sent; or its priority has no room; or a field is out of range,
-- or the length of the packet is. Then nothing was done.
abbrev pub PacketSends : PacketHeader → List ℕ → PortSeen → CallStatus → PortSeen → Type 0
PacketSends header rest old Done new = (packet : List ℕ) × Makes header rest packet
    × (port_has_room old.port (prio_of packet) ≡ true)
    × (new ≡ seen_at old (with_queued old.port packet))
PacketSends header rest old Full new = (packet : List ℕ) × Makes header rest packet
    × (port_has_room old.port (prio_of packet) ≡ false) × (new ≡ old)
PacketSends header rest old Argument new =
    (HeaderFits header → IsBadLength (header_body header rest)) × (new ≡ old)
PacketSends header rest old _ new = ⊥

-- The first held packet of the highest priority was taken, and stands in the room.
pub record PacketTaken (old : PortSeen) (room room_after : List ℕ) (count : ℕ) (new : PortSeen)
    : Type 0 where
  pub prio : ℕ
  pub packet : List ℕ
  pub is_highest : highest old.port.received.lists ≡ Some prio
  pub is_first : slice_get (list_at old.port.received.lists prio) 0 ≡ Some packet
  pub taken : new ≡ seen_at old (without_first_held old.port prio)
  pub room_is : room_after ≡ laid_over packet room
  pub count_is : count ≡ length packet

-- nothing was taken
pub record PacketStays (old : PortSeen) (room room_after : List ℕ) (count : ℕ) (new : PortSeen)
    : Type 0 where
  pub same : new ≡ old
  pub room_same : room_after ≡ room
  pub none : count ≡ 0

-- A packet was taken; or none is held; or there is room for fewer bytes than a packet has at most.
abbrev pub PacketCollects : List ℕ → List ℕ → ℕ → PortSeen → CallStatus → PortSeen → Type 0
PacketCollects room room_after count old Done new =
    PacketTaken old room room_after count new
PacketCollects room room_after count old Empty new =
    (highest old.port.received.lists ≡ None) × PacketStays old room room_after count new
PacketCollects room room_after count old Argument new =
    (length room < 276) × PacketStays old room room_after count new
PacketCollects room room_after count old _ new = ⊥
