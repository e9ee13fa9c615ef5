-- Events, and the event of a packet's bytes.
use Rattle.std.specs.Prelude.{Result, Ok, Err, ℕ, ◌==◌, ◌&&◌, Bool, false, nat_eq, nat_lt, List, length, Option, Some, None, if◌then◌else◌}
use Rattle.std.specs.Cmp.Lexicographic.{pointwise}
use Rattle.rio_symbols.specs.Fields.{Fields}
use Rattle.rio_packets.specs.Carries.{carried}
use Rattle.rio_packets.specs.CauseNumbers.{number_of}
use Rattle.rio_packets.specs.declared.cause.Cause.{Cause}
use Rattle.rio_packets.specs.declared.cause.Cause.TheVariants.{BadPacket, General}
use Rattle.link_model.specs.declared.event.Event.{Event}
use Rattle.link_model.specs.declared.event.Event.TheVariants.{Ctl, Pkt, Bad}

-- what is found, or else the cause why nothing is
abbrev pub packet_or_cause : Option (ℕ × List ℕ) → Cause → Event
packet_or_cause (Some found) cause = Pkt found.0 found.1
packet_or_cause None cause = Bad cause

-- The event of the bytes between the symbols of a packet: the packet that they carry, or why they
-- carry none.
unfoldable pub packet_event : List ℕ → Event
packet_event bytes =
    packet_or_cause (carried bytes) (if nat_lt (length bytes) 8 then General else BadPacket)

-- the event of what a receiver answers of bytes
abbrev pub checked_event : Result (ℕ × List ℕ) Cause → Event
checked_event (Ok found) = Pkt found.0 found.1
checked_event (Err cause) = Bad cause

-- whether two symbols have the same fields
abbrev pub same_fields : Fields → Fields → Bool
same_fields s t =
    (s.s0 == t.s0) && ((s.p0 == t.p0) && ((s.p1 == t.p1) && ((s.s1 == t.s1) && (s.cmd == t.cmd))))

-- whether two events are equal
abbrev pub same_event : Event → Event → Bool
same_event (Ctl s) (Ctl t) = same_fields s t
same_event (Pkt a p) (Pkt b q) = (a == b) && pointwise nat_eq p q
same_event (Bad c) (Bad d) = number_of c == number_of d
same_event _ _ = false
