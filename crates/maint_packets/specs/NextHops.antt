-- Where a switch sends a packet that is first in one of its lists (RapidIO Interconnect
-- Specification 1.3, Part 3, routing and maintenance packets; that malformed packets and those of
-- transport types 2 and 3 are dropped is this project's profile).
use Rattle.std.specs.Prelude.{ℕ, ◌==◌, ◌&&◌, Bool, false, not, List, Option, Some, None, if◌then◌else◌}
use Rattle.std.specs.Option.{option_and_then}
use Rattle.rio_packets.specs.Fields.{dest_of, hop_of, ftype_of, is_maintenance, is_request}
use Rattle.rio_packets.specs.Hops.{lowered}
use Rattle.maint_registers.specs.Devices.{Registers}
use Rattle.maint_registers.specs.Routes.{next_port}
use Rattle.maint_packets.specs.declared.next_hop.Next.{Next}
use Rattle.maint_packets.specs.declared.next_hop.Next.TheVariants.{Nowhere, RegisterUnit, Port}

-- format type 8 without being a maintenance packet
abbrev pub is_foreign : List ℕ → Bool
is_foreign packet = (ftype_of packet == 8) && not (is_maintenance packet)

-- no hop is left
abbrev pub is_spent : Option ℕ → Bool
is_spent None = false
is_spent (Some hops) = hops == 0

-- a maintenance packet whose hop count is 0
abbrev pub is_at_end : List ℕ → Bool
is_at_end packet = is_spent (hop_of packet)

-- to a port, if one is named
abbrev pub to_port : Option ℕ → Next
to_port None = Nowhere
to_port (Some port) = Port port

-- Where a packet goes next, by the first rule that fits: a foreign packet is dropped; at the end of
-- its hops a request goes to the registers and any other maintenance packet is dropped; all others
-- go to the port that the table names for their destination, or are dropped if it names none or if
-- their transport type, 2 or 3, gives them no destination.
abbrev pub next_of : Registers → List ℕ → Next
next_of device packet =
    if is_foreign packet then Nowhere
    else (if is_at_end packet then (if is_request packet then RegisterUnit else Nowhere)
    else to_port (option_and_then (next_port device) (dest_of packet)))

-- a packet as it moves on: a maintenance packet with its hop count lowered
abbrev pub moved : List ℕ → List ℕ
moved packet = if is_maintenance packet then lowered packet else packet
