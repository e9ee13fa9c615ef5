-- Which need of a step is not met, in words.
use Rattle.std.specs.Prelude.{ℕ, List, ◌++◌, codes, Option, None, Some}
use Rattle.std.specs.Fmt.{decimal}
use Rattle.rio_chars.specs.HexText.{hex_of}
use Rattle.maint_packets.specs.declared.next_hop.Next.{Next}
use Rattle.maint_packets.specs.declared.next_hop.Next.TheVariants.{Nowhere, Port, RegisterUnit}
use Rattle.trace_check.specs.declared.unmet.Unmet.{Unmet}
use Rattle.trace_check.specs.declared.unmet.Unmet.TheVariants as U

-- the first packet behind one text, or the other if there is none
abbrev pub first_text : List ℕ → List ℕ → Option (List ℕ) → List ℕ
first_text some none None = none
first_text some none (Some packet) = some ++ hex_of packet

-- which way a packet goes
abbrev pub way_text : Option Next → List ℕ
way_text None = codes "; the node is no switch"
way_text (Some Nowhere) = codes "; the switch drops this packet"
way_text (Some RegisterUnit) = codes "; the registers of the switch answer this packet"
way_text (Some (Port port)) = codes "; the switch sends this packet to its port " ++ decimal port

-- the need that is not met
abbrev pub unmet_text : Unmet → List ℕ
unmet_text (U.Buffers free all prio needed) = codes "; " ++ (decimal free ++ (codes " of "
    ++ (decimal all ++ (codes " buffers of the port are free, and a packet of priority "
    ++ (decimal prio ++ (codes " needs " ++ decimal needed))))))
unmet_text (U.Waiting prio first) =
    first_text (codes "; the first packet of priority "
    ++ (decimal prio ++ codes " that waits at the peer is "))
    (codes "; no packet of priority " ++ (decimal prio ++ codes " waits at the peer")) first
unmet_text (U.Lent first) =
    first_text (codes "; the first packet that the peer held and the port did not free is ")
    (codes "; the peer never held a packet that the port did not free") first
unmet_text (U.Held prio first) =
    first_text (codes "; the first packet of priority "
    ++ (decimal prio ++ codes " that is held there is "))
    (codes "; no packet of priority " ++ (decimal prio ++ codes " is held there")) first
unmet_text (U.Place prio) = codes "; 16 packets of priority "
    ++ (decimal prio ++ codes " are to be sent there already")
unmet_text U.Endpoint = codes "; the node is no endpoint"
unmet_text U.NoRequest = codes "; the registers of the endpoint answer this packet, a request"
unmet_text U.Request = codes "; the packet is no request"
unmet_text (U.Way way) = way_text way
unmet_text U.Response = codes "; the registers answer with another packet"
