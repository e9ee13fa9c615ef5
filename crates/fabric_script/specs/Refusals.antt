-- The reasons that look at a whole line, whose words all say something.
use Rattle.std.specs.Prelude.{ℕ, ◌+◌, ◌%◌, Bool, true, false, ◌==◌, ◌&&◌, ◌||◌, not, nat_le, nat_lt, length}
use Rattle.rio_packets.specs.Making.{most_rest}
use Rattle.fabric_script.specs.declared.reasons.Reason.{Reason}
use Rattle.fabric_script.specs.declared.reasons.Reason.TheVariants.{PortOutside, PortTaken, IdTaken, BadLength, WrongKind, OutOfPlace, NotLinked, TooMuchWork}
use Rattle.fabric_script.specs.declared.lines.Line.{Line}
use Rattle.fabric_script.specs.declared.lines.Line.TheVariants.{Endpoint, Switch, Link, Route, Default, Large, Send, Read, Write, Send16, Read16, Write16, Pump, Deliver, Alter, Insert, Erase, Timeout, Settle, Move, Collect}
use Rattle.fabric_script.specs.Lines.{is_event}
use Rattle.fabric_script.specs.declared.known.Mode.{Mode}
use Rattle.fabric_script.specs.Known.{Known, ports_of, is_known_switch, has_id, has_large_id, same_port, is_linked, cost_of}

-- a port of a table: of the node, or 255 for none
abbrev pub is_outside : Known → ℕ → ℕ → Bool
is_outside known node p = not (p == 255) && nat_le (ports_of known.nodes node) p

-- the lengths that data may have, in a packet with 16-bit device IDs or in one with 8-bit IDs: an
-- even number of bytes, not more than the packet takes; of a maintenance packet, those of its forms
abbrev pub is_bad_length : Bool → ℕ → ℕ → Bool
is_bad_length large ftype count = not (count % 2 == 0) || nat_lt (most_rest large) count
    || ((ftype == 8) && not (nat_le 6 count && nat_le count 70 && (count % 8 == 6)))

-- 6: a port of a table is neither 255 nor one of the node's
abbrev pub entry_is_outside : Known → Line → Bool
entry_is_outside known (Route node id p) = is_outside known node p
entry_is_outside known (Default node p) = is_outside known node p
entry_is_outside known _ = false

-- 7: a port has an earlier link, or both are one
abbrev pub port_is_taken : Known → Line → Bool
port_is_taken known (Link a b) =
    same_port a b || (is_linked known.links a || is_linked known.links b)
port_is_taken known _ = false

-- 8: an earlier endpoint has the device ID, or another one has the 16-bit device ID by then
abbrev pub id_is_taken : Known → Line → Bool
id_is_taken known (Endpoint name id) = not (id == 255) && has_id known.nodes id
id_is_taken known (Large node id) = not (id == 65535) && has_large_id known.large_ids node id
id_is_taken known _ = false

-- 10: data has a length that it may not have
abbrev pub length_is_bad : Line → Bool
length_is_bad (Send node prio ftype dest hex) = is_bad_length false ftype (length hex)
length_is_bad (Send16 node prio ftype dest hex) = is_bad_length true ftype (length hex)
length_is_bad _ = false

-- 11: the node is an endpoint where a switch is wanted, or a switch where an endpoint is
abbrev pub kind_is_wrong : Known → Line → Bool
kind_is_wrong known (Route node id p) = not (is_known_switch known.nodes node)
kind_is_wrong known (Default node p) = not (is_known_switch known.nodes node)
kind_is_wrong known (Move node) = not (is_known_switch known.nodes node)
kind_is_wrong known (Large node id) = is_known_switch known.nodes node
kind_is_wrong known (Send node prio ftype dest hex) = is_known_switch known.nodes node
kind_is_wrong known (Read node prio dest hop tid offset) = is_known_switch known.nodes node
kind_is_wrong known (Write node prio dest hop tid offset value) = is_known_switch known.nodes node
kind_is_wrong known (Send16 node prio ftype dest hex) = is_known_switch known.nodes node
kind_is_wrong known (Read16 node prio dest hop tid offset) = is_known_switch known.nodes node
kind_is_wrong known (Write16 node prio dest hop tid offset value) = is_known_switch known.nodes node
kind_is_wrong known (Collect node) = is_known_switch known.nodes node
kind_is_wrong known _ = false

-- 12: a line of set-up stands behind an event. Among set-up lines alone it is any event, and if one
-- event is wanted it is any line of set-up.
abbrev pub out_of_place_in : Mode → Bool → Bool → Bool
out_of_place_in Mode.Script begun event = begun && not event
out_of_place_in Mode.SetUp begun event = event
out_of_place_in Mode.Event begun event = not event

abbrev pub out_of_place : Known → Line → Bool
out_of_place known line = out_of_place_in known.mode known.begun (is_event line)

-- 13: the port has no link
abbrev pub not_linked : Known → Line → Bool
not_linked known (Pump port n) = not (is_linked known.links port)
not_linked known (Deliver port n) = not (is_linked known.links port)
not_linked known (Alter port place ch) = not (is_linked known.links port)
not_linked known (Insert port place ch) = not (is_linked known.links port)
not_linked known (Erase port place n) = not (is_linked known.links port)
not_linked known (Timeout port) = not (is_linked known.links port)
not_linked known (Settle port) = not (is_linked known.links port)
not_linked known _ = false

abbrev pub makes_node : Line → Bool
makes_node (Endpoint name id) = true
makes_node (Switch name ports) = true
makes_node _ = false

-- of one event alone no cost is counted
abbrev pub counts_work : Mode → Bool
counts_work Mode.Script = true
counts_work Mode.SetUp = true
counts_work Mode.Event = false

-- it is the 65th node, or the cost up to and with the line is above 100,000
abbrev pub exceeds : Known → Line → Bool
exceeds known line = (makes_node line && nat_le 64 (length known.names))
    || nat_lt 100000 (known.cost + cost_of known.links line)

-- 14: the bounds are exceeded, if work is counted
abbrev pub too_much_work : Known → Line → Bool
too_much_work known line = counts_work known.mode && exceeds known line

-- a reason hits the line
abbrev pub refuses : Known → Reason → Line → Bool
refuses known PortOutside line = entry_is_outside known line
refuses known PortTaken line = port_is_taken known line
refuses known IdTaken line = id_is_taken known line
refuses known BadLength line = length_is_bad line
refuses known WrongKind line = kind_is_wrong known line
refuses known OutOfPlace line = out_of_place known line
refuses known NotLinked line = not_linked known line
refuses known TooMuchWork line = too_much_work known line
refuses known _ line = false
