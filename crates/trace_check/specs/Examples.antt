-- The trace of one packet, and lines in it that each reason but the form hits.
use Rattle.std.specs.Prelude.{ℕ, List, [], ◌∷◌, ◌++◌, codes, take}
use Rattle.rio_chars.specs.declared.chars.Char.TheVariants.{Data}
use Rattle.fabric_script.specs.declared.lines.Line.TheVariants.{Endpoint, Link, Alter}
use Rattle.fabric_script.specs.Known.{Known, nothing_in, of_set_up, known_after}
use Rattle.fabric_script.specs.SetUps.{for_event}
use Rattle.fabric_model.specs.Network.{Network}
use Rattle.fabric_model.specs.Laws.Examples.{packet, other}
use Rattle.fabric_model.specs.Steps.{Hold, Free, Take, Leave, Linked, AtNode}
use Rattle.trace_lines.specs.Lines.{Short, Sent, Got, Fired, TraceLine, Begun, Stepped, Signed, Lacked, Ended}
use Rattle.fabric_trace.specs.Runs.{bare, set_up_all}
use Rattle.fabric_trace.specs.Examples.{near, far, packet_chars, accepted_chars, packet_script, packet_trace}

-- the two endpoints of the trace and their link
abbrev pub packet_network : Network
packet_network = set_up_all bare packet_script

-- the packet stands on the wire
abbrev pub once_sent : List TraceLine
once_sent = take 4 packet_trace

-- a front of it came
abbrev pub half_got : List TraceLine
half_got = once_sent ++ Signed (Got far (take 8 packet_chars)) ∷ []

-- it came
abbrev pub once_got : List TraceLine
once_got = take 6 packet_trace

-- it is held
abbrev pub once_held : List TraceLine
once_held = take 7 packet_trace

-- its acceptance is on its way
abbrev pub once_accepted : List TraceLine
once_accepted = take 8 packet_trace

-- it is freed
abbrev pub once_freed : List TraceLine
once_freed = take 11 packet_trace

abbrev pub sent_line : TraceLine
sent_line = Signed (Sent near packet_chars)

abbrev pub got_line : TraceLine
got_line = Signed (Got far packet_chars)

abbrev pub fire_line : TraceLine
fire_line = Signed (Fired near)

abbrev pub hold_line : TraceLine
hold_line = Stepped (Linked (Hold far packet))

abbrev pub other_hold_line : TraceLine
other_hold_line = Stepped (Linked (Hold far other))

abbrev pub free_line : TraceLine
free_line = Stepped (Linked (Free near packet))

abbrev pub leave_line : TraceLine
leave_line = Stepped (AtNode (Leave 1 packet))

-- the character behind the last of the packet, and the last
abbrev pub alters_behind : TraceLine
alters_behind = Begun (Alter near 20 (Data 0))

abbrev pub alters_last : TraceLine
alters_last = Begun (Alter near 19 (Data 0))

-- the wire was too short
abbrev pub says_short : List TraceLine
says_short = Lacked Short ∷ []

-- ---- texts of a trace without event lines

-- the two endpoints have names
abbrev pub packet_known : Known
packet_known = for_event (known_after (known_after (known_after (nothing_in of_set_up) (codes "A")
    (Endpoint 0 1)) (codes "B") (Endpoint 1 2)) [] (Link near far))

-- the packet on the wire, and its end
abbrev pub packet_on_wire : List ℕ
packet_on_wire =
    codes " k7c d80 df8 d1f d00 d0f d02 d01 dca dfe d00 d01 da9 dbb d00 d00 k7c d80 dfa d18"

abbrev pub packet_texts : List (List ℕ)
packet_texts =
    codes "take A 000f0201cafe0001a9bb0000"
    ∷ (codes "sent A.0" ++ packet_on_wire) ∷ (codes "got B.0" ++ packet_on_wire)
    ∷ codes "hold B.0 000f0201cafe0001a9bb0000"
    ∷ codes "sent B.0 k1c d00 dff d16"
    ∷ codes "got A.0 k1c d00 dff d16"
    ∷ codes "free A.0 000f0201cafe0001a9bb0000"
    ∷ codes "leave B 000f0201cafe0001a9bb0000"
    ∷ codes "end"
    ∷ []

abbrev pub packet_lines : List TraceLine
packet_lines =
    Stepped (AtNode (Take 0 packet)) ∷ sent_line ∷ got_line ∷ hold_line
    ∷ Signed (Sent far accepted_chars) ∷ Signed (Got near accepted_chars) ∷ free_line
    ∷ leave_line ∷ Ended ∷ []

-- the packet is freed before its acceptance came
abbrev pub freed_early : List (List ℕ)
freed_early =
    take 5 packet_texts ++ codes "free A.0 000f0201cafe0001a9bb0000" ∷ codes "end" ∷ []
