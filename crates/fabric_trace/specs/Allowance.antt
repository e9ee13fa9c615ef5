-- How many packets a port may free by what it got, and that it frees no more, by the lines alone.
use Rattle.std.specs.Prelude.{◌≡◌, ℕ, suc, ◌+◌, ◌%◌, ◌<◌, ◌==◌, true, List, [], ◌∷◌, ◌++◌, if◌then◌else◌}
use Rattle.rio_chars.specs.declared.chars.Char.{Char}
use Rattle.link_model.specs.declared.event.Event.{Event}
use Rattle.link_model.specs.declared.event.Event.TheVariants.{Ctl, Pkt, Bad}
use Rattle.link_model.specs.Outstanding.{distance}
use Rattle.link_model.specs.Output.{Stype0, PacketAccepted, PacketRetry, PacketNotAccepted, LinkResponse, OtherStype0, stype0}
use Rattle.fabric_script.specs.declared.ports.PortRef.{PortRef}
use Rattle.fabric_model.specs.Network.{same_port}
use Rattle.fabric_model.specs.Steps.{Free, Linked}
use Rattle.fabric_trace.specs.Fold.{says}
use Rattle.trace_lines.specs.Lines.{Got, TraceLine, Stepped, Signed}

-- ---- the allowance

-- An acceptance of the packet whose turn it is raises it by one; a link-response raises it to the
-- next number that has its ackID modulo 32.
abbrev pub raised_by : Stype0 → ℕ → ℕ → ℕ
raised_by PacketAccepted n ack = if ack == n % 32 then n + 1 else n
raised_by PacketRetry n ack = n
raised_by PacketNotAccepted n ack = n
raised_by LinkResponse n ack = n + distance (n % 32) ack
raised_by OtherStype0 n ack = n

abbrev pub raised : ℕ → Event → ℕ
raised n (Ctl symbol) = raised_by (stype0 symbol.s0) n symbol.p0
raised n (Pkt ack packet) = n
raised n (Bad cause) = n

-- after events
abbrev pub raised_all : ℕ → List Event → ℕ
raised_all n [] = n
raised_all n (e ∷ events) = raised_all (raised n e) events

-- how many packets a port may free that got these characters
abbrev pub allowance : List Char → ℕ
allowance chars = raised_all 0 (says chars)

-- ---- along lines

-- all that a port got, and how many packets it freed, with one more line
abbrev pub got_with : PortRef → List Char → TraceLine → List Char
got_with p chars (Signed (Got q more)) = if same_port p q then chars ++ more else chars
got_with p chars _ = chars

abbrev pub freed_with : PortRef → ℕ → TraceLine → ℕ
freed_with p j (Stepped (Linked (Free q packet))) = if same_port p q then suc j else j
freed_with p j _ = j

abbrev pub FreeAllowed : PortRef → List Char → ℕ → TraceLine → Type 0
FreeAllowed p chars j (Stepped (Linked (Free q packet))) =
    same_port p q ≡ true → j < allowance chars
FreeAllowed p chars j _ = Unit {0}

-- At each free of a port its allowance, by all that it got before, is above the number of packets
-- that it freed before.
abbrev pub FreesAllowed : PortRef → List Char → ℕ → List TraceLine → Type 0
FreesAllowed p chars j [] = Unit {0}
FreesAllowed p chars j (line ∷ lines) = FreeAllowed p chars j line
    × FreesAllowed p (got_with p chars line) (freed_with p j line) lines
