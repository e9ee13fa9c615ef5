-- A line that asks for a packet again.
use Rattle.std.specs.Prelude.{List, [], ◌∷◌}
use Rattle.rio_symbols.specs.Fields.{Fields}
use Rattle.link_model.specs.Symbols.{packet_retry}
use Rattle.link_wires.specs.Wires.{answers}
use Rattle.trace_lines.specs.Lines.{Sent, TraceLine, Signed}
use Rattle.fabric_trace.specs.Examples.{near}

-- a packet-retry for the ackID 0, of a port that does not tell its free buffers
abbrev pub one_retry : List Fields
one_retry = packet_retry 0 31 ∷ []

abbrev pub retry_sent : TraceLine
retry_sent = Signed (Sent near (answers one_retry).chars)
