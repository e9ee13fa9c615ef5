-- What each port did, counted over the lines of a trace.
use Rattle.std.specs.Prelude.{ℕ, ◌+◌, ◌*◌, nat_lt, List, [], ◌∷◌, length, replicate, slice_index_or, slice_set, if◌then◌else◌}
use Rattle.fabric_script.specs.declared.ports.PortRef.{PortRef}
use Rattle.trace_lines.specs.declared.lines.TraceLine.{TraceLine}
use Rattle.trace_lines.specs.declared.lines.TraceLine.TheVariants as L
use Rattle.trace_lines.specs.declared.lines.NetworkStep.{NetworkStep}
use Rattle.trace_lines.specs.declared.lines.NetworkStep.TheVariants as S
use Rattle.trace_counts.specs.declared.sums.LineKind.{LineKind}
use Rattle.trace_counts.specs.declared.sums.LineKind.TheVariants as K
use Rattle.trace_counts.specs.Sums.{PortCounts, sent, kind_raised, nothing_done}

-- the place of a port in a list of 16 ports for each node
abbrev pub count_place : PortRef → ℕ
count_place p = p.node * 16 + p.port

-- the counts with those of one port changed
abbrev pub at_port : List PortCounts → PortRef → (PortCounts → PortCounts) → List PortCounts
at_port all p change = if nat_lt (count_place p) (length all)
    then slice_set all (count_place p) (change (slice_index_or all (count_place p) nothing_done))
    else all

-- a line of this kind names a port
abbrev pub with_line_kind : LineKind → PortCounts → PortCounts
with_line_kind kind c = record c { sums = record c.sums { lines = kind_raised c.sums.lines kind } }

-- the port of an endpoint
abbrev pub endpoint_port : ℕ → PortRef
endpoint_port node = record { node = node; port = 0 }

-- a step of a packet
abbrev pub with_step : List PortCounts → NetworkStep → List PortCounts
with_step all (S.Hold p packet) = at_port all p (with_line_kind K.Hold)
with_step all (S.Free p packet) = at_port all p (with_line_kind K.Free)
with_step all (S.Take n packet) = at_port all (endpoint_port n) (with_line_kind K.Take)
with_step all (S.Leave n packet) = at_port all (endpoint_port n) (with_line_kind K.Leave)
with_step all (S.Drop p packet) = at_port all p (with_line_kind K.Drop)
with_step all (S.Answer p request response) = at_port all p (with_line_kind K.Answer)
with_step all (S.Move p q packet) =
    at_port (at_port all p (with_line_kind K.MoveOut)) q (with_line_kind K.MoveIn)

-- a line of a trace
abbrev pub line_counted : List PortCounts → TraceLine → List PortCounts
line_counted all (L.Sent p chars) = at_port all p (λ c. sent c chars.items)
line_counted all (L.Fired p) = at_port all p (with_line_kind K.Fire)
line_counted all (L.Stepped step) = with_step all step
line_counted all (L.Begun line) = all
line_counted all (L.Got p chars) = all
line_counted all (L.Lacked lack) = all
line_counted all L.Ended = all
line_counted all (L.Undetected number p event) = all

abbrev pub counted_all : List PortCounts → List TraceLine → List PortCounts
counted_all all [] = all
counted_all all (l ∷ ls) = counted_all (line_counted all l) ls

-- what the ports of so many nodes did in these lines
abbrev pub counts_of_lines : ℕ → List TraceLine → List PortCounts
counts_of_lines nodes lines = counted_all (replicate (nodes * 16) nothing_done) lines
