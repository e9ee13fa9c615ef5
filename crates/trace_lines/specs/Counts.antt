-- How many lines of packets a trace has.
use Rattle.std.specs.Prelude.{ℕ, ◌+◌, ◌-◌, ◌^◌, List, min}
use Rattle.std.specs.List.{fold}
use Rattle.fabric_model.specs.Steps.{Take, Leave, Move, Drop, Answer, Step, Linked, AtNode, ByDevice}
use Rattle.trace_lines.specs.Lines.{TraceLine, Begun, Stepped, Signed, Lacked, Ended, Undetected}
use Rattle.trace_lines.specs.declared.counts.PacketCounts.{PacketCounts}

-- the counts of no lines
abbrev pub nothing_counted : PacketCounts
nothing_counted = record { taken = 0; left = 0; dropped = 0 }

-- one more: a count stands still at its greatest value
abbrev pub count_raised : ℕ → ℕ
count_raised count = min (count + 1) (2 ^ 32 - 1)

-- the counts with a step
abbrev pub with_step_counted : PacketCounts → Step → PacketCounts
with_step_counted counts (Linked step) = counts
with_step_counted counts (AtNode (Take n packet)) =
    record counts { taken = count_raised counts.taken }
with_step_counted counts (AtNode (Leave n packet)) =
    record counts { left = count_raised counts.left }
with_step_counted counts (ByDevice (Move p q packet)) = counts
with_step_counted counts (ByDevice (Drop p packet)) =
    record counts { dropped = count_raised counts.dropped }
with_step_counted counts (ByDevice (Answer p packet response)) = counts

-- the counts with a line
abbrev pub with_line_counted : PacketCounts → TraceLine → PacketCounts
with_line_counted counts (Begun line) = counts
with_line_counted counts (Stepped step) = with_step_counted counts step
with_line_counted counts (Signed sign) = counts
with_line_counted counts (Lacked lack) = counts
with_line_counted counts Ended = counts
with_line_counted counts (Undetected number q e) = counts

-- the counts with these lines
abbrev pub with_lines_counted : PacketCounts → List TraceLine → PacketCounts
with_lines_counted counts lines = fold with_line_counted counts lines
