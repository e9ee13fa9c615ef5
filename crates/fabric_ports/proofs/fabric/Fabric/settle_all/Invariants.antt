use Rattle.std.proofs.Common.{List, take, Ok}
use Rattle.fabric_trace.specs.Blocks.{IsSettle}
use Rattle.fabric_trace.specs.Known.{Seen}
use Rattle.trace_lines.specs.Lines.{TraceLine}
use Rattle.fabric_trace.specs.Rounds.{SettleAll}
use Rattle.fabric_ports.specs.Ran.{Ran}
use Rattle.fabric_ports.specs.Standing.{Stands}
use Rattle.fabric_ports.proofs.fabric.Fabric.settle_all.Given as goal

abbrev pub invariant-loop-place : goal.invariant-loop-place
invariant-loop-place g l = (from : Seen) (lines : List TraceLine) → Stands from lines l.fn.self
    → Ran (λ s block. SettleAll IsSettle (take l.place from.network.links) s block)
    l.fn.writer l.writer from lines (Ok l.self)
