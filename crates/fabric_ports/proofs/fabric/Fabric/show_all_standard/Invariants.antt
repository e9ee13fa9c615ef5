use Rattle.std.proofs.Common.{List, []}
use Rattle.fabric_trace.specs.Fold.{seen}
use Rattle.fabric_trace.specs.Known.{Seen}
use Rattle.trace_lines.specs.Lines.{TraceLine}
use Rattle.fabric_ports.specs.OwnRegisters.{with_standards}
use Rattle.fabric_ports.specs.Standing.{Stands}
use Rattle.fabric_ports.proofs.fabric.Fabric.show_all_standard.Given as goal

abbrev pub invariant-loop-place : goal.invariant-loop-place
invariant-loop-place l = (from : Seen) (lines : List TraceLine) → Stands from lines l.fn.self
    → Stands (with_standards l.place (seen from lines)) [] l.self
