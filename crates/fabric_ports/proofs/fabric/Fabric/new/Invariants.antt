use Rattle.fabric_ports.proofs.NewLaws.{PlansFirst}
use Rattle.fabric_ports.proofs.fabric.Fabric.new.Given as goal

abbrev pub invariant-loop-numbered : goal.invariant-loop-numbered
invariant-loop-numbered l = PlansFirst l.plan l.script.lines.items l.numbered-index
