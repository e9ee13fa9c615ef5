use Rattle.std.proofs.Common.{◌≡◌, ◌∷◌, List}
use Rattle.rio_chars.specs.Written.{Outgoing}
use Rattle.fabric_script.specs.declared.lines.Numbered.{Numbered}
use Rattle.fabric_ports.proofs.GatherLaws.{held_at}
use Rattle.io_rounds.specs.Tasks.{IoTask, Fetch}
use Rattle.io_rounds.specs.Going.{IoState}
use Rattle.io_rounds.specs.Course.{IoAt, IoArrived}
use Rattle.io_rounds.proofs.course.Course.take_all.Given as goal

abbrev pub invariant-loop : goal.invariant-loop
invariant-loop g l = (script : List Numbered) (begun : Outgoing) (first s : IoState)
    (rest : List IoTask)
    → IoAt begun l.fn.output l.names script first s l.fn.self
    → s.tasks ≡ Fetch l.node ∷ rest
    → IoArrived begun l.output l.names script first
    (Fetch l.node ∷ rest) l.self

abbrev pub decreases-loop : goal.decreases-loop
decreases-loop g l = held_at l.self.fabric l.node
