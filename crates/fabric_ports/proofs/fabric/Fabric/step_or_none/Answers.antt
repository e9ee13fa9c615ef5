use Rattle.fabric_ports.proofs.StepEnds.{did_none}
use Rattle.fabric_ports.proofs.fabric.Fabric.step_or_none.Goals as goal

pub returns-then-not-step : goal.returns-then-not-step
returns-then-not-step g c = λ s shows sent by. did_none c.args.node
    (c.step.ensures s shows sent by) c.if-not-step.true c.write_lack.ensures
