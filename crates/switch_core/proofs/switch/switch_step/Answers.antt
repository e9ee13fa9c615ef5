use Rattle.switch_core.proofs.FaceLaws.{AreAlike-same}
use Rattle.switch_core.proofs.switch.switch_step.Goals as goal

pub returns-in-None-clause-alike : goal.returns-in-None-clause-alike
returns-in-None-clause-alike g c = AreAlike-same g.P.PortFace.alike g.met.P.PortFace.alike_same
    c.args.ports.now
