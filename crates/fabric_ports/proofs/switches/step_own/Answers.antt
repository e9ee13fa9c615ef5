use Rattle.std.proofs.Common.{refl}
use Rattle.link_port.specs.Ports.{AreAlike}
use Rattle.switch_core.proofs.FaceLaws.{AreAlike-same}
use Rattle.fabric_ports.proofs.switches.step_own.Goals as goal

pub returns-in_default-clause-alike : goal.returns-in_default-clause-alike
returns-in_default-clause-alike g c =
    AreAlike-same AreAlike (λ port. (refl, refl, refl, refl, refl)) c.args.own.now
