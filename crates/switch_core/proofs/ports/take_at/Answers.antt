use Rattle.std.proofs.Common.{ap, ◌∙◌, sym}
use Rattle.switch_core.specs.Faces.{Face, without_head}
use Rattle.switch_core.proofs.FaceLaws.{face_at-port, faces_of-set, AreAlike-set}
use Rattle.switch_core.proofs.ports.take_at.Goals as goal

pub returns-clause-faces : goal.returns-clause-faces
returns-clause-faces g c =
    let rows = c.args.ports.now in
    let at = face_at-port g.P.PortFace.received g.P.PortFace.queued rows c.args.port
    c.index-ports-port.result c.requires.port in
    faces_of-set g.P.PortFace.received g.P.PortFace.queued rows c.args.port c.in_pop.new.self _
    ((λ i. record { received = c.in_pop.ensures.received i; queued = c.in_pop.ensures.queued i })
    ∙ ap (λ (face : Face). without_head face c.args.prio) (sym at))

pub returns-clause-alike : goal.returns-clause-alike
returns-clause-alike g c =
    AreAlike-set g.P.PortFace.alike g.met.P.PortFace.alike_same c.args.ports.now c.args.port
    c.index-ports-port.result c.in_pop.new.self c.in_pop.ensures.alike
