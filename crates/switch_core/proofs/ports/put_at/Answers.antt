use Rattle.std.proofs.Common.{ap, ◌∙◌, sym}
use Rattle.switch_core.specs.Faces.{Face, with_packet}
use Rattle.switch_core.proofs.FaceLaws.{face_at-port, faces_of-set, AreAlike-set}
use Rattle.switch_core.proofs.ports.put_at.Goals as goal

pub returns-clause-faces : goal.returns-clause-faces
returns-clause-faces g c =
    let rows = c.args.ports.now in
    let at = face_at-port g.P.PortFace.received g.P.PortFace.queued rows c.args.port
    c.index-ports-port.result c.requires.port in
    faces_of-set g.P.PortFace.received g.P.PortFace.queued rows c.args.port c.out_put.new.self _
    ((λ i. record { received = c.out_put.ensures.received i; queued = c.out_put.ensures.queued i })
    ∙ ap (λ (face : Face). with_packet face c.args.packet) (sym at))

pub returns-clause-alike : goal.returns-clause-alike
returns-clause-alike g c =
    AreAlike-set g.P.PortFace.alike g.met.P.PortFace.alike_same c.args.ports.now c.args.port
    c.index-ports-port.result c.out_put.new.self c.out_put.ensures.alike
