use Rattle.std.proofs.Common.{Some, ap, sym, ◌∙◌}
use Rattle.switch_core.specs.Faces.{faces_of}
use Rattle.switch_core.specs.SwitchSteps.{faces_after}
use Rattle.switch_core.proofs.GoingLaws.{moved_is}
use Rattle.switch_core.proofs.switch.step_from.Goals as goal

pub returns-in-Port-clause-faces : goal.returns-in-Port-clause-faces
returns-in-Port-clause-faces g c =
    let faces = faces_of g.P.PortFace.received g.P.PortFace.queued c.args.ports.now in
    let device = c.args.registers.now in
    let packet = c.copy-packet.result in
    let held = c.packet.ensures ∙ ap Some (sym c.copy-packet.ensures.same) in
    c.pass_on-in-Port.ensures.faces device c.requires
    ∙ ap (faces_after faces) (moved_is device faces c.args.going c.requires packet held
    c.in-Port.to c.in-Port.is).0
