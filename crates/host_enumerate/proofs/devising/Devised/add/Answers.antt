use Rattle.host_enumerate.proofs.Prelude.{◌<◌, length, ◌∙◌, sym, ap, subst, linked_at, length-with_device, MayDevise}
use Rattle.host_enumerate.proofs.devising.Devised.add.Goals as goal

pub tell_link-requires-in-Link-clause-node : goal.tell_link-requires-in-Link-clause-node
tell_link-requires-in-Link-clause-node c =
    let devices = c.args.self.now.devices.items in
    let may = subst (MayDevise devices) c.in-Link.is c.requires in
    let same = ap length c.tell_link.ensures
    ∙ length-with_device devices c.in-Link.a.node (linked_at c.in-Link.a.port) in
    subst (λ n. c.in-Link.b.node < n) (sym same) may.2
