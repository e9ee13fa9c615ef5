use Rattle.std.proofs.Common.{ap, ◌∙◌}
use Rattle.link_law.specs.Resting.{has_no_work}
use Rattle.fabric_ports.proofs.EndLaws.{link_there}
use Rattle.fabric_ports.proofs.fabric.Fabric.is_idle.Goals as goal

pub returns : goal.returns
returns c = λ s a b shows at.
    c.has_no_work.ensures
    ∙ ap has_no_work (link_there c.args.place c.index-cable.result.now shows c.requires.within
    c.index-cable.ensures c.place.ensures.place c.place-2.ensures.place c.index-a.ensures
    c.index-b.ensures a b at)
