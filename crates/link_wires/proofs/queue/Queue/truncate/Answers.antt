use Rattle.std.proofs.Common.{◌∙◌, ap, take, drop}
use Rattle.std.proofs.lemmas.List.{drop-take}
use Rattle.link_wires.proofs.queue.Queue.truncate.Goals as goal

pub returns : goal.returns
returns g c =
    let head = c.self.inside.head in
    ap (drop head) c.truncate.ensures.items
    ∙ drop-take head c.args.left c.self.inside.items.items
    ∙ ap (take c.args.left) c.self.view_is
