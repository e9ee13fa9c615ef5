use Rattle.std.proofs.Common.{◌∙◌, ap, slice_set}
use Rattle.std.proofs.lemmas.List.{drop-set-add}
use Rattle.link_wires.proofs.queue.Queue+Char.set.Goals as goal

pub returns : goal.returns
returns c =
    drop-set-add c.self.inside.head c.self.inside.items.items c.args.place c.args.ch
    ∙ ap (λ queue. slice_set queue c.args.place c.args.ch) c.self.view_is
