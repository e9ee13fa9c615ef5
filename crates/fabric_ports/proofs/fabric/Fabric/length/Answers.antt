use Rattle.std.proofs.Common.{ap, ◌∙◌, length}
use Rattle.fabric_ports.proofs.EditLaws.{edit_chars}
use Rattle.fabric_ports.proofs.fabric.Fabric.length.Goals as goal

pub returns : goal.returns
returns c = λ from lines stands.
    c.length.ensures ∙ ap (λ l. length l)
    (edit_chars c.args.self.now c.args.port c.link_of-place.result c.link_of-place.ensures
    c.index.result.now c.index.ensures stands)
