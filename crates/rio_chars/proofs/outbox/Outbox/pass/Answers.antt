use Rattle.std.proofs.Common.{◌≡◌, [], ◌++◌, ap, refl, ◌∙◌}
use Rattle.rio_chars.proofs.WrittenLaws.{Writes-wrote}
use Rattle.rio_chars.proofs.outbox.Outbox.pass.Goals as goal

pub returns : goal.returns
returns g c =
    let bytes = c.args.bytes.now in
    let none : c.self.inside.buffer.now ≡ [] = ap (λ o. o.waiting) c.self.view_is ∙ c.requires in
    rw (← c.self.view_is)
    (Writes-wrote _ _ bytes bytes refl none (ap (λ l. l ++ bytes) none)
    c.write_unless-self-inside.ensures)
