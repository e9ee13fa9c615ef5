use Rattle.std.proofs.Common.{[], ◌∷◌, ◌++◌, take, ap, ◌∙◌, sym}
use Rattle.rio_packets.specs.Hops.{closed, message_ended}
use Rattle.rio_packets.proofs.fields.renew_crc.Goals as goal

pub returns-then-large : goal.returns-then-large
returns-then-large c =
    let message = take c.args.place c.args.form.now.items in
    c.append.ensures
    ∙ ap (λ t. t ++ 0 ∷ 0 ∷ []) (c.append_crc.ensures.items ∙ ap closed c.truncate.ensures.items)
    ∙ ap (λ b. message_ended b message) (sym c.if-large.true)

pub returns-else-large : goal.returns-else-large
returns-else-large c =
    let message = take c.args.place c.args.form.now.items in
    c.append_crc.ensures.items ∙ ap closed c.truncate.ensures.items
    ∙ ap (λ b. message_ended b message) (sym c.if-large.false)
