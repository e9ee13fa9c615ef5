use Rattle.std.proofs.Common.{◌≡◌, ◌/◌, ◌%◌, ◌∷◌, [], ◌++◌, ap, ◌∙◌, sym, arith}
use Rattle.rio_packets.proofs.StepLaws.{with_crc-is}
use Rattle.rio_packets.proofs.making.Draft.push_crc.Goals as goal

pub returns-clause-items : goal.returns-clause-items
returns-clause-items c =
    let before = c.args.self.now in
    let r = before.register in
    let small : r / 256 % 256 ≡ r / 256 = omega arith in
    c.push.ensures.items
    ∙ ap (λ t. before.bytes.items ++ t) (c.to_be_bytes.ensures ∙ ap (λ x. x ∷ r % 256 ∷ []) small)
    ∙ ap (λ n. before.bytes.items ++ n / 256 ∷ n % 256 ∷ []) before.runs
    ∙ sym (with_crc-is before.bytes.items)
