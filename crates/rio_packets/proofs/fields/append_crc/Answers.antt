use Rattle.std.proofs.Common.{◌≡◌, ◌/◌, ◌%◌, [], ◌∷◌, ◌++◌, ap, ◌∙◌, sym, arith}
use Rattle.rio_packets.specs.Register.{running}
use Rattle.rio_packets.proofs.StepLaws.{closed-is}
use Rattle.rio_packets.proofs.fields.append_crc.Goals as goal

pub returns-clause-items : goal.returns-clause-items
returns-clause-items c =
    let message = c.args.bytes.now.items in
    let r = c.run-register.result in
    let small : r / 256 % 256 ≡ r / 256 = omega arith in
    let is : r ≡ running message = c.run-register.ensures ∙ ap running c.as_slice.ensures.value in
    c.append.ensures
    ∙ ap (λ t. message ++ t) (c.to_be_bytes.ensures ∙ ap (λ x. x ∷ r % 256 ∷ []) small)
    ∙ ap (λ n. message ++ n / 256 ∷ n % 256 ∷ []) is ∙ sym (closed-is message)
