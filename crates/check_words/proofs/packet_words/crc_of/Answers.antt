use Rattle.std.proofs.Common.{◌/◌, ◌%◌, sym, ap, ◌∙◌, subst}
use Rattle.rio_packets.specs.LinkForm.{IsCrc}
use Rattle.rio_packets.specs.Register.{running}
use Rattle.rio_packets.proofs.CrcLaws.{IsCrc-halves}
use Rattle.check_words.proofs.packet_words.crc_of.Goals as goal

pub returns : goal.returns
returns c =
    let message = c.args.message.now in
    let high = c.high.ensures ∙ ap (λ n. n / 256) c.run-register.ensures in
    let low = c.low.ensures ∙ ap (λ n. n % 256) c.run-register.ensures in
    subst (λ y. IsCrc message c.high.result y) (sym low)
    (subst (λ x. IsCrc message x (running message % 256)) (sym high)
    (IsCrc-halves message c.requires.some c.requires.bytes))
