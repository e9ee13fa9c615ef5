use Rattle.std.proofs.Common.{◌∷◌, ap, ◌∙◌, rules, subst}
use Rattle.fabric_script.specs.Words.{words_left}
use Rattle.link_model.specs.ReadingSpelt.{bytes_with_ack}
use Rattle.port_lines.specs.Requests.{AsksRequest}
use Rattle.port_lines.specs.declared.requests.PortRequest.TheVariants.{Send}
use Rattle.conform_lines.proofs.ItemLaws.{rest_same}
use Rattle.conform_lines.proofs.items.read_link_bytes.Goals as goal

pub returns-in-None : goal.returns-in-None
returns-in-None c = λ bytes h.
    let none = rw c.in-None.is at c.in_ok-packet.ensures in
    let here = ap words_left c.in-Some.is ∙ c.split_word.ensures
    ∙ ap (λ r. c.split_word.result.0.now ∷ words_left r) c.in-Some-rest.is in
    none h.packet
    (subst (λ ws. AsksRequest (Send h.packet) ws) (rest_same h.words_are here) h.asks)

pub returns-in-Some-2 : goal.returns-in-Some-2
unfolding bytes_with_ack
returns-in-Some-2 c = search rules
