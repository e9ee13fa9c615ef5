use Rattle.std.proofs.Common.{◌+◌, ◌*◌, ◌∷◌, List, ℕ, get_or, drop, ap, ◌∙◌, sym, subst}
use Rattle.rio_packets.specs.Carries.{Carries}
use Rattle.rio_packets.specs.LinkForm.{Passes}
use Rattle.rio_packets.proofs.CarriesLaws.{Carries-with_ack, carried-from_Carries}
use Rattle.rio_packets.proofs.packet.Packet.with_ack.Goals as goal

pub returns-clause-carries : goal.returns-clause-carries
returns-clause-carries c =
    let is =
    c.with_first.ensures
    ∙ ap (λ (p : List ℕ). (8 * c.args.ack + get_or p 0 0) ∷ drop 1 p)
    c.bytes-bytes.ensures.value in
    subst (λ (bytes : List ℕ). Carries bytes c.args.ack c.args.self.now) (sym is)
    (Carries-with_ack c.args.self.now c.args.ack c.requires
    (subst Passes c.bytes-bytes.ensures.value c.bytes-bytes.ensures.passes))

pub returns-clause-carried : goal.returns-clause-carried
returns-clause-carried c = carried-from_Carries _ _ _ (returns-clause-carries c)
