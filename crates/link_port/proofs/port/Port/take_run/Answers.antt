use Rattle.std.proofs.Common.{sym, subst}
use Rattle.link_model.specs.Places.{IsBounded}
use Rattle.rio_framer.specs.Framing.{Framing}
use Rattle.link_port.proofs.RunLaws.{front_bounded}
use Rattle.link_port.proofs.port.Port.take_run.Goals as goal

pub invariant_of-self : goal.invariant_of-self
invariant_of-self c = (
  c.self.invariant.0,
  subst (λ (f : Framing). IsBounded f.place.text) (sym c.feed_run-count.ensures.state)
      (front_bounded _ _ c.self.invariant.1),
)
