use Rattle.std.proofs.Common.{List, Option, sym, ap, ◌∙◌, subst}
use Rattle.link_model.specs.declared.event.Event.{Event}
use Rattle.link_model.specs.Prelude.{telling_front, IsBounded}
use Rattle.rio_framer.specs.declared.events.Told.{Told}
use Rattle.rio_framer.specs.Framing.{Framing, framing_after}
use Rattle.rio_framer.specs.Giving.{listed, events_by}
use Rattle.link_port.specs.Ports.{PortState}
use Rattle.link_port.specs.Runs.{front_of, slot_after}
use Rattle.link_port.proofs.RunLaws.{front_bounded, front_events}
use Rattle.link_port.proofs.port.Port.read.Goals as goal
use Rattle.link_port.proofs.port.Port.read.Goals.{After-bounds}

pub invariant_of-self : goal.invariant_of-self
invariant_of-self c = (
  c.self.invariant.0,
  subst (λ (f : Framing). IsBounded f.place.text) (sym c.read_run-count.ensures.state)
      (front_bounded _ _ c.self.invariant.1),
)

-- the packet that ended, as the framer has it
abbrev ended_in : After-bounds → Option Event
ended_in c = (framing_after (telling_front c.self.inside.framer.place c.args.chars.now).step).ended

pub returns-clause-events : goal.returns-clause-events
returns-clause-events c =
    c.complete-completed.ensures.events
    ∙ ap (λ (f : Framing). listed (events_by c.read_run-count.result.1 f.ended).first
    (events_by c.read_run-count.result.1 f.ended).second)
    c.read_run-count.ensures.state
    ∙ ap (λ (t : Told). listed (events_by t (ended_in c)).first (events_by t (ended_in c)).second)
    c.read_run-count.ensures.told
    ∙ front_events c.self.inside.framer.place c.args.chars.now
    ∙ ap (λ (p : PortState). (front_of p c.args.chars.now).step.gives) c.self.view_is

pub returns-clause-slot : goal.returns-clause-slot
returns-clause-slot c =
    c.complete-completed.ensures.slot
    ∙ ap (λ (events : List Event). slot_after events c.args.packet.now) (returns-clause-events c)
