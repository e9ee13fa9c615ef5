use Rattle.std.proofs.Common.{◌≡◌, ap, sym, subst, ◌∙◌}
use Rattle.link_model.specs.Fronts.{telling_front}
use Rattle.rio_framer.specs.Framing.{Framing, framing_after}
use Rattle.rio_framer.specs.Giving.{listed, events_given, events_by, IsPaired}
use Rattle.rio_framer.specs.declared.events.Events.{Events}
use Rattle.rio_framer.specs.declared.events.Told.{Told}
use Rattle.rio_framer.proofs.GivingLaws.{listed-front, paired-front, events_by-front}
use Rattle.rio_framer.proofs.framer.Framer.feed_run.Goals as goal
use Rattle.rio_framer.proofs.framer.Framer.feed_run.Goals.{After-events}

exact : (c : After-events)
    → c.events.result
    ≡ events_given (telling_front c.args.self.now.place c.args.chars.now).step.gives
exact c = c.events.ensures
    ∙ ap (λ (f : Framing). events_by c.read_run-count.result.1 f.ended)
    c.read_run-count.ensures.state
    ∙ ap (λ (t : Told). events_by t (framing_after (telling_front c.args.self.now.place
    c.args.chars.now).step).ended) c.read_run-count.ensures.told
    ∙ events_by-front c.args.self.now.place c.args.chars.now

pub returns-clause-exact : goal.returns-clause-exact
returns-clause-exact c = exact c

pub returns-clause-gives : goal.returns-clause-gives
returns-clause-gives c =
    ap (λ (e : Events). listed e.first e.second) (exact c)
    ∙ listed-front c.args.self.now.place c.args.chars.now

pub returns-clause-paired : goal.returns-clause-paired
returns-clause-paired c =
    subst (λ (e : Events). IsPaired e.first e.second) (sym (exact c))
    (paired-front c.args.self.now.place c.args.chars.now)
