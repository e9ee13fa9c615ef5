use Rattle.std.proofs.Common.{◌≡◌, ap, sym, subst, ◌∙◌}
use Rattle.link_model.specs.Places.{step}
use Rattle.rio_framer.specs.Framing.{Framing, framing_after}
use Rattle.rio_framer.specs.Giving.{listed, events_given, events_by, IsPaired}
use Rattle.rio_framer.specs.declared.events.Events.{Events}
use Rattle.rio_framer.specs.declared.events.Told.{Told}
use Rattle.rio_framer.proofs.GivingLaws.{listed-step, paired-step, events_by-step}
use Rattle.rio_framer.proofs.framer.Framer.feed.Goals as goal
use Rattle.rio_framer.proofs.framer.Framer.feed.Goals.{After-events}

exact : (c : After-events)
    → c.events.result ≡ events_given (step c.args.self.now.place c.args.c).gives
exact c = c.events.ensures
    ∙ ap (λ (f : Framing). events_by c.read-told.result f.ended) c.read-told.ensures.state
    ∙ ap (λ (t : Told). events_by t (framing_after (step c.args.self.now.place c.args.c)).ended)
    c.read-told.ensures.told
    ∙ events_by-step c.args.self.now.place c.args.c

pub returns-clause-exact : goal.returns-clause-exact
returns-clause-exact c = exact c

pub returns-clause-gives : goal.returns-clause-gives
returns-clause-gives c =
    ap (λ (e : Events). listed e.first e.second) (exact c)
    ∙ listed-step c.args.self.now.place c.args.c

pub returns-clause-paired : goal.returns-clause-paired
returns-clause-paired c =
    subst (λ (e : Events). IsPaired e.first e.second) (sym (exact c))
    (paired-step c.args.self.now.place c.args.c)
