use Rattle.std.proofs.Common.{◌∙◌}
use Rattle.rio_framer.proofs.FeedingLaws.{events_more, stands_more, events_all, stands_all, events_read}
use Rattle.rio_framer.proofs.framer.Framer.feed_all.Goals as goal

pub loop-place-preserved : goal.loop-place-preserved
loop-place-preserved c = record {
  events =
      events_more c.loop-place.framer.place c.feed.new.self.place c.loop-place.place
      c.args.chars.now _ _ _ _ _ c.loop-place-test.true
      c.feed.ensures.place c.feed.ensures.gives c.in_ok-push_events.ensures
      c.loop-place.invariant.events;
  stands =
      stands_more c.loop-place.framer.place c.feed.new.self.place c.loop-place.place
      c.args.chars.now _ c.loop-place-test.true c.feed.ensures.place
      ∙ c.loop-place.invariant.stands;
}

pub returns-clause-events : goal.returns-clause-events
returns-clause-events c =
    events_all c.loop-place.framer.place c.loop-place.place c.args.chars.now _ _
    c.loop-place-test.false c.loop-place.invariant.events

pub returns-clause-place : goal.returns-clause-place
returns-clause-place c =
    stands_all c.loop-place.framer.place _ c.loop-place.place c.args.chars.now
    c.loop-place-test.false c.loop-place.invariant.stands

pub returns-clause-reads : goal.returns-clause-reads
returns-clause-reads c =
    events_read c.args.self.now.place c.args.chars.now c.loop-place.found.items
    (returns-clause-events c)
