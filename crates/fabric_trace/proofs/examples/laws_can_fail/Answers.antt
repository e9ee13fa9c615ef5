use Rattle.fabric_trace.proofs.Worked.WorkedRuns.{elsewhere_breaks, joined_breaks, held_breaks, came_breaks, order_breaks, got_breaks, another_breaks, sent_breaks, fired_breaks}
use Rattle.fabric_trace.proofs.examples.laws_can_fail.Goals as goal

pub returns : goal.returns
returns c = record {
  elsewhere = elsewhere_breaks;
  joined = joined_breaks;
  held = held_breaks;
  came = came_breaks;
  order = order_breaks;
  got = got_breaks;
  another = another_breaks;
  sent = sent_breaks;
  fired = fired_breaks;
}
