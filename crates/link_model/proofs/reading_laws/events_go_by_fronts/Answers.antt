use Rattle.link_model.proofs.FrontLaws.{front-count, front-some, front-all, front-place, run-telling_front, front-given}
use Rattle.link_model.proofs.reading_laws.events_go_by_fronts.Goals as goal

pub returns : goal.returns
returns c = record {
  count = front-count;
  some = front-some;
  all = front-all;
  place = front-place;
  events = run-telling_front;
  two = front-given;
}
